-- `files::writer::put_gate` meets its contract. Assumes nothing.
use Rattle.lists.proofs.PartLaws.{put_one, put_then}
use native.Mathlib.Omega.{arith}
use mathlib.Core.List.{[], ◌∷◌}
use Prim.Native.Nat.{◌+◌}
use Rattle.files.proofs.writer.put_gate.Goals as goal

pub returns : goal.returns
returns c = let s = c.args in put_then s.file.now _ _ s.at (s.at + 1) (s.mask ∷ []) _ (put_one s.file.now s.at s.mask) c.put_u32.ensures (omega arith)

-- Bounds of what the tables hold, read from the words. Assumes nothing.
use Rattle.std.proofs.Common.{◌≡◌, ℕ, ◌+◌, ◌*◌, ◌<◌, List, get_or, arith}
use Rattle.merge.specs.Inside.Tables.{view, Sound}
use Rattle.merge.specs.Inside.Table.{first, second}
use Rattle.merge.proofs.View.{read}
use lib.Ieee.{Float}

-- edge f's ends, at p and q
pub ends_in : (m n : ℕ) (w : List ℕ) (d : List Float) (f : ℕ) → Sound m n (view m n w d) → f < m → (p q : ℕ) → p ≡ 3 * m + f → q ≡ 4 * m + f → (get_or w p 0 < n) × (get_or w q 0 < n)
ends_in m n w d f h lt p q a b = rw (a, b) (omega (arith, h.within first f lt, read first m n w d f lt), omega (arith, h.within second f lt, read second m n w d f lt))

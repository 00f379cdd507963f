-- `edges::edges::Shape::sees` meets its contract. Assumes nothing.
use Rattle.std.proofs.Common.{◌≡◌, suc, ◌-◌, ◌*◌, ◌<◌}
use Rattle.edges.proofs.Looking.{Stepped}
use Rattle.edges.specs.Edges.{sees, look}
use Rattle.edges.proofs.edges.Shape.sees.Given as goal

abbrev pub invariant-loop-skipped : goal.invariant-loop-skipped
invariant-loop-skipped l = (l.h < l.self.rays * l.self.gates) × (sees l.self l.labels l.d l.g ≡ look l.self l.d l.labels (suc (l.most - l.skipped)) l.h) × Stepped l.self l.d l.labels l.g l.skipped l.h

-- A test of each merge, such as question 9's: the whole passes exactly if each side passes.
-- Assumes nothing.
use Prim.Native.Nat.{ℕ}
use mathlib.Core.Path.{◌≡◌, ap, ◌∙◌}
use mathlib.Core.Logic.{◌↔◌}
use mathlib.Core.Bool.{Bool}
use Rattle.lists.specs.Seq.{keep, All}
use Rattle.lists.proofs.AllLaws.{all_keep, all_both}
use Rattle.network.specs.Network.{State, Event, merges, trace}
use Rattle.network.proofs.Restrict.{restrict, Closed, event_in, trace_in}
use Rattle.locality.proofs.Locality.{other, closed_other}
use Rattle.network.proofs.Own.{merges_in}

unfoldable pub Accepted : (Event → Type 0) → State → Type 0
Accepted Ok s = All Ok (trace s (merges s))

side : (Ok : Event → Type 0) (p q : ℕ → Bool) (s : State) → Closed p q s → keep (event_in p q) (trace s (merges s)) ≡ trace (restrict p q s) (merges (restrict p q s))
side Ok p q s c = trace_in p q (merges s) s c ∙ ap (trace (restrict p q s)) (merges_in p q s c)

pub accepted_sides : (Ok : Event → Type 0) (p q : ℕ → Bool) (s : State) → Closed p q s → Accepted Ok s ↔ (Accepted Ok (restrict p q s) × Accepted Ok (restrict (other p) (other q) s))
unfolding Accepted event_in other
accepted_sides Ok p q s c =
    let here : keep (event_in p q) (trace s (merges s)) ≡ trace (restrict p q s) (merges (restrict p q s)) = side Ok p q s c in
    let there : keep (event_in (other p) (other q)) (trace s (merges s)) ≡ trace (restrict (other p) (other q) s) (merges (restrict (other p) (other q) s)) = side Ok (other p) (other q) s (closed_other p q s c) in (
      λ t. (rw here at (all_keep Ok (event_in p q) (trace s (merges s)) t), rw there at (all_keep Ok (event_in (other p) (other q)) (trace s (merges s)) t)),
      λ t. all_both Ok (event_in p q) (trace s (merges s)) (rw here t.0) (rw there t.1),
    )

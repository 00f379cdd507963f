-- The run of the network until no edge is live or question 9 says no, and the answers of a turn and of a run.
use Rattle.std.specs.Prelude.{Bool, cond, List, ℕ, zero, suc, ◌+◌, length, ℤ, pos, ◌+ℤ◌, unsigned_abs, Result, Ok, Err}
use Rattle.std.proofs.Math.Option.{Option, none, some}
use Rattle.lists.specs.Seq.{all}
use Rattle.network.specs.Network.{Edge, State, event, step, choose, trace, replay, in_range, bounded}
use Rattle.network.specs.declared.network.Turned.{Turned}
use Rattle.network.specs.declared.network.Turned.TheVariants.{Merged, Ended}
use Rattle.merge.specs.declared.merge.MergeRefused.{MergeRefused}

-- the last state and the number of merges
pub record Done : Type 0 where
  pub last : State
  pub merges : ℕ

-- what the next step and the rest come to: the last state and the number of merges, k so far; none at a refusal
unfoldable pub onward : Option Edge → State → ℕ → (State → ℕ → Option Done) → Option Done
onward none t k rest = some (record { last = t; merges = k })
onward (some e) t k rest = cond (in_range (event t e.num)) (rest (step t e.num) (suc k)) none

unfoldable pub settle : ℕ → State → ℕ → Option Done
settle zero t k = some (record { last = t; merges = k })
settle (suc f) t k = onward (choose t.edges) t k (settle f)

-- the same by a merge list: accepted exactly if every event of it is, with the replay's last state
unfoldable pub outcome : State → List ℕ → ℕ → Option Done
outcome t l k = cond (all in_range (trace t l)) (some (record { last = replay t l; merges = k + length l })) none

-- a refusal by question 9
abbrev pub refused : {A : Type 0} → Result A MergeRefused
refused = Err (record {})

-- a merge's number as a word, with 1000 added, or question 9's refusal
unfoldable pub number_by : ℤ → Result ℕ MergeRefused
number_by z = cond (bounded 1000 z) (Ok (unsigned_abs (z +ℤ pos 1000))) refused

-- the answer of a run by its end
unfoldable pub ran_of : Option Done → Result ℕ MergeRefused
ran_of none = refused
ran_of (some o) = Ok o.merges

-- the answer of a merge by question 9's
unfoldable pub merged_by : Bool → Result Turned MergeRefused
merged_by b = cond b (Ok Merged) refused

-- the answer of a turn by the edge chosen
unfoldable pub turned_by : State → Option Edge → Result Turned MergeRefused
turned_by t none = Ok Ended
turned_by t (some e) = merged_by (in_range (event t e.num))

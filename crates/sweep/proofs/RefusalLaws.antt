-- What an answer of the code says where it is a plan. Assumes nothing.
use Rattle.std.proofs.Common.{◌≡◌, subst}
use Rattle.std.specs.Prelude.{Result, Ok, IfOk}
use Rattle.sweep.specs.declared.refusal.Refusal.{Refusal}

-- what is known of an answer that is not refused holds of its value
pub plan_of : {A : Type 0} (P : A → Type 0) (r : Result A Refusal) (x : A) → IfOk r P → r ≡ Ok x → P x
plan_of {A = A} P r x h e = let Q : Result A Refusal → Type 0 = λ y. IfOk y P in subst Q e h

-- Rays filled one after another are the sweep and the state of one call. Assumes nothing.
use Rattle.std.proofs.Common.{◌≡◌, ℕ, zero, suc, ◌+◌, ◌*◌, true, List, [], ◌∷◌, ◌++◌, map, sym, refl, ap, ◌∙◌, add-mul, zero-mul, arith}
use Rattle.lists.specs.Seq.{upto, tabulate}
use Rattle.lists.proofs.SeqLaws.{map_append}
use Rattle.test_sweep.specs.declared.generator.Gate.{Gate}
use Rattle.test_sweep.specs.Generator.{next_state, state_after, gate_of, gate_at, velocities, mask_bytes}
use Rattle.test_sweep.specs.Call.{Slices, slices_of, filled, FillAnswer, fill_answer_by, call_fill}
use Rattle.test_sweep.specs.Theorems.{Part, total, Accepted, in_parts, InParts}
use Rattle.test_sweep.proofs.CallLaws.{none_missed, fill_accepted, fill_answer_is}

-- ---- tables one after another

upto_add : (m n k : ℕ) → upto (m + n) k ≡ upto m k ++ upto n (k + m)
unfolding upto
upto_add zero n k = ap (λ (j : ℕ). upto j k) {x = 0 + n} {y = n} (omega arith) ∙ ap (upto n) {x = k} {y = k + 0} (omega arith)
upto_add (suc m) n k =
    ap (λ (j : ℕ). upto j k) {x = suc m + n} {y = suc (m + n)} (omega arith)
    ∙ ap (λ (l : List ℕ). k ∷ l) (upto_add m n (suc k))
    ∙ ap (λ (j : ℕ). k ∷ (upto m (suc k) ++ upto n j)) {x = suc k + m} {y = k + suc m} (omega arith)

-- a table from m on is the table of the moved function
map_from : {A : Type 0} (f g : ℕ → A) (m : ℕ) → ((i : ℕ) → f (m + i) ≡ g i) → (n k : ℕ) → map f (upto n (m + k)) ≡ map g (upto n k)
unfolding upto
map_from f g m h zero k = refl
map_from f g m h (suc n) k =
    (λ i. h k i ∷ map f (upto n (suc (m + k))))
    ∙ ap (λ (t : List _). g k ∷ t) (ap (λ (j : ℕ). map f (upto n j)) {x = suc (m + k)} {y = m + suc k} (omega arith) ∙ map_from f g m h n (suc k))

table_add : {A : Type 0} (f g : ℕ → A) (m n : ℕ) → ((i : ℕ) → f (m + i) ≡ g i) → tabulate (m + n) f ≡ tabulate m f ++ tabulate n g
unfolding tabulate
table_add f g m n h =
    ap (map f) (upto_add m n 0) ∙ map_append f (upto m 0) (upto n (0 + m))
    ∙ ap (λ (t : List _). map f (upto m 0) ++ t) (ap (λ (j : ℕ). map f (upto n j)) {x = 0 + m} {y = m + 0} (omega arith) ∙ map_from f g m h n 0)

-- ---- gates one after another

after_add : (m n state : ℕ) → state_after (m + n) state ≡ state_after n (state_after m state)
unfolding state_after
after_add m zero state = ap (λ (j : ℕ). state_after j state) {x = m + 0} {y = m} (omega arith)
after_add m (suc n) state = ap (λ (j : ℕ). state_after j state) {x = m + suc n} {y = suc (m + n)} (omega arith) ∙ ap next_state (after_add m n state)

gate_after : (m state g : ℕ) → gate_at state (m + g) ≡ gate_at (state_after m state) g
unfolding gate_at state_after
gate_after m state g = ap (λ (x : ℕ). gate_of (next_state x)) (after_add m g state)

-- n more gates after m
filled_add : (m n state : ℕ) → filled (m + n) state ≡ slices_of (velocities m state ++ velocities n (state_after m state)) (mask_bytes m state ++ mask_bytes n (state_after m state))
unfolding filled velocities mask_bytes
filled_add m n state = λ i.
    slices_of
    (table_add (λ g. (gate_at state g).velocity) (λ g. (gate_at (state_after m state) g).velocity) m n (λ g. ap (λ (x : Gate). x.velocity) (gate_after m state g)) i)
    (table_add (λ g. (gate_at state g).valid) (λ g. (gate_at (state_after m state) g).valid) m n (λ g. ap (λ (x : Gate). x.valid) (gate_after m state g)) i)

-- what a call leaves that answers 0
abbrev made : ℕ → ℕ → FillAnswer
made n state = fill_answer_by 0 (state_after n state) (filled n state)

accepted_is : (rays gates state : ℕ) (m : Slices) → (call_fill rays gates state m).number ≡ 0 → call_fill rays gates state m ≡ made (rays * gates) state
accepted_is rays gates state m e = fill_accepted rays gates state m (none_missed rays gates m true _ (fill_answer_is rays gates state m) e)

-- no rays
none_made : (gates state : ℕ) → fill_answer_by 0 state (slices_of [] []) ≡ made (0 * gates) state
unfolding state_after filled velocities mask_bytes tabulate upto
none_made gates state = ap (λ (j : ℕ). made j state) (sym (zero-mul gates))

-- one call's slices before those of the rest
abbrev before : FillAnswer → FillAnswer → FillAnswer
before a b = fill_answer_by 0 b.state (slices_of (a.slices.vel ++ b.slices.vel) (a.slices.mask ++ b.slices.mask))

made_before : (m n state : ℕ) → before (made m state) (made n (state_after m state)) ≡ made (m + n) state
unfolding filled
made_before m n state = λ i. fill_answer_by 0 (sym (after_add m n state) i) (sym (filled_add m n state) i)

parts_made : (gates state : ℕ) (ps : List Part) → Accepted gates state ps → in_parts gates state ps ≡ made (total ps * gates) state
unfolding in_parts total
parts_made gates state [] a = none_made gates state
parts_made gates state (p ∷ ps) a =
    let first = call_fill p.rays gates state p.slices in
    let is = accepted_is p.rays gates state p.slices a.0 in
    ap (before first) (parts_made gates first.state ps a.1)
    ∙ ap (λ (x : FillAnswer). before x (made (total ps * gates) x.state)) is
    ∙ made_before (p.rays * gates) (total ps * gates) state
    ∙ ap (λ (j : ℕ). made j state) (sym (add-mul p.rays (total ps) gates))

pub in_parts_lem : InParts
in_parts_lem gates state ps m a e = parts_made gates state ps a ∙ sym (accepted_is (total ps) gates state m e)

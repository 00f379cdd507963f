-- Counts and gains kept as words add up as the whole numbers do; sizes of nodes after a merge. Assumes nothing.
use mathlib.Core.Path.{◌≡◌, refl, sym, ap, ◌∙◌}
use mathlib.Core.Logic.{⊎_elim}
use mathlib.Core.Bool.{Bool, true, false, ◌&&◌, cond, true≢false}
use mathlib.Core.List.{List, [], ◌∷◌, map}
use Prim.Native.Nat.{ℕ, suc, ◌+◌, ◌-◌, ◌≤◌, ◌<◌}
use native.Mathlib.Omega.{arith}
use lib.Dec.{leb, eqb}
use lib.IntN.{pos, negsuc, sub_ℕ, ◌+ℤ◌, +ℤ_comm}
use borrow.Author.Tests.{lt-ltb, le-ltb, le-leb, lt-leb, eqb-true}
use Rattle.network.specs.Network.{Region, Plan, size_of, move, bounded, gates_of}
use Rattle.merge.specs.Inside.Steps.{unbias, count_in_range}
use Rattle.merge.proofs.Bias.{lt_or_le, unbias_up, unbias_down, sub_low, sub_high}
use Rattle.network.proofs.Moved.{same_no}

mixed : (c g : ℕ) → 1000 ≤ c → g < 1000 → unbias c +ℤ unbias g ≡ sub_ℕ (c + g) 2000
mixed c g p q = ⊎_elim
    (λ h. rw (unbias_up c p, unbias_down g q) (sub_low (c - 1000) (suc (999 - g)) (omega arith) ∙ ap negsuc (omega arith) ∙ sym (sub_low (c + g) 2000 h)))
    (λ h. rw (unbias_up c p, unbias_down g q) (sub_high (c - 1000) (suc (999 - g)) (omega arith) ∙ ap pos (omega arith) ∙ sym (sub_high (c + g) 2000 h)))
    (lt_or_le (c + g) 2000)

unbias_sum : (c g : ℕ) → unbias c +ℤ unbias g ≡ sub_ℕ (c + g) 2000
unbias_sum c g = ⊎_elim
    (λ p. ⊎_elim
    (λ q. rw (unbias_down c p, unbias_down g q) (ap negsuc (omega arith) ∙ sym (sub_low (c + g) 2000 (omega arith))))
    (λ q. let z : g + c ≡ c + g = omega arith in +ℤ_comm (unbias c) (unbias g) ∙ mixed g c q p ∙ ap (λ (x : ℕ). sub_ℕ x 2000) z)
    (lt_or_le g 1000))
    (λ p. ⊎_elim
    (λ q. mixed c g p q)
    (λ q. rw (unbias_up c p, unbias_up g q) (ap pos (omega arith) ∙ sym (sub_high (c + g) 2000 (omega arith))))
    (lt_or_le g 1000))
    (lt_or_le c 1000)

-- question 9 on words is question 9 on whole numbers
pub accepts_is : (c g : ℕ) → count_in_range (c + g) ≡ bounded 1000 (unbias c +ℤ unbias g)
unfolding count_in_range bounded
accepts_is c g = rw (unbias_sum c g) (go (c + g))
  where
    go : (t : ℕ) → (leb 1000 t && leb t 3000) ≡ bounded 1000 (sub_ℕ t 2000)
    go t = ⊎_elim
        (λ p. rw (sub_low t 2000 p) (⊎_elim
        (λ q. rw (lt-leb 1000 t q, le-ltb (2000 - suc t) 1000 (omega arith)) refl)
        (λ q. rw (le-leb 1000 t q, le-leb t 3000 (omega arith), lt-ltb (2000 - suc t) 1000 (omega arith)) refl)
        (lt_or_le t 1000)))
        (λ p. rw (sub_high t 2000 p) (⊎_elim
        (λ q. rw (le-leb 1000 t (omega arith), lt-leb t 3000 q, lt-leb (t - 2000) 1000 (omega arith)) refl)
        (λ q. rw (le-leb 1000 t (omega arith), le-leb t 3000 q, le-leb (t - 2000) 1000 (omega arith)) refl)
        (lt_or_le 3000 t)))
        (lt_or_le t 2000)

pub accepted_sum : (c g : ℕ) → count_in_range (c + g) ≡ true → unbias (c + g - 1000) ≡ unbias c +ℤ unbias g
unfolding count_in_range
accepted_sum c g h = ⊎_elim
    (λ p. absurd (true≢false (sym h ∙ (rw (lt-leb 1000 (c + g) p) refl))))
    (λ p. go (c + g) p ∙ sym (unbias_sum c g))
    (lt_or_le (c + g) 1000)
  where
    go : (t : ℕ) → 1000 ≤ t → unbias (t - 1000) ≡ sub_ℕ t 2000
    go t p = ⊎_elim
        (λ q. unbias_down (t - 1000) (omega arith) ∙ ap negsuc (omega arith) ∙ sym (sub_low t 2000 q))
        (λ q. unbias_up (t - 1000) (omega arith) ∙ ap pos (omega arith) ∙ sym (sub_high t 2000 q))
        (lt_or_le t 2000)

-- ---- sizes
pub size_else : (pl : Plan) (x : ℕ) → (x ≡ pl.base → ⊥) → (x ≡ pl.moved → ⊥) → (rs : List Region) → size_of (map (move pl) rs) x ≡ size_of rs x
unfolding size_of move
size_else pl x nb nv [] = refl
size_else pl x nb nv (r ∷ rs) = go (eqb pl.moved r.node) refl (size_else pl x nb nv rs)
  where
    go : (t : Bool) → eqb pl.moved r.node ≡ t → size_of (map (move pl) rs) x ≡ size_of rs x
        → cond (eqb x (cond t pl.base r.node)) r.size 0 + size_of (map (move pl) rs) x ≡ cond (eqb x r.node) r.size 0 + size_of rs x
    go true h ih =
        let a : eqb x pl.base ≡ false = same_no x pl.base nb in
        let c : eqb x r.node ≡ false = same_no x r.node (λ w. nv (w ∙ sym (eqb-true pl.moved r.node h))) in
        rw (a, c) (omega arith)
    go false h ih = omega arith

pub size_two : (a b : ℕ) → (a ≡ b → ⊥) → (rs : List Region) → size_of rs a + size_of rs b ≤ gates_of rs
unfolding size_of gates_of
size_two a b n [] = omega arith
size_two a b n (r ∷ rs) = go (eqb a r.node) refl (eqb b r.node) refl (size_two a b n rs)
  where
    go : (x : Bool) → eqb a r.node ≡ x → (y : Bool) → eqb b r.node ≡ y → size_of rs a + size_of rs b ≤ gates_of rs
        → (cond x r.size 0 + size_of rs a) + (cond y r.size 0 + size_of rs b) ≤ r.size + gates_of rs
    go true p true q ih = absurd (n (eqb-true a r.node p ∙ sym (eqb-true b r.node q)))
    go true p false q ih = omega arith
    go false p true q ih = omega arith
    go false p false q ih = omega arith

pub gates_move : (pl : Plan) (rs : List Region) → gates_of (map (move pl) rs) ≡ gates_of rs
unfolding gates_of move
gates_move pl [] = refl
gates_move pl (r ∷ rs) = ap (λ (x : ℕ). r.size + x) (gates_move pl rs)

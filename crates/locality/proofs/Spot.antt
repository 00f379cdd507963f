-- The places of a list's true flags, counted: place i of those that pass is place `spot flags i` of all. Assumes nothing.
use Prim.Native.Nat.{ℕ, zero, suc, ◌+◌, ◌≤◌, ◌<◌}
use native.Mathlib.Omega.{arith}
use mathlib.Core.Path.{◌≡◌, refl, ap, ◌∙◌}
use mathlib.Core.Bool.{Bool, true, false}
use mathlib.Core.List.{List, [], ◌∷◌, ◌++◌, map}
use lib.Dec.{ltb}
use lib.ListN.{length, get_or}
use borrow.Author.Tests.{ltb-true, ltb-false}
use Rattle.lists.specs.Seq.{upto, keep}

-- the place of the i-th true flag; past the last one it counts on, so that it rises everywhere
unfoldable pub spot : List Bool → ℕ → ℕ
spot [] i = i
spot (true ∷ bs) zero = 0
spot (true ∷ bs) (suc i) = suc (spot bs i)
spot (false ∷ bs) i = suc (spot bs i)

-- how many flags are true
unfoldable pub trues : List Bool → ℕ
trues [] = 0
trues (true ∷ bs) = suc (trues bs)
trues (false ∷ bs) = trues bs

-- sums that count places on
pub zero_plus : (i : ℕ) → 0 + i ≡ i
zero_plus i = omega arith

pub one_plus : (i : ℕ) → 1 + i ≡ suc i
one_plus i = omega arith

pub next_place : (k i : ℕ) → suc k + i ≡ k + suc i
next_place k i = omega arith

pub spot_rises : (bs : List Bool) (i j : ℕ) → i < j → spot bs i < spot bs j
unfolding spot
spot_rises [] i j h = h
spot_rises (true ∷ bs) zero zero h = absurd (omega arith)
spot_rises (true ∷ bs) zero (suc j) h = omega arith
spot_rises (true ∷ bs) (suc i) zero h = absurd (omega arith)
spot_rises (true ∷ bs) (suc i) (suc j) h = omega (arith, spot_rises bs i j (omega arith))
spot_rises (false ∷ bs) i j h = omega (arith, spot_rises bs i j h)

pub spot_low : (bs cs : List Bool) (i : ℕ) → i < trues bs → spot (bs ++ cs) i ≡ spot bs i
unfolding spot trues
spot_low [] cs i h = absurd (omega arith)
spot_low (true ∷ bs) cs zero h = refl
spot_low (true ∷ bs) cs (suc i) h = ap suc (spot_low bs cs i (omega arith))
spot_low (false ∷ bs) cs i h = ap suc (spot_low bs cs i h)

pub spot_high : (bs cs : List Bool) (i : ℕ) → spot (bs ++ cs) (trues bs + i) ≡ length bs + spot cs i
unfolding spot trues
spot_high [] cs i = let w : 0 + i ≡ i = omega arith in rw w (omega arith)
spot_high (true ∷ bs) cs i =
    let w : suc (trues bs) + i ≡ suc (trues bs + i) = omega arith in
    rw w (omega (arith, spot_high bs cs i))
spot_high (false ∷ bs) cs i = omega (arith, spot_high bs cs i)

pub trues_append : (bs cs : List Bool) → trues (bs ++ cs) ≡ trues bs + trues cs
unfolding trues
trues_append [] cs = omega arith
trues_append (true ∷ bs) cs = omega (arith, trues_append bs cs)
trues_append (false ∷ bs) cs = trues_append bs cs

-- the true places are the spots
spots_kept : (t : ℕ → Bool) (ρ : ℕ → ℕ) (bs : List Bool) (k m : ℕ) → ((i : ℕ) → i < length bs → t (k + i) ≡ get_or bs i false) → ((i : ℕ) → ρ (m + i) ≡ k + spot bs i)
    → keep t (upto (length bs) k) ≡ map ρ (upto (trues bs) m)
unfolding keep upto trues spot
spots_kept t ρ [] k m h r = refl
spots_kept t ρ (true ∷ bs) k m h r =
    let z : k + 0 ≡ k = omega arith in
    let y : m + 0 ≡ m = omega arith in
    let a : t k ≡ true = rw z at (h 0 (omega arith)) in
    let b : ρ m ≡ k = rw (y, z) at (r 0) in
    rw (a, b, spots_kept t ρ bs (suc k) (suc m) (λ i w. ap t (omega arith) ∙ h (suc i) (omega arith)) (λ i. ap ρ (omega arith) ∙ r (suc i) ∙ omega arith)) refl
spots_kept t ρ (false ∷ bs) k m h r =
    let z : k + 0 ≡ k = omega arith in
    let a : t k ≡ false = rw z at (h 0 (omega arith)) in
    rw (a, spots_kept t ρ bs (suc k) m (λ i w. ap t (omega arith) ∙ h (suc i) (omega arith)) (λ i. r i ∙ omega arith)) refl

-- a rising map is one to one
pub rising_inj : (σ : ℕ → ℕ) → ((i j : ℕ) → i < j → σ i < σ j) → (a b : ℕ) → σ a ≡ σ b → a ≡ b
rising_inj σ h a b w = go (ltb a b) (ltb b a) refl refl
  where
    go : (x y : Bool) → ltb a b ≡ x → ltb b a ≡ y → a ≡ b
    go true y r t = absurd (omega (arith, h a b (ltb-true a b r)))
    go false true r t = absurd (omega (arith, h b a (ltb-true b a t)))
    go false false r t = omega (arith, ltb-false a b r, ltb-false b a t)

-- ---- labels count from 1: label 0 stays, and label i + 1 goes by the flags

-- the label among all of label l among those flagged
unfoldable pub shift : List Bool → ℕ → ℕ
shift bs zero = 0
shift bs (suc i) = suc (spot bs i)

-- whether label l goes with the flags; label 0 does
unfoldable pub flag : List Bool → ℕ → Bool
flag bs zero = true
flag bs (suc i) = get_or bs i false

pub shift_rises : (bs : List Bool) (i j : ℕ) → i < j → shift bs i < shift bs j
unfolding shift
shift_rises bs zero zero h = absurd (omega arith)
shift_rises bs zero (suc j) h = omega arith
shift_rises bs (suc i) zero h = absurd (omega arith)
shift_rises bs (suc i) (suc j) h = omega (arith, spot_rises bs i j (omega arith))

pub shift_inj : (bs : List Bool) (a b : ℕ) → shift bs a ≡ shift bs b → a ≡ b
shift_inj bs a b h = rising_inj (shift bs) (shift_rises bs) a b h

pub shifts_kept : (bs : List Bool) → keep (flag bs) (upto (length bs) 1) ≡ map (shift bs) (upto (trues bs) 1)
shifts_kept bs = spots_kept (flag bs) (shift bs) bs 1 1 (λ i w. unfold flag in ap (flag bs) (one_plus i)) (λ i. unfold shift in ap (shift bs) (one_plus i) ∙ omega arith)

spot_flag : (bs : List Bool) (i : ℕ) → i < trues bs → get_or bs (spot bs i) false ≡ true
unfolding spot trues
spot_flag [] i h = absurd (omega arith)
spot_flag (true ∷ bs) zero h = refl
spot_flag (true ∷ bs) (suc i) h = spot_flag bs i (omega arith)
spot_flag (false ∷ bs) i h = spot_flag bs i h

pub flag_shift : (bs : List Bool) (l : ℕ) → l ≤ trues bs → flag bs (shift bs l) ≡ true
unfolding flag shift
flag_shift bs zero h = refl
flag_shift bs (suc l) h = spot_flag bs l h

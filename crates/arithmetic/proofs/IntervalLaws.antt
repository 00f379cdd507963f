-- The valid velocities and their extremes, one gate more at a time; the tabulated limits, one more at a time. Assumes nothing.
use Rattle.std.proofs.Common.{◌≡◌, ℕ, zero, suc, ◌+◌, ◌<◌, ◌≤◌, Bool, true, false, cond, T, eqb, List, [], ◌∷◌, ◌++◌, length, get_or, take, drop, set, Option, None, sym, refl, ap, ◌∙◌, append_assoc, add-one, arith, eqb→eq, length-append, length-take-le, drop-cons, take-suc}
use lib.Dec.{not_T}
use lib.Ieee.Bits.{is_false}
use lib.Seq.{set_at, take-length}
use lib.Ieee.{Float, nan}
use Rattle.arithmetic.specs.declared.intervals.Extremes.{Extremes}
use Rattle.lists.specs.Seq.{upto, tabulate}
use Rattle.arithmetic.specs.Intervals.{valid, lesser, greater, least, greatest, both, range, over_both, include, spaced, limit_at, step_of}
use Rattle.arithmetic.specs.Inside.Asked.{front}
use Rattle.lists.proofs.SeqLaws.{tab_length, tab_snoc}

-- ---- the extremes
valid_snoc : (vs : List Float) (ms : List ℕ) (v : Float) (m : ℕ) → length ms ≡ length vs → valid (vs ++ (v ∷ [])) (ms ++ (m ∷ [])) ≡ cond (eqb m 1) (valid vs ms ++ (v ∷ [])) (valid vs ms)
unfolding valid
valid_snoc [] [] v m e = refl
valid_snoc [] (x ∷ ms) v m e = absurd (no (length ms) e)
  where
    no : (k : ℕ) → suc k ≡ 0 → ⊥
    no k e = omega arith
valid_snoc (u ∷ vs) [] v m e = absurd (no (length vs) e)
  where
    no : (k : ℕ) → 0 ≡ suc k → ⊥
    no k e = omega arith
valid_snoc (u ∷ vs) (x ∷ ms) v m e =
    ap (λ (l : List Float). cond (eqb x 1) (u ∷ l) l) (valid_snoc vs ms v m (back (length ms) (length vs) e)) ∙ swap (eqb x 1) (eqb m 1) (valid vs ms)
  where
    back : (a b : ℕ) → suc a ≡ suc b → a ≡ b
    back a b e = omega arith

    swap : (a b : Bool) (l : List Float) → cond a (u ∷ cond b (l ++ (v ∷ [])) l) (cond b (l ++ (v ∷ [])) l) ≡ cond b (cond a (u ∷ l) l ++ (v ∷ [])) (cond a (u ∷ l) l)
    swap true true l = refl
    swap true false l = refl
    swap false true l = refl
    swap false false l = refl

least_snoc : (x : Float) (l : List Float) (v : Float) → least x (l ++ (v ∷ [])) ≡ lesser v (least x l)
unfolding least
least_snoc x [] v = refl
least_snoc x (u ∷ l) v = least_snoc (lesser u x) l v

greatest_snoc : (x : Float) (l : List Float) (v : Float) → greatest x (l ++ (v ∷ [])) ≡ greater (greatest x l) v
unfolding greatest
greatest_snoc x [] v = refl
greatest_snoc x (u ∷ l) v = greatest_snoc (greater x u) l v

range_snoc : (l : List Float) (v : Float) → range (l ++ (v ∷ [])) ≡ include (range l) v
unfolding range over_both least greatest
range_snoc [] v = refl
range_snoc (u ∷ l) v = λ i. both (least_snoc u l v i) (greatest_snoc u l v i)

-- the extremes of the first i gates
unfoldable pub up_to : List Float → List ℕ → ℕ → Option Extremes
up_to vs ms i = range (valid (take i vs) (take i ms))

pub up_none : (vs : List Float) (ms : List ℕ) → up_to vs ms 0 ≡ None
unfolding up_to range valid
up_none vs ms = refl

up_more : (vs : List Float) (ms : List ℕ) (i : ℕ) → i < length vs → length ms ≡ length vs → up_to vs ms (i + 1) ≡ cond (eqb (get_or ms i 0) 1) (include (up_to vs ms i) (get_or vs i nan)) (up_to vs ms i)
unfolding up_to
up_more vs ms i h e =
    let hm : i < length ms = omega arith in
    ap (λ (k : ℕ). range (valid (take k vs) (take k ms))) (add-one i)
    ∙ ap (λ (l : List Float). range (valid l (take (suc i) ms))) (take-suc vs i nan h)
    ∙ ap (λ (l : List ℕ). range (valid (take i vs ++ (get_or vs i nan ∷ [])) l)) (take-suc ms i 0 hm)
    ∙ ap range (valid_snoc (take i vs) (take i ms) (get_or vs i nan) (get_or ms i 0) (length-take-le i ms (le hm) ∙ sym (length-take-le i vs (le h))))
    ∙ go (eqb (get_or ms i 0) 1)
  where
    le : {n : ℕ} → i < n → i ≤ n
    le h = omega arith

    go : (b : Bool) → range (cond b (valid (take i vs) (take i ms) ++ (get_or vs i nan ∷ [])) (valid (take i vs) (take i ms)))
        ≡ cond b (include (range (valid (take i vs) (take i ms))) (get_or vs i nan)) (range (valid (take i vs) (take i ms)))
    go true = range_snoc (valid (take i vs) (take i ms)) (get_or vs i nan)
    go false = refl

pub up_all : (vs : List Float) (ms : List ℕ) (i : ℕ) → i ≡ length vs → length ms ≡ length vs → up_to vs ms i ≡ range (valid vs ms)
unfolding up_to
up_all vs ms i h e =
    ap (λ (l : List Float). range (valid l (take i ms))) (ap (λ (k : ℕ). take k vs) h ∙ take-length vs)
    ∙ ap (λ (l : List ℕ). range (valid vs l)) (ap (λ (k : ℕ). take k ms) (h ∙ sym e) ∙ take-length ms)

-- ---- limits at the front of a slice

-- one more at the front of a slice
pub front_more : (l : List Float) (w : List Float) (v : Float) (n : ℕ) → length l ≡ n → n < length w → set (front l w) n v ≡ front (l ++ (v ∷ [])) w
unfolding front
front_more l w v n e h =
    ap (λ (k : ℕ). set (l ++ drop k w) n v) e
    ∙ ap (λ (x : List Float). set (l ++ x) n v) (drop-cons w n v h)
    ∙ set_at l (get_or w n v) (drop (suc n) w) v n e
    ∙ sym (append_assoc l (v ∷ []) (drop (suc n) w))
    ∙ ap (λ (k : ℕ). (l ++ (v ∷ [])) ++ drop k w) (sym (length-append l (v ∷ []) ∙ ap (λ (k : ℕ). k + 1) e ∙ add-one n))

pub front_none : (w : List Float) → front [] w ≡ w
unfolding front
front_none w = refl

-- one turn of the loop over the gates
pub turn_yes : (vs : List Float) (ms : List ℕ) (i : ℕ) (e r : Option Extremes) (v : Float) → i < length vs → length ms ≡ length vs → get_or ms i 0 ≡ 1 → e ≡ up_to vs ms i → v ≡ get_or vs i nan → r ≡ include e v → r ≡ up_to vs ms (i + 1)
turn_yes vs ms i e r v h l t g k q =
    q ∙ (λ j. include (g j) (k j)) ∙ sym (up_more vs ms i h l ∙ ap (λ (b : Bool). cond b (include (up_to vs ms i) (get_or vs i nan)) (up_to vs ms i)) (yes (get_or ms i 0) t))
  where
    yes : (m : ℕ) → m ≡ 1 → eqb m 1 ≡ true
    yes m t = ap (λ (k : ℕ). eqb k 1) t

pub turn_no : (vs : List Float) (ms : List ℕ) (i : ℕ) (e : Option Extremes) → i < length vs → length ms ≡ length vs → (get_or ms i 0 ≡ 1 → ⊥) → e ≡ up_to vs ms i → e ≡ up_to vs ms (i + 1)
turn_no vs ms i e h l t g =
    g ∙ sym (up_more vs ms i h l ∙ ap (λ (b : Bool). cond b (include (up_to vs ms i) (get_or vs i nan)) (up_to vs ms i)) (no (get_or ms i 0) t))
  where
    no : (m : ℕ) → (m ≡ 1 → ⊥) → eqb m 1 ≡ false
    no m t = is_false (eqb m 1) (not_T (eqb m 1) (λ (u : T (eqb m 1)). t (eqb→eq m 1 u)))

-- one turn of the loop over the limits, and the last store
pub lin_none : (s step : Float) (w : List Float) → w ≡ front (tabulate 0 (limit_at s step)) w
unfolding tabulate upto
lin_none s step w = sym (front_none w)

pub lin_more : (s step : Float) (w out : List Float) (i : ℕ) → i < length w → out ≡ front (tabulate i (limit_at s step)) w → set out i (limit_at s step i) ≡ front (tabulate (i + 1) (limit_at s step)) w
lin_more s step w out i h e =
    ap (λ (l : List Float). set l i (limit_at s step i)) e
    ∙ front_more (tabulate i (limit_at s step)) w (limit_at s step i) i (tab_length (limit_at s step) i) h
    ∙ ap (λ (l : List Float). front l w) (sym (tab_snoc (limit_at s step) i))

pub lin_last : (s e : Float) (w out : List Float) (i m n : ℕ) → n ≤ length w → i ≡ m → n ≡ suc m → 0 < m → out ≡ front (tabulate i (limit_at s (step_of s e m))) w → set out m e ≡ front (spaced s e n) w
unfolding spaced
lin_last s e w out i zero n h p u l q = absurd (no l)
  where
    no : 0 < 0 → ⊥
    no l = omega arith
lin_last s e w out i (suc k) n h p u l q =
    ap (λ (x : List Float). set x (suc k) e) (q ∙ ap (λ (x : ℕ). front (tabulate x (limit_at s (step_of s e (suc k)))) w) p)
    ∙ front_more (tabulate (suc k) (limit_at s (step_of s e (suc k)))) w e (suc k) (tab_length (limit_at s (step_of s e (suc k))) (suc k)) (less (length w) u h)
    ∙ ap (λ (x : ℕ). front (spaced s e x) w) (sym u)
  where
    less : (z : ℕ) → n ≡ suc (suc k) → n ≤ z → suc k < z
    less z u h = omega arith

pub lin_one : (s e : Float) (w : List Float) (n : ℕ) → n ≡ 1 → n ≤ length w → set w 0 s ≡ front (spaced s e n) w
unfolding spaced
lin_one s e w n p h =
    ap (λ (x : List Float). set x 0 s) (sym (front_none w)) ∙ front_more [] w s 0 refl (some (length w) h) ∙ ap (λ (k : ℕ). front (spaced s e k) w) (sym p)
  where
    some : (m : ℕ) → n ≤ m → 0 < m
    some m h = omega arith

pub lin_nil : (s e : Float) (w : List Float) (n : ℕ) → n ≡ 0 → w ≡ front (spaced s e n) w
unfolding spaced
lin_nil s e w n p = sym (front_none w) ∙ ap (λ (k : ℕ). front (spaced s e k) w) (sym p)

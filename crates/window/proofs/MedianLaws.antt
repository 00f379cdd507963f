-- What the proofs of median.rt cite: the four least, a wind that is not shown, the middle one, and one turn of the loop over the places. Assumes nothing.
use Prim.Native.Nat.{ℕ, zero, suc, ◌+◌, ◌-◌, ◌*◌, ◌/◌, ◌%◌, ◌≤◌, ◌<◌}
use native.Mathlib.Nat.{mod-lt, div-add-mod', mul-le-mul, suc-mul}
use native.Mathlib.Omega.{arith}
use mathlib.Core.Path.{◌≡◌, refl, sym, ap, ◌∙◌}
use mathlib.Core.Bool.{Bool, true, false, cond, not}
use mathlib.Core.List.{List, [], ◌∷◌}
use lib.Dec.{eqb}
use lib.ListN.{length, get_or}
use lib.Ieee.{Float, nan, inf, fin, lt, of_bits, of_int, binary64}
use Rattle.std.specs.Prelude.{Option, Some, None, is_some, unwrap_or}
use Rattle.arithmetic.specs.Rounding.{real}
use Rattle.window.specs.declared.median.Four.{Four}
use Rattle.arithmetic.specs.Intervals.{lesser, greater}
use Rattle.window.specs.Median.{infinity, place, placed, middle, median, mark}
use Rattle.window.specs.Window.{after, before, winds_from}
use Rattle.window.specs.Inside.Drawing.{four_of, floor_of, middle_of, drawn_of}

-- ---- the four least

-- what is left of a value after an infinity takes no place
spent : (x : Float) → lesser (greater x infinity) infinity ≡ infinity
unfolding lesser greater lt
spent x = go (lt x infinity) refl
  where
    go : (b : Bool) → lt x infinity ≡ b → cond (lt (cond b infinity x) infinity) (cond b infinity x) infinity ≡ infinity
    go true e = refl
    go false e = rw e refl

spent_again : (x : Float) → greater (greater x infinity) infinity ≡ greater x infinity
unfolding greater lt
spent_again x = go (lt x infinity) refl
  where
    go : (b : Bool) → lt x infinity ≡ b → cond (lt (cond b infinity x) infinity) infinity (cond b infinity x) ≡ cond b infinity x
    go true e = refl
    go false e = rw e refl

-- one more value among the four least
abbrev four_with : Float → Four → Four
four_with x s =
    let y = greater x s.a in
    let z = greater y s.b in
    let u = greater z s.c in
    record { a = lesser x s.a; b = lesser y s.b; c = lesser z s.c; d = lesser u s.d }

four_place : (x : Float) (l : List Float) → four_with x (four_of l) ≡ four_of (place x l)
unfolding place
four_place x [] =
    let second = spent x in
    let third = ap (λ (y : Float). lesser y infinity) (spent_again x) ∙ second in
    let fourth = ap (λ (y : Float). lesser (greater y infinity) infinity) (spent_again x) ∙ third in
    λ i. record { a = lesser x infinity; b = second i; c = third i; d = fourth i }
four_place x (a ∷ []) =
    let y = greater x a in
    let third = spent y in
    let fourth = ap (λ (z : Float). lesser z infinity) (spent_again y) ∙ third in
    λ i. record { a = lesser x a; b = lesser y infinity; c = third i; d = fourth i }
four_place x (a ∷ b ∷ []) =
    let y = greater x a in
    let z = greater y b in
    λ i. record { a = lesser x a; b = lesser y b; c = lesser z infinity; d = spent z i }
four_place x (a ∷ b ∷ c ∷ []) = refl
four_place x (a ∷ b ∷ c ∷ d ∷ l) = refl

-- the same, from what the code has found on the way
pub four_with_lem : (x : Float) (s : Four) (y z u a b c d : Float) → y ≡ greater x s.a → z ≡ greater y s.b → u ≡ greater z s.c
    → a ≡ lesser x s.a → b ≡ lesser y s.b → c ≡ lesser z s.c → d ≡ lesser u s.d → (l : List Float) → s ≡ four_of l → record { a = a; b = b; c = c; d = d } ≡ four_of (place x l)
four_with_lem x s y z u a b c d ey ez eu ea eb ec ed l e =
    let fz : z ≡ greater (greater x s.a) s.b = ez ∙ ap (λ (t : Float). greater t s.b) ey in
    let fu : u ≡ greater (greater (greater x s.a) s.b) s.c = eu ∙ ap (λ (t : Float). greater t s.c) fz in
    let fb = eb ∙ ap (λ (t : Float). lesser t s.b) ey in
    let fc = ec ∙ ap (λ (t : Float). lesser t s.c) fz in
    let fd = ed ∙ ap (λ (t : Float). lesser t s.d) fu in
    (λ i. record { a = ea i; b = fb i; c = fc i; d = fd i }) ∙ ap (four_with x) e ∙ four_place x l

-- ---- a wind as it is read

-- below every number: the wind itself
read_shown : (v : Float) (b : ℕ) → eqb b 1 ≡ true → greater v (floor_of b) ≡ v
unfolding greater floor_of lt
read_shown v b e = rw e (go v)
  where
    go : (v : Float) → cond (lt v (inf true)) (inf true) v ≡ v
    go nan = refl
    go (inf true) = refl
    go (inf false) = refl
    go (fin s m e) = refl

-- a value that is below none, as infinity and what is no number
abbrev Passes : Float → Type 0
Passes x = (y : Float) → lt x y ≡ false

read_hidden : (v : Float) (b : ℕ) → eqb b 1 ≡ false → Passes (greater v (floor_of b))
unfolding greater floor_of lt
read_hidden v b e y = rw e (go v y)
  where
    go : (v y : Float) → lt (cond (lt v infinity) infinity v) y ≡ false
    go nan y = refl
    go (inf true) nan = refl
    go (inf true) (inf s) = refl
    go (inf true) (fin s m e) = refl
    go (inf false) nan = refl
    go (inf false) (inf s) = refl
    go (inf false) (fin s m e) = refl
    go (fin t n d) nan = refl
    go (fin t n d) (inf s) = refl
    go (fin t n d) (fin s m e) = refl

-- it takes no other's place
passes_by : (x : Float) → Passes x → (l : List Float) → four_of (place x l) ≡ four_of l
unfolding place lesser greater
passes_by x p [] = rw (p infinity) refl
passes_by x p (a ∷ []) = rw (p a, p infinity) refl
passes_by x p (a ∷ b ∷ []) = rw (p a, p b, p infinity) refl
passes_by x p (a ∷ b ∷ c ∷ []) = rw (p a, p b, p c, p infinity) refl
passes_by x p (a ∷ b ∷ c ∷ d ∷ l) = rw (p a, p b, p c, p d) refl

-- ---- the middle one

-- an element that there is, with any default
get_d_any : (l : List Float) (j : ℕ) (d e : Float) → j < length l → get_or l j d ≡ get_or l j e
get_d_any [] j d e h = absurd (omega arith)
get_d_any (x ∷ l) zero d e h = refl
get_d_any (x ∷ l) (suc j) d e h = get_d_any l j d e (omega arith)

-- one of the four least by its index
four_at : (l : List Float) (j : ℕ) → j < 4 → let f = four_of l in get_or (f.a ∷ f.b ∷ f.c ∷ f.d ∷ []) j nan ≡ get_or l j infinity
four_at l zero h = refl
four_at l (suc zero) h = refl
four_at l (suc (suc zero)) h = refl
four_at l (suc (suc (suc zero))) h = refl
four_at l (suc (suc (suc (suc j)))) h = absurd (omega arith)

pub middle_at : (l : List Float) → 0 < length l → middle l ≡ get_or l ((length l - 1) / 2) nan
unfolding middle
middle_at [] h = absurd (omega arith)
middle_at (v ∷ vs) h = ap (λ (k : ℕ). get_or (v ∷ vs) (k / 2) nan) (back (length vs))
  where
    back : (k : ℕ) → k ≡ suc k - 1
    back k = omega arith

-- the lower middle one of k is among the first four, and is one of them
pub half_is : (k : ℕ) → 0 < k → (2 * ((k - 1) / 2) < k) × (k ≤ 2 * ((k - 1) / 2) + 2)
half_is k h = go ((k - 1) / 2) ((k - 1) % 2) (div-add-mod' (k - 1) 2) (mod-lt (k - 1) (omega arith))
  where
    go : (q r : ℕ) → q * 2 + r ≡ k - 1 → r < 2 → (2 * q < k) × (k ≤ 2 * q + 2)
    go q r e l = (omega arith, omega arith)

half_below : (k : ℕ) → 0 < k → k ≤ 8 → (k - 1) / 2 < 4
half_below k h e = omega (arith, (half_is k h).0)

pub mark_some : (l : List Float) → 0 < length l → mark l ≡ 0
unfolding mark
mark_some [] h = absurd (omega arith)
mark_some (v ∷ vs) h = refl

middle_some : (l : List Float) → 0 < length l → Some (middle l) ≡ middle_of l
middle_some [] h = absurd (omega arith)
middle_some (v ∷ vs) h = refl

pub middle_is : (s : Four) (k : ℕ) → (k ≡ 0 → ⊥) → k ≤ 8 → (l : List Float) → s ≡ four_of l → k ≡ length l → Some (get_or (s.a ∷ s.b ∷ s.c ∷ s.d ∷ []) ((k - 1) / 2) nan) ≡ middle_of l
middle_is s k z m l e h =
    let some : 0 < length l = omega arith in
    let j = (k - 1) / 2 in
    let w = ap (λ (f : Four). get_or (f.a ∷ f.b ∷ f.c ∷ f.d ∷ []) j nan) e
    ∙ four_at l j (half_below k (omega arith) m)
    ∙ get_d_any l j infinity nan (omega (arith, (half_is k (omega arith)).0))
    ∙ ap (λ (i : ℕ). get_or l ((i - 1) / 2) nan) h
    ∙ sym (middle_at l some) in
    ap Some w ∙ middle_some l some

length_place : (x : Float) (l : List Float) → length (place x l) ≡ suc (length l)
unfolding place
length_place x [] = refl
length_place x (y ∷ l) = ap suc (length_place (greater x y) l)

length_placed : (l vs : List Float) → length l ≤ length (placed l vs)
unfolding placed
length_placed l [] = omega arith
length_placed l (v ∷ vs) = omega (arith, length_placed (place v l) vs, length_place v l)

-- the middle one of the winds that a gate shows, put in their places
middle_placed : (vs : List Float) → middle_of (placed [] vs) ≡ drawn_of vs
unfolding placed median place
middle_placed [] = refl
middle_placed (v ∷ vs) = sym (middle_some (placed (lesser v infinity ∷ []) vs) (omega (arith, length_placed (lesser v infinity ∷ []) vs)))

-- what the picture and its marks have of it
pub drawn_median : (vs : List Float) → unwrap_or (drawn_of vs) (of_bits binary64 0) ≡ median vs
unfolding median placed middle real of_bits of_int
drawn_median [] = refl
drawn_median (v ∷ vs) = refl

pub drawn_mark : (vs : List Float) (none : Bool) → is_some (drawn_of vs) ≡ not none → cond none 1 0 ≡ mark vs
unfolding mark
drawn_mark [] true e = refl
drawn_mark [] false e = absurd (cc)
drawn_mark (v ∷ vs) true e = absurd (cc)
drawn_mark (v ∷ vs) false e = refl

-- ---- places

-- an index within eight places of n gates
pub place_in : (p g n : ℕ) → p < 8 → g < n → p * n + g < 8 * n
place_in p g n h k = low (mul-le-mul h (self n))
  where
    self : (n : ℕ) → n ≤ n
    self n = omega arith

    low : suc p * n ≤ 8 * n → p * n + g < 8 * n
    low h = omega (arith, suc-mul p n)

-- ---- one turn of the loop

-- the winds that are left begin with that of place p, where its byte says so
winds_turn : (ws : List Float) (bs : List ℕ) (n g p k : ℕ) → 0 < k → winds_from ws bs n g p k ≡ before (get_or bs (p * n + g) 0) (get_or ws (p * n + g) nan) (winds_from ws bs n g (after p) (k - 1))
unfolding winds_from
winds_turn ws bs n g p zero h = absurd (omega arith)
winds_turn ws bs n g p (suc k) h =
    let e : k ≡ suc k - 1 = omega arith in
    ap (λ (m : ℕ). before (get_or bs (p * n + g) 0) (get_or ws (p * n + g) nan) (winds_from ws bs n g (after p) m)) e

-- the values so far in their places, those that are left, and the four least
pub record Sofar (s : Four) (k left : ℕ) (rest whole : List Float) : Type 0 where
  pub list : List Float
  pub four : s ≡ four_of list
  pub count : k ≡ length list
  pub few : k + left ≤ 8
  pub same : placed list rest ≡ placed [] whole

-- the wind of a place as it is read, placed: t are the four least with it
module _ (s t : Four) (k left b : ℕ) (v : Float) (rest now whole : List Float) (f : Sofar s k left now whole) (h : 0 < left) (e : now ≡ before b v rest)
    (r : (l : List Float) → s ≡ four_of l → t ≡ four_of (place (greater v (floor_of b)) l)) where
  sofar_shown : eqb b 1 ≡ true → Sofar t (k + 1) (left - 1) rest whole
  unfolding before placed
  sofar_shown y =
      let q : before b v rest ≡ v ∷ rest = rw y refl in
      record {
        list = place v f.list;
        four = r f.list f.four ∙ ap (λ (x : Float). four_of (place x f.list)) (read_shown v b y);
        count = omega (arith, length_place v f.list, f.count);
        few = omega (arith, f.few);
        same = ap (placed f.list) (sym (e ∙ q)) ∙ f.same;
      }

  sofar_hidden : eqb b 1 ≡ false → Sofar t (k + 0) (left - 1) rest whole
  unfolding before
  sofar_hidden y =
      let q : before b v rest ≡ rest = rw y refl in
      record {
        list = f.list;
        four = r f.list f.four ∙ passes_by (greater v (floor_of b)) (read_hidden v b y) f.list;
        count = omega (arith, f.count);
        few = omega (arith, f.few);
        same = ap (placed f.list) (sym (e ∙ q)) ∙ f.same;
      }

  sofar_turn : Sofar t (k + cond (eqb b 1) 1 0) (left - 1) rest whole
  sofar_turn = go (eqb b 1) refl
    where
      go : (c : Bool) → eqb b 1 ≡ c → Sofar t (k + cond c 1 0) (left - 1) rest whole
      go true y = sofar_shown y
      go false y = sofar_hidden y

-- one turn, x being the wind as it was read, c what the count gains and q the place after p
pub turn : (ws : List Float) (bs : List ℕ) (n g : ℕ) (s : Four) (k p left : ℕ) (whole : List Float) → Sofar s k left (winds_from ws bs n g p left) whole → 0 < left
    → (x y : Float) (t : Four) (c q : ℕ) → y ≡ floor_of (get_or bs (p * n + g) 0) → x ≡ greater (get_or ws (p * n + g) nan) y → ((l : List Float) → s ≡ four_of l → t ≡ four_of (place x l))
    → c ≡ cond (eqb (get_or bs (p * n + g) 0) 1) 1 0 → q ≡ after p → Sofar t (k + c) (left - 1) (winds_from ws bs n g q (left - 1)) whole
turn ws bs n g s k p left whole f h x y t c q ey ex r ec eq =
    let b = get_or bs (p * n + g) 0 in
    let v = get_or ws (p * n + g) nan in
    let read : x ≡ greater v (floor_of b) = ex ∙ ap (greater v) ey in
    rw (ec, eq)
    (sofar_turn s t k left b v (winds_from ws bs n g (after p) (left - 1)) (winds_from ws bs n g p left) whole f h (winds_turn ws bs n g p left h)
    (λ l d. r l d ∙ ap (λ (z : Float). four_of (place z l)) read))

-- nothing is left
pub sofar_end : (s : Four) (k left : ℕ) (r : Option Float) (rest whole : List Float) → Sofar s k left rest whole → rest ≡ []
    → ((l : List Float) → s ≡ four_of l → k ≡ length l → r ≡ middle_of l) → r ≡ drawn_of whole
unfolding placed
sofar_end s k left r rest whole f e h =
    let same : f.list ≡ placed [] whole = sym (ap (placed f.list) e) ∙ f.same in
    h f.list f.four f.count ∙ ap middle_of same ∙ middle_placed whole

pub winds_none : (ws : List Float) (bs : List ℕ) (n g p k : ℕ) → k ≡ 0 → winds_from ws bs n g p k ≡ []
unfolding winds_from
winds_none ws bs n g p k e = rw e refl

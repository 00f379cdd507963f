-- What the proofs of reader and writer cite: fields, rays in a row, places, the questions of every gate, and bytes stored one after another. Assumes nothing.
use Prim.Native.Nat.{ℕ, zero, suc, ◌+◌, ◌-◌, ◌*◌, ◌/◌, ◌≤◌, ◌<◌}
use native.Mathlib.Omega.{arith}
use native.Mathlib.Numerals.{add-one}
use native.Mathlib.Nat.{zero-add, mul-zero, mul-le-mul, mul-add, mul_assoc, mul_comm, mul_left_comm, div-lt_iff_lt-mul}
use mathlib.Core.Path.{◌≡◌, refl, sym, ap, subst, ◌∙◌}
use mathlib.Core.Bool.{Bool, true, false, true≢false, not, ◌||◌}
use mathlib.Core.Option.{none, some}
use Rattle.std.proofs.Common.{◌↔◌}
use mathlib.Core.List.{List, [], ◌∷◌, ◌++◌, map}
use lib.Dec.{eqb, leb}
use lib.ListN.{length, get_or, set}
use lib.ListN.{length-map}
use Rattle.std.specs.Bool.{MatchBool}
use Rattle.std.specs.List.{AllWithin, HoldsAt, range_with_len}
use Rattle.std.proofs.lemmas.List.FromFn.{length-range_with_len, get_or-range_with_len}
use Rattle.lists.proofs.SeqLaws.{tab_at, tab_length, map_at}
use lib.Ieee.{Float, nan, binary32, of_bits}
use borrow.Rule.Slice.PartMut.{put_mid}
use Rattle.lists.proofs.SegLaws.{put_mid_lem}
use borrow.Author.Tests.{lt-ltb, le-leb, eq-eqb, ne_eqb, leb-true, eqb-true, ltb-true}
use Rattle.lists.specs.Seq.{upto, each, tabulate, all}
use Rattle.lists.specs.Inside.Seg.{put}
use Rattle.arithmetic.specs.Intervals.{velocity_in_range}
use Rattle.lists.proofs.AllLaws.{and_left, and_right}
use Rattle.sweep.specs.Questions.{ask, first_no, size_in_range, mask_is_bits, velocities_in_range}
use Rattle.files.specs.declared.format.Header.{Header}
use Rattle.files.specs.Format.{u16_at, u16_bytes, u32_bytes, ray_at, file_length, gate_at, mask_in, bits_in, field, option_bytes, gate_bytes, ray_bytes, rays_bytes}
use Rattle.files.specs.Inside.Gates.{mask_at, bits_at}
use Rattle.files.specs.Inside.Header.{size_bytes}
use Rattle.files.specs.Questions.{field_questions, header_questions, rays_questions, body_questions}
use Rattle.sweep.proofs.QuestionLaws.{on, no, none_all, goes_on, stops, mask_by, speed_test, speeds_by as any_speeds}
use Rattle.files.proofs.AskLaws.{Yes, Named, named_append, named_each, yes_left, yes_right, yes_append}
use Rattle.lists.proofs.PartLaws.{put_one, put_then, each_more, each_length}

-- ---- a field

module _ (f : List ℕ) (at tag len : ℕ) where
  field_named : Named (field_questions f at tag len)
  unfolding field_questions all
  field_named = refl

-- a field that is there
pub record Field (f : List ℕ) (at tag len : ℕ) : Type 0 where
  pub tagged : get_or f at 0 ≡ tag
  pub whole : at + 3 + len ≤ length f
  pub long : u16_at f (at + 1) ≡ len

pub field_is : (f : List ℕ) (at tag len : ℕ) → Yes (field_questions f at tag len) → Field f at tag len
unfolding field_questions
field_is f at tag len y =
    let both = y.1.1.0 in
    record {
      tagged = eqb-true (get_or f at 0) tag y.1.0;
      whole = leb-true (at + 3 + len) (length f) (and_left (leb (at + 3 + len) (length f)) (eqb (u16_at f (at + 1)) len) both);
      long = eqb-true (u16_at f (at + 1)) len (and_right (leb (at + 3 + len) (length f)) (eqb (u16_at f (at + 1)) len) both);
    }

pub is_field : (f : List ℕ) (at tag len : ℕ) → Field f at tag len → Yes (field_questions f at tag len)
unfolding field_questions
is_field f at tag len w =
    let h = w.whole in
    (lt-ltb at (length f) (omega arith), (eq-eqb (get_or f at 0) tag w.tagged, (rw (le-leb (at + 3 + len) (length f) w.whole, eq-eqb (u16_at f (at + 1)) len w.long) refl, tt)))

-- ---- the header

-- a header that is there
pub record Begun (f : List ℕ) : Type 0 where
  pub field : Field f 0 1 15
  pub spare : get_or f 17 0 < 4
  pub size : size_in_range (u16_at f 3) (u16_at f 5) ≡ true

pub header_named : (f : List ℕ) → Named (header_questions f)
unfolding header_questions all
header_named f = named_append (field_questions f 0 1 15) _ (field_named f 0 1 15) refl

pub header_is : (f : List ℕ) → Yes (header_questions f) → Begun f
unfolding header_questions
header_is f y =
    let l = yes_left (field_questions f 0 1 15) _ y in
    let r = yes_right (field_questions f 0 1 15) _ y in
    record { field = field_is f 0 1 15 l; spare = ltb-true (get_or f 17 0) 4 r.0; size = r.1.0 }

pub is_header : (f : List ℕ) → Begun f → Yes (header_questions f)
unfolding header_questions
is_header f w = yes_append (field_questions f 0 1 15) _ (is_field f 0 1 15 w.field) (lt-ltb (get_or f 17 0) 4 w.spare, (w.size, tt))

-- a header whose questions get no no
pub begun : (f : List ℕ) → first_no (header_questions f) ≡ none → Begun f
begun f h = header_is f (none_all (header_questions f) h)

-- its bytes are there
pub header_there : (f : List ℕ) → first_no (header_questions f) ≡ none → 18 ≤ length f
header_there f h = (begun f h).field.whole

-- ---- rays in a row

rays_named : (f : List ℕ) (gates k r : ℕ) → Named (rays_questions f gates k r)
unfolding rays_questions
rays_named f gates k r = named_each (λ r. field_questions f (ray_at gates r) 2 (5 * gates)) (upto k r) (λ i. field_named f (ray_at gates i) 2 (5 * gates))

module _ (f : List ℕ) (gates rays r : ℕ) where
  rays_turn : r < rays → rays_questions f gates (rays - r) r ≡ field_questions f (ray_at gates r) 2 (5 * gates) ++ rays_questions f gates (rays - (r + 1)) (r + 1)
  unfolding rays_questions each upto
  rays_turn h =
      let e : rays - r ≡ suc (rays - (r + 1)) = omega arith in
      ap (λ (k : ℕ). each (λ r. field_questions f (ray_at gates r) 2 (5 * gates)) (upto k r)) e
      ∙ ap (λ (k : ℕ). field_questions f (ray_at gates r) 2 (5 * gates) ++ each (λ r. field_questions f (ray_at gates r) 2 (5 * gates)) (upto (rays - (r + 1)) k)) (sym (add-one r))

  -- what is left where r rays are whole
  pub rays_fault : (p k : ℕ) → r < rays → p ≡ ray_at gates r → first_no (field_questions f p 2 (5 * gates)) ≡ some k → first_no (rays_questions f gates (rays - r) r) ≡ some k
  rays_fault p k h g e =
      ap first_no (rays_turn h)
      ∙ stops (field_questions f (ray_at gates r) 2 (5 * gates)) (rays_questions f gates (rays - (r + 1)) (r + 1)) k (ap (λ (p : ℕ). first_no (field_questions f p 2 (5 * gates))) (sym g) ∙ e)

  pub rays_on : (p : ℕ) → r < rays → p ≡ ray_at gates r → first_no (field_questions f p 2 (5 * gates)) ≡ none → first_no (rays_questions f gates (rays - r) r) ≡ first_no (rays_questions f gates (rays - (r + 1)) (r + 1))
  rays_on p h g e =
      ap first_no (rays_turn h)
      ∙ goes_on (field_questions f (ray_at gates r) 2 (5 * gates)) (rays_questions f gates (rays - (r + 1)) (r + 1)) (ap (λ (p : ℕ). first_no (field_questions f p 2 (5 * gates))) (sym g) ∙ e)

  pub rays_end : rays ≤ r → first_no (rays_questions f gates (rays - r) r) ≡ none
  unfolding rays_questions each upto first_no
  rays_end h =
      let e : rays - r ≡ 0 = omega arith in
      rw e refl

pub rays_start : (f : List ℕ) (gates rays : ℕ) → first_no (rays_questions f gates rays 0) ≡ first_no (rays_questions f gates (rays - 0) 0)
rays_start f gates rays = ap (λ (k : ℕ). first_no (rays_questions f gates k 0)) (omega arith)

-- what one turn after another is proved by
pub ruleset of_rays = (rays_start, rays_fault, rays_on, rays_end)

-- ---- what follows the header

module _ (f : List ℕ) (rays gates : ℕ) (r : rays ≡ u16_at f 3) (g : gates ≡ u16_at f 5) where
  turned : first_no (rays_questions f gates rays 0) ≡ first_no (rays_questions f (u16_at f 5) (u16_at f 3) 0)
  turned i = first_no (rays_questions f (g i) (r i) 0)

  pub body_fault : (k : ℕ) → first_no (rays_questions f gates rays 0) ≡ some k → first_no (body_questions f) ≡ some k
  unfolding body_questions
  body_fault k e = stops (rays_questions f (u16_at f 5) (u16_at f 3) 0) _ k (sym turned ∙ e)

  module _ (whole : first_no (rays_questions f gates rays 0) ≡ none) (p : ℕ) (q : p ≡ ray_at gates rays) where
    ends : first_no (body_questions f) ≡ first_no (ask 12 (eqb (length f) (file_length (u16_at f 3) (u16_at f 5))) ∷ [])
    unfolding body_questions
    ends = goes_on (rays_questions f (u16_at f 5) (u16_at f 3) 0) _ (sym turned ∙ whole)

    end : p ≡ file_length (u16_at f 3) (u16_at f 5)
    unfolding file_length
    end = q ∙ (λ i. ray_at (g i) (r i))

    pub body_more : (length f ≡ p → ⊥) → first_no (body_questions f) ≡ some 12
    body_more n = ends ∙ no _ [] (ne_eqb (length f) (file_length (u16_at f 3) (u16_at f 5)) (λ m. n (m ∙ sym end)))

    pub body_whole : length f ≡ p → first_no (body_questions f) ≡ none
    unfolding first_no
    body_whole m = ends ∙ on (ask 12 _) [] (eq-eqb (length f) (file_length (u16_at f 3) (u16_at f 5)) (m ∙ end))

pub body_named : (f : List ℕ) → Named (body_questions f)
unfolding body_questions all
body_named f = named_append (rays_questions f (u16_at f 5) (u16_at f 3) 0) _ (rays_named f (u16_at f 5) (u16_at f 3) 0) refl

pub body_length : (f : List ℕ) → Yes (body_questions f) → length f ≡ file_length (u16_at f 3) (u16_at f 5)
unfolding body_questions
body_length f y = eqb-true (length f) (file_length (u16_at f 3) (u16_at f 5)) (yes_right (rays_questions f (u16_at f 5) (u16_at f 3) 0) _ y).0

-- what the rays and the end are proved by
pub ruleset of_body = (body_fault, body_more, body_whole)

-- ---- places

pub ray_room : (gates r : ℕ) → gates < 65536 → r < 65536 → r * (3 + 5 * gates) ≤ 21500000000
ray_room gates r g h = under (r * (3 + 5 * gates)) (mul-le-mul {n₁ = r} {m₁ = 3 + 5 * gates} {n₂ = 65535} {m₂ = 327678} (omega arith) (omega arith))
  where
    under : (x : ℕ) → x ≤ 65535 * 327678 → x ≤ 21500000000
    under x h = omega arith

-- the bytes of all rays
pub rays_long : (rays gates : ℕ) → rays * (3 + 5 * gates) ≡ 3 * rays + 5 * (rays * gates)
rays_long rays gates = mul-add rays 3 (5 * gates) ∙ (λ i. mul_comm rays 3 i + inner i)
  where
    inner : rays * (5 * gates) ≡ 5 * (rays * gates)
    inner = simp (mul_assoc, mul_comm, mul_left_comm) refl

pub gate_inside : (f rays gates i : ℕ) → f ≡ file_length rays gates → i < rays * gates → gate_at gates i + 5 ≤ f
unfolding file_length ray_at gate_at
gate_inside f rays gates i e h = go gates e h (rays_long rays gates)
  where
    none_left : (z : ℕ) → z ≡ 0 → i < z → ⊥
    none_left z a b = omega arith

    within : (z q n : ℕ) → f ≡ 18 + z → z ≡ 3 * rays + 5 * n → q < rays → i < n → 21 + 3 * q + 5 * i + 5 ≤ f
    within z q n a b c d = omega arith

    go : (gates : ℕ) → f ≡ 18 + rays * (3 + 5 * gates) → i < rays * gates → rays * (3 + 5 * gates) ≡ 3 * rays + 5 * (rays * gates) → 21 + 3 * (i / gates) + 5 * i + 5 ≤ f
    go zero e h l = absurd (none_left (rays * 0) (mul-zero rays) h)
    go (suc g) e h l =
        let p : 0 < suc g = omega arith in
        within (rays * (3 + 5 * suc g)) (i / suc g) (rays * suc g) e l ((div-lt_iff_lt-mul {k = suc g} {x = i} {y = rays} p).1 h) h

-- ---- questions 3 and 7 of the gates in a file, by a test of every gate

-- what `all` answers of a test of each number below n
pub each_below : (n : ℕ) (t : ℕ → Bool) (b : Bool) → MatchBool b (AllWithin (λ k. t k ≡ true) (range_with_len 0 n) 0 (length (range_with_len 0 n))) ((k : ℕ) × (k < length (range_with_len 0 n)) × HoldsAt (λ k. t k ≡ false) (range_with_len 0 n) k)
    → (b ≡ true) ↔ ((k : ℕ) → k < n → t k ≡ true)
each_below n t true h = (
  λ e k i. subst (λ (j : ℕ). t j ≡ true) (get_or-range_with_len 0 n k 0 i ∙ zero-add k) (h k 0 (omega arith) (omega (arith, i, length-range_with_len 0 n))),
  λ f. refl,
)
each_below n t false h = (
  λ e. absurd (true≢false (sym e)),
  λ f. let i : h.0 < n = omega (arith, h.1, length-range_with_len 0 n) in absurd (true≢false (sym (f h.0 i) ∙ subst (λ (j : ℕ). t j ≡ false) (get_or-range_with_len 0 n h.0 0 i ∙ zero-add h.0) (h.2 0))),
)

pub masks_by : (b : Bool) (f : List ℕ) (rays gates : ℕ) → ((b ≡ true) ↔ ((k : ℕ) → k < rays * gates → leb (mask_at f gates k) 1 ≡ true)) → b ≡ mask_is_bits (mask_in f rays gates)
unfolding mask_in mask_at
masks_by b f rays gates h =
    let n = rays * gates in
    let m = tabulate n (mask_at f gates) in
    let l : length m ≡ n = tab_length (mask_at f gates) n in
    let at : (k : ℕ) → k < n → get_or m k 0 ≡ mask_at f gates k = λ k i. tab_at (mask_at f gates) n k 0 i in
    mask_by b m (
      λ e k i. let j : k < n = omega (arith, i, l) in omega (arith, leb-true _ 1 (h.0 e k j), at k j),
      λ t. h.1 (λ k j. le-leb _ 1 (omega (arith, t k (omega (arith, j, l)), at k j))),
    )

-- question 7 of bits, by a test of every gate
abbrev pub bit_test : ℕ → ℕ → Bool
bit_test m v = not (eqb m 1) || velocity_in_range (of_bits binary32 v)

pub bit_speeds_by : (b : Bool) (vs ms : List ℕ) → length ms ≡ length vs → ((b ≡ true) ↔ ((k : ℕ) → k < length vs → bit_test (get_or ms k 0) (get_or vs k 0) ≡ true)) → b ≡ velocities_in_range (map (of_bits binary32) vs) ms
bit_speeds_by b vs ms e h =
    let q = length-map vs (of_bits binary32) in
    let same : (k : ℕ) → k < length vs → speed_test (map (of_bits binary32) vs) ms k ≡ bit_test (get_or ms k 0) (get_or vs k 0) = λ k i. ap (λ (x : Float). not (eqb (get_or ms k 0) 1) || velocity_in_range x) (map_at (of_bits binary32) vs k 0 nan i) in
    any_speeds b (map (of_bits binary32) vs) ms (e ∙ sym q) (
      λ t k i. let j : k < length vs = omega (arith, i, q) in same k j ∙ h.0 t k j,
      λ t. h.1 (λ k j. sym (same k j) ∙ t k (omega (arith, j, q))),
    )

pub speeds_by : (b : Bool) (f : List ℕ) (rays gates : ℕ) → ((b ≡ true) ↔ ((k : ℕ) → k < rays * gates → bit_test (mask_at f gates k) (bits_at f gates k) ≡ true))
    → b ≡ velocities_in_range (map (of_bits binary32) (bits_in f rays gates)) (mask_in f rays gates)
unfolding mask_in bits_in mask_at bits_at
speeds_by b f rays gates h =
    let n = rays * gates in
    let m = tabulate n (mask_at f gates) in
    let v = tabulate n (bits_at f gates) in
    let q = tab_length (bits_at f gates) n in
    let same : (k : ℕ) → k < n → bit_test (get_or m k 0) (get_or v k 0) ≡ bit_test (mask_at f gates k) (bits_at f gates k) = λ k i j. bit_test (tab_at (mask_at f gates) n k 0 i j) (tab_at (bits_at f gates) n k 0 i j) in
    bit_speeds_by b v m (tab_length (mask_at f gates) n ∙ sym q) (
      λ t k i. let j : k < n = omega (arith, i, q) in same k j ∙ h.0 t k j,
      λ t. h.1 (λ k j. sym (same k j) ∙ t k (omega (arith, j, q))),
    )

-- ---- bytes stored one after another

-- a part of a slice, copied there
pub copied : (w vs us : List ℕ) (at k : ℕ) → vs ≡ us → length us ≡ k → at + k ≤ length w → put_mid at (at + k - at) w vs ≡ put w at us
copied w vs us at k e l h =
    (λ i. put_mid at (part i) w (e i)) ∙ put_mid_lem w at k us l h
  where
    part : at + k - at ≡ k
    part = omega arith

u16_length : (k : ℕ) → length (u16_bytes k) ≡ 2
unfolding u16_bytes
u16_length k = refl

pub gate_length : (vel mask : List ℕ) (i : ℕ) → length (gate_bytes vel mask i) ≡ 5
unfolding gate_bytes u16_bytes u32_bytes
gate_length vel mask i = refl

pub ray_length : (vel mask : List ℕ) (gates first : ℕ) → length (ray_bytes vel mask gates first) ≡ 5 * gates
unfolding ray_bytes
ray_length vel mask gates first = each_length (gate_bytes vel mask) 5 (gate_length vel mask) gates first ∙ mul_comm gates 5

pub field_length : (tag : ℕ) (l : List ℕ) → length (field tag l) ≡ 3 + length l
unfolding field u16_bytes
field_length tag l = more (length l)
  where
    more : (x : ℕ) → suc (suc (suc x)) ≡ 3 + x
    more x = omega arith

-- no gate
pub gates_begin : (w vel mask : List ℕ) (at first : ℕ) → w ≡ put w at (ray_bytes vel mask 0 first)
unfolding ray_bytes each upto put
gates_begin w vel mask at first = refl

-- one gate more
pub gates_more : (w w₁ w₂ vel mask : List ℕ) (at first g : ℕ) → w₁ ≡ put w at (ray_bytes vel mask g first) → w₂ ≡ put w₁ (at + 5 * g) (get_or mask (first + g) 0 ∷ [] ++ u32_bytes (get_or vel (first + g) 0))
    → w₂ ≡ put w at (ray_bytes vel mask (g + 1) first)
gates_more w w₁ w₂ vel mask at first g e h =
    put_then w w₁ w₂ at (at + 5 * g) (ray_bytes vel mask g first) (get_or mask (first + g) 0 ∷ [] ++ u32_bytes (get_or vel (first + g) 0)) e h (ap (λ (k : ℕ). at + k) (sym (ray_length vel mask g first)))
    ∙ ap (put w at) (sym more)
  where
    more : ray_bytes vel mask (g + 1) first ≡ ray_bytes vel mask g first ++ (get_or mask (first + g) 0 ∷ [] ++ u32_bytes (get_or vel (first + g) 0))
    more = unfold ray_bytes gate_bytes in each_more (gate_bytes vel mask) g first

-- the field of a ray
pub ray_stored : (w w₁ w₂ w₃ vel mask : List ℕ) (at gates first : ℕ) → w₁ ≡ set w at 2 → w₂ ≡ put w₁ (at + 1) (u16_bytes (5 * gates)) → w₃ ≡ put w₂ (at + 3) (ray_bytes vel mask gates first)
    → w₃ ≡ put w at (field 2 (ray_bytes vel mask gates first))
unfolding field
ray_stored w w₁ w₂ w₃ vel mask at gates first e f g =
    put_then w w₂ w₃ at (at + 3) (2 ∷ [] ++ u16_bytes (5 * gates)) (ray_bytes vel mask gates first)
    (put_then w w₁ w₂ at (at + 1) (2 ∷ []) (u16_bytes (5 * gates)) (e ∙ put_one w at 2) f refl)
    g
    (ap (λ (k : ℕ). at + k) (sym (three (length (u16_bytes (5 * gates))) (u16_length (5 * gates)))))
    ∙ ap (λ (k : ℕ). put w at (2 ∷ [] ++ u16_bytes k ++ ray_bytes vel mask gates first)) (sym (ray_length vel mask gates first))
  where
    three : (k : ℕ) → k ≡ 2 → suc k ≡ 3
    three k e = omega arith

-- no ray
pub rays_begin : (w vel mask : List ℕ) (gates : ℕ) → w ≡ put w 18 (rays_bytes vel mask 0 gates)
unfolding rays_bytes each upto put
rays_begin w vel mask gates = refl

-- one ray more
pub rays_more : (w w₁ w₂ vel mask : List ℕ) (gates r : ℕ) → w₁ ≡ put w 18 (rays_bytes vel mask r gates) → w₂ ≡ put w₁ (ray_at gates r) (field 2 (ray_bytes vel mask gates (r * gates)))
    → w₂ ≡ put w 18 (rays_bytes vel mask (r + 1) gates)
unfolding rays_bytes ray_at
rays_more w w₁ w₂ vel mask gates r e h =
    put_then w w₁ w₂ 18 (18 + r * (3 + 5 * gates)) (each (λ r. field 2 (ray_bytes vel mask gates (r * gates))) (upto r 0)) (field 2 (ray_bytes vel mask gates (r * gates))) e h
    (ap (λ (k : ℕ). 18 + k) (sym (each_length (λ r. field 2 (ray_bytes vel mask gates (r * gates))) (3 + 5 * gates) (λ i. field_length 2 (ray_bytes vel mask gates (i * gates)) ∙ ap (λ (k : ℕ). 3 + k) (ray_length vel mask gates (i * gates))) r 0)))
    ∙ ap (put w 18) (sym (each_more (λ r. field 2 (ray_bytes vel mask gates (r * gates))) r 0 ∙ ap (λ (k : ℕ). each (λ r. field 2 (ray_bytes vel mask gates (r * gates))) (upto r 0) ++ field 2 (ray_bytes vel mask gates (k * gates))) (zero-add r)))

-- the header's field in two parts
module _ (w : List ℕ) (h : Header) where
  pub size_stored : (w₁ w₂ w₃ w₄ w₅ : List ℕ) → w₁ ≡ set w 0 1 → w₂ ≡ put w₁ 1 (u16_bytes 15) → w₃ ≡ put w₂ 3 (u16_bytes h.rays) → w₄ ≡ put w₃ 5 (u16_bytes h.gates) → w₅ ≡ put w₄ 7 (u32_bytes h.nyquist)
      → w₅ ≡ put w 0 (size_bytes h)
  unfolding u16_bytes u32_bytes
  size_stored w₁ w₂ w₃ w₄ w₅ a b c d e =
      put_then w w₄ w₅ 0 7 (1 ∷ [] ++ u16_bytes 15 ++ u16_bytes h.rays ++ u16_bytes h.gates) (u32_bytes h.nyquist)
      (put_then w w₃ w₄ 0 5 (1 ∷ [] ++ u16_bytes 15 ++ u16_bytes h.rays) (u16_bytes h.gates)
      (put_then w w₂ w₃ 0 3 (1 ∷ [] ++ u16_bytes 15) (u16_bytes h.rays)
      (put_then w w₁ w₂ 0 1 (1 ∷ []) (u16_bytes 15) (a ∙ put_one w 0 1) b refl)
      c refl) d refl) e refl

  pub options_stored : (w₁ w₂ w₃ : List ℕ) → w₁ ≡ put w 11 (u16_bytes h.splits) → w₂ ≡ put w₁ 13 (u16_bytes h.skip_between_rays) → w₃ ≡ put w₂ 15 (u16_bytes h.skip_along_ray)
      → set w₃ 17 (h.centred + 2 * h.wrap) ≡ put w 11 (option_bytes h)
  unfolding u16_bytes
  options_stored w₁ w₂ w₃ a b c =
      put_then w w₃ (set w₃ 17 (h.centred + 2 * h.wrap)) 11 17 (u16_bytes h.splits ++ u16_bytes h.skip_between_rays ++ u16_bytes h.skip_along_ray) ((h.centred + 2 * h.wrap) ∷ [])
      (put_then w w₂ w₃ 11 15 (u16_bytes h.splits ++ u16_bytes h.skip_between_rays) (u16_bytes h.skip_along_ray)
      (put_then w w₁ w₂ 11 13 (u16_bytes h.splits) (u16_bytes h.skip_between_rays) a b refl) c refl)
      (put_one w₃ 17 (h.centred + 2 * h.wrap)) refl

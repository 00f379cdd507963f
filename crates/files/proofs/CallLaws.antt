-- What the proofs of the calls cite: the answer of each question, what a yes to all gives, and the bytes of a whole file. Assumes nothing.
use Prim.Native.Nat.{ℕ, suc, ◌+◌, ◌*◌, ◌≤◌, ◌<◌}
use native.Mathlib.Omega.{arith}
use native.Mathlib.Nat.{mul-le-mul_right}
use mathlib.Core.Path.{◌≡◌, refl, sym, ap, ◌∙◌}
use mathlib.Core.Bool.{true, ◌&&◌}
use mathlib.Core.List.{List, [], ◌∷◌, ◌++◌}
use mathlib.Core.Option.{Option, none, some}
use lib.Dec.{eqb, leb}
use lib.ListN.{length, set, length-append}
use borrow.Author.Tests.{eq-eqb, ne_eqb, eqb-true, leb-true}
use Rattle.lists.specs.Seq.{all}
use Rattle.lists.specs.Inside.Seg.{put}
use Rattle.lists.proofs.AllLaws.{and_left, and_right}
use Rattle.sweep.specs.Questions.{Question, first_no, size_in_range, options_in_range}
use Rattle.sweep.specs.Entry.{answer_of}
use Rattle.sweep.proofs.PassedLaws.{size_rays, size_gates}
use Rattle.files.specs.declared.format.Header.{Header}
use Rattle.files.specs.Format.{Stored, u16_at, u16_bytes, u32_bytes, ray_at, file_length, field, option_bytes, header_bytes, ray_bytes, rays_bytes, file_of, header_in, bits_in, mask_in, sweep_in}
use Rattle.files.specs.Inside.Header.{size_bytes}
use Rattle.files.specs.Questions.{as_sweep, sweep_questions, header_questions, body_questions, content_questions, read_questions, slices_fit, write_questions}
use Rattle.files.specs.Calls.{Read, Written, read_by, ReadAnswer, SizeAnswer, no_header, read, write, header_words, as_words, call_read, call_size}
use Rattle.sweep.proofs.QuestionLaws.{zero_none, none_all, goes_on, stops}
use Rattle.files.proofs.AskLaws.{Yes, Named, named_append}
use Rattle.lists.proofs.PartLaws.{put_then, put_all, each_length}
use Rattle.files.proofs.CodeLaws.{header_there, header_named, body_named, ray_length, field_length}

-- ---- the reader's later questions

later_named : (s : Stored) → Named (sweep_questions s)
unfolding sweep_questions all
later_named s = refl

content_named : (f : List ℕ) (v m : ℕ) → Named (content_questions f v m)
unfolding content_questions all
content_named f v m = later_named (sweep_in f)

-- what question 2's yes gives
pub record Lengths (f : List ℕ) (v m : ℕ) : Type 0 where
  pub vel : v ≡ u16_at f 3 * u16_at f 5
  pub mask : m ≡ u16_at f 3 * u16_at f 5

pub content_lengths : (f : List ℕ) (v m : ℕ) → first_no (content_questions f v m) ≡ none → Lengths f v m
unfolding content_questions
content_lengths f v m h =
    let n = u16_at f 3 * u16_at f 5 in
    let y = (none_all (content_questions f v m) h).0 in
    record { vel = eqb-true v n (and_left (eqb v n) (eqb m n) y); mask = eqb-true m n (and_right (eqb v n) (eqb m n) y) }

-- ---- the reader's call

module _ (f vel mask : List ℕ) where
  abbrev pub asked : List Question
  asked = read_questions f (length vel) (length mask)

  -- a fault of the header decides, then one of the rays, then the questions on the contents
  pub at_header : (k : ℕ) → first_no (header_questions f) ≡ some k → first_no asked ≡ some k
  unfolding read_questions
  at_header k h = stops (header_questions f ++ body_questions f) _ k (stops (header_questions f) (body_questions f) k h)

  module _ (begun : first_no (header_questions f) ≡ none) where
    pub at_body : (k : ℕ) → first_no (body_questions f) ≡ some k → first_no asked ≡ some k
    unfolding read_questions
    at_body k h = stops (header_questions f ++ body_questions f) _ k (goes_on (header_questions f) (body_questions f) begun ∙ h)

    pub at_content : first_no (body_questions f) ≡ none → first_no asked ≡ first_no (content_questions f (length vel) (length mask))
    unfolding read_questions
    at_content whole = goes_on (header_questions f ++ body_questions f) _ (goes_on (header_questions f) (body_questions f) begun ∙ whole)

  -- what a refusal leaves, and what a file that is accepted gives
  pub read_refused : (k : ℕ) → first_no asked ≡ some k → read_by k no_header vel mask ≡ read f vel mask
  unfolding read
  read_refused k h = sym (rw (h, read) refl)

  pub read_whole : first_no asked ≡ none → read f vel mask ≡ record { number = 0; sweep = sweep_in f }
  unfolding read
  read_whole h = rw (h, read) refl

  pub read_done : (hd : Header) (vs ms : List ℕ) (rays gates : ℕ) → hd ≡ header_in f → rays ≡ u16_at f 3 → gates ≡ u16_at f 5 → vs ≡ bits_in f rays gates → ms ≡ mask_in f rays gates → first_no asked ≡ none → read_by 0 hd vs ms ≡ read f vel mask
  unfolding sweep_in
  read_done hd vs ms rays gates a r g b d h =
      (λ i. read_by 0 (a i) ((b ∙ (λ j. bits_in f (r j) (g j))) i) ((d ∙ (λ j. mask_in f (r j) (g j))) i))
      ∙ sym (read_whole h)

-- a reading's number is its questions' answer, and where it is 0 no question got a no
pub read_number : (f vel mask : List ℕ) → (read f vel mask).number ≡ answer_of (first_no (asked f vel mask))
read_number f vel mask = go (first_no (asked f vel mask)) refl
  where
    go : (o : Option ℕ) → first_no (asked f vel mask) ≡ o → (read f vel mask).number ≡ answer_of (first_no (asked f vel mask))
    go none e = ap (λ (r : Read). r.number) (read_whole f vel mask e) ∙ sym (ap answer_of e)
    go (some k) e = sym (ap (λ (r : Read). r.number) (read_refused f vel mask k e)) ∙ sym (ap answer_of e)

pub read_named : (f : List ℕ) (v m : ℕ) → Named (read_questions f v m)
unfolding read_questions
read_named f v m = named_append (header_questions f ++ body_questions f) (content_questions f v m) (named_append (header_questions f) (body_questions f) (header_named f) (body_named f)) (content_named f v m)

pub read_none : (f vel mask : List ℕ) → (read f vel mask).number ≡ 0 → first_no (asked f vel mask) ≡ none
read_none f vel mask z = zero_none (asked f vel mask) (read_named f (length vel) (length mask)) (sym (read_number f vel mask) ∙ z)

-- ---- the writer's questions

pub write_named : (s : Stored) (k : ℕ) → Named (write_questions s k)
unfolding write_questions all
write_named s k = later_named s

-- what a yes to all of the writer's questions gives
pub record Writable (s : Stored) (k : ℕ) : Type 0 where
  pub size : size_in_range s.header.rays s.header.gates ≡ true
  pub rays : s.header.rays < 65536
  pub gates : s.header.gates < 13108
  pub vel : length s.vel ≡ s.header.rays * s.header.gates
  pub mask : length s.mask ≡ s.header.rays * s.header.gates
  pub buffer : k ≡ file_length s.header.rays s.header.gates
  pub splits : s.header.splits < 65536
  pub skip_between_rays : s.header.skip_between_rays < 65536
  pub skip_along_ray : s.header.skip_along_ray < 65536
  pub centred : s.header.centred ≤ 1
  pub wrap : s.header.wrap ≤ 1
  pub later : Yes (sweep_questions s)

record Options (h : Header) : Type 0 where
  pub splits : h.splits ≤ 9999
  pub skip_between_rays : h.skip_between_rays ≤ 1000
  pub skip_along_ray : h.skip_along_ray ≤ 1000
  pub centred : h.centred ≤ 1
  pub wrap : h.wrap ≤ 1

options : (s : Stored) → options_in_range (as_sweep s) ≡ true → Options s.header
unfolding as_sweep options_in_range
options s y =
    let h = s.header in
    let a = leb 1 h.splits in
    let b = leb h.splits 9999 in
    let c = leb h.skip_between_rays 1000 in
    let d = leb h.skip_along_ray 1000 in
    let e = leb h.centred 1 in
    let f = leb h.wrap 1 in
    let y5 = and_left (a && b && c && d && e) f y in
    let y4 = and_left (a && b && c && d) e y5 in
    let y3 = and_left (a && b && c) d y4 in
    let y2 = and_left (a && b) c y3 in
    record {
      splits = leb-true h.splits 9999 (and_right a b y2);
      skip_between_rays = leb-true h.skip_between_rays 1000 (and_right (a && b) c y3);
      skip_along_ray = leb-true h.skip_along_ray 1000 (and_right (a && b && c) d y4);
      centred = leb-true h.centred 1 (and_right (a && b && c && d) e y5);
      wrap = leb-true h.wrap 1 (and_right (a && b && c && d && e) f y);
    }

later_options : (s : Stored) → Yes (sweep_questions s) → options_in_range (as_sweep s) ≡ true
unfolding sweep_questions
later_options s y = y.1.1.0

pub write_yes : (s : Stored) (k : ℕ) → first_no (write_questions s k) ≡ none → Writable s k
unfolding write_questions slices_fit
write_yes s k h =
    let y = none_all (write_questions s k) h in
    let r = s.header.rays in
    let g = s.header.gates in
    let n = r * g in
    let o = options s (later_options s y.1.1) in
    let ab = and_left (eqb (length s.vel) n && eqb (length s.mask) n) (eqb k (file_length r g)) y.1.0 in
    let x = size_rays r g y.0 in
    let z = size_gates r g y.0 in
    record {
      size = y.0;
      rays = omega arith;
      gates = omega arith;
      vel = eqb-true (length s.vel) n (and_left (eqb (length s.vel) n) (eqb (length s.mask) n) ab);
      mask = eqb-true (length s.mask) n (and_right (eqb (length s.vel) n) (eqb (length s.mask) n) ab);
      buffer = eqb-true k (file_length r g) (and_right (eqb (length s.vel) n && eqb (length s.mask) n) (eqb k (file_length r g)) y.1.0);
      splits = omega (arith, o.splits);
      skip_between_rays = omega (arith, o.skip_between_rays);
      skip_along_ray = omega (arith, o.skip_along_ray);
      centred = o.centred;
      wrap = o.wrap;
      later = y.1.1;
    }

-- ---- the bytes of a whole file

pub long_enough : (k rays gates : ℕ) → k ≡ file_length rays gates → 18 ≤ k
unfolding file_length ray_at
long_enough k rays gates e = more (rays * (3 + 5 * gates)) e
  where
    more : (x : ℕ) → k ≡ 18 + x → 18 ≤ k
    more x e = omega arith

pub ray_inside : (f p rays gates r : ℕ) → f ≡ file_length rays gates → p ≡ ray_at gates r → r < rays → p + 3 + 5 * gates ≤ f
unfolding file_length ray_at
ray_inside f p rays gates r e q h = go (r * (3 + 5 * gates)) (rays * (3 + 5 * gates)) (suc r * (3 + 5 * gates)) (times r (3 + 5 * gates)) (mul-le-mul_right (3 + 5 * gates) h) e q
  where
    times : (n k : ℕ) → suc n * k ≡ k + n * k
    times n k = omega arith

    go : (x y z : ℕ) → z ≡ 3 + 5 * gates + x → z ≤ y → f ≡ 18 + y → p ≡ 18 + x → p + 3 + 5 * gates ≤ f
    go x y z a b c d = omega arith

pub gates_inside : (v rays gates r : ℕ) → v ≡ rays * gates → r < rays → r * gates + gates ≤ v
gates_inside v rays gates r e h = go (r * gates) (rays * gates) (suc r * gates) (times r gates) (mul-le-mul_right gates h) e
  where
    times : (n k : ℕ) → suc n * k ≡ k + n * k
    times n k = omega arith

    go : (x y z : ℕ) → z ≡ gates + x → z ≤ y → v ≡ y → x + gates ≤ v
    go x y z a b c = omega arith

rays_length : (vel mask : List ℕ) (rays gates : ℕ) → length (rays_bytes vel mask rays gates) ≡ rays * (3 + 5 * gates)
unfolding rays_bytes
rays_length vel mask rays gates = each_length (λ r. field 2 (ray_bytes vel mask gates (r * gates))) (3 + 5 * gates) (λ i. field_length 2 (ray_bytes vel mask gates (i * gates)) ∙ ap (λ (k : ℕ). 3 + k) (ray_length vel mask gates (i * gates))) rays 0

pub header_long : (h : Header) → length (header_bytes h) ≡ 15
unfolding header_bytes u16_bytes u32_bytes
header_long h = refl

pub file_length_lem : (s : Stored) → length (file_of s) ≡ file_length s.header.rays s.header.gates
unfolding file_of file_length ray_at
file_length_lem s =
    length-append (field 1 (header_bytes s.header)) (rays_bytes s.vel s.mask s.header.rays s.header.gates)
    ∙ (λ i. (field_length 1 (header_bytes s.header) ∙ ap (λ (k : ℕ). 3 + k) (header_long s.header)) i + rays_length s.vel s.mask s.header.rays s.header.gates i)

-- the header's field, stored in two parts, and the rays after it
module _ (s : Stored) (w : List ℕ) where
  header_parts : size_bytes s.header ++ option_bytes s.header ≡ field 1 (header_bytes s.header)
  unfolding field header_bytes u16_bytes u32_bytes
  header_parts = refl

  size_long : length (size_bytes s.header) ≡ 11
  unfolding u16_bytes u32_bytes
  size_long = refl

  both_long : length (size_bytes s.header ++ option_bytes s.header) ≡ 18
  unfolding u16_bytes u32_bytes
  both_long = refl

  file_stored : (w₁ w₂ w₃ : List ℕ) → length w ≡ file_length s.header.rays s.header.gates → w₁ ≡ put w 0 (size_bytes s.header) → w₂ ≡ put w₁ 11 (option_bytes s.header)
      → w₃ ≡ put w₂ 18 (rays_bytes s.vel s.mask s.header.rays s.header.gates) → w₃ ≡ file_of s
  unfolding file_of
  file_stored w₁ w₂ w₃ l a b c =
      let rays = rays_bytes s.vel s.mask s.header.rays s.header.gates in
      let size = size_bytes s.header in
      let options = option_bytes s.header in
      put_then w w₂ w₃ 0 18 (size ++ options) rays (put_then w w₁ w₂ 0 11 size options a b (ap (λ (k : ℕ). 0 + k) (sym size_long))) c (ap (λ (k : ℕ). 0 + k) (sym both_long))
      ∙ ap (λ (h : List ℕ). put w 0 (h ++ rays)) header_parts
      ∙ put_all w (field 1 (header_bytes s.header) ++ rays) (file_length_lem s ∙ sym l)

-- ---- the writer's call

module _ (s : Stored) (w : List ℕ) where
  pub write_refused : (k : ℕ) → first_no (write_questions s (length w)) ≡ some k → ◌≡◌ {A = Written} (record { number = k; file = w }) (write s w)
  unfolding write
  write_refused k h = sym (rw (h, write) refl)

  -- what header, options and rays stored one after another leave
  pub write_done : (w₁ w₂ w₃ : List ℕ) → first_no (write_questions s (length w)) ≡ none → w₁ ≡ put w 0 (size_bytes s.header) → w₂ ≡ put w₁ 11 (option_bytes s.header)
      → w₃ ≡ put w₂ 18 (rays_bytes s.vel s.mask s.header.rays s.header.gates) → ◌≡◌ {A = Written} (record { number = 0; file = w₃ }) (write s w)
  unfolding write
  write_done w₁ w₂ w₃ h a b c = (λ i. record { number = 0; file = file_stored s w w₁ w₂ w₃ (write_yes s (length w) h).buffer a b c i }) ∙ sym (rw (h, write) refl)

-- ---- the exported entries

module _ (f size : List ℕ) where
  pub size_refused : (length size ≡ 2 → ⊥) → ◌≡◌ {A = SizeAnswer} (record { number = 2; size = size }) (call_size f size)
  unfolding call_size
  size_refused n = rw (ne_eqb (length size) 2 n) refl

  module _ (l : length size ≡ 2) where
    pub size_fault : (k : ℕ) → first_no (header_questions f) ≡ some k → ◌≡◌ {A = SizeAnswer} (record { number = k; size = size }) (call_size f size)
    unfolding call_size
    size_fault k h = rw (eq-eqb (length size) 2 l, h, call_size) refl

    pub size_done : (w : List ℕ) → first_no (header_questions f) ≡ none → w ≡ u16_at f 3 ∷ u16_at f 5 ∷ [] → ◌≡◌ {A = SizeAnswer} (record { number = 0; size = w }) (call_size f size)
    unfolding call_size
    size_done w h e = rw (eq-eqb (length size) 2 l, h, call_size) (λ i. record { number = 0; size = e i })

pub two_words : (l : List ℕ) (a b : ℕ) → length l ≡ 2 → set (set l 0 a) 1 b ≡ a ∷ b ∷ []
two_words [] a b e = absurd (omega arith)
two_words (x ∷ []) a b e = absurd (omega arith)
two_words (x ∷ y ∷ []) a b e = refl
two_words (x ∷ y ∷ z ∷ l) a b e = absurd (more (length l) e)
  where
    more : (k : ℕ) → suc (suc (suc k)) ≡ 2 → ⊥
    more k e = omega arith

module _ (f vel mask header : List ℕ) where
  pub words_long : (length header ≡ 8 → ⊥) → ◌≡◌ {A = ReadAnswer} (record { number = 2; vel = vel; mask = mask; header = header }) (call_read f vel mask header)
  unfolding call_read
  words_long n = rw (ne_eqb (length header) 8 n) refl

  pub words_done : (r : Read) (w : List ℕ) → length header ≡ 8 → r ≡ read f vel mask → w ≡ header_words r.sweep.header
      → ◌≡◌ {A = ReadAnswer} (record { number = r.number; vel = r.sweep.vel; mask = r.sweep.mask; header = w }) (call_read f vel mask header)
  unfolding call_read
  words_done r w l e h =
      (λ i. record { number = r.number; vel = r.sweep.vel; mask = r.sweep.mask; header = h i })
      ∙ (λ i. as_words (e i))
      ∙ sym (rw (eq-eqb (length header) 8 l) refl)

-- ---- what the calls are proved by
pub ruleset of_read = (at_header, at_body, at_content, read_refused, read_done, content_lengths, header_there)

pub ruleset of_size = (size_refused, size_fault, size_done, two_words, header_there)

pub ruleset of_write = (write_yes, write_refused, write_done, long_enough)

-- The theorems on files: a written sweep reads back bit for bit, and an accepted file is the only one of its sweep. Assumes nothing.
use Prim.Native.Nat.{ℕ, ◌+◌, ◌*◌, ◌/◌, ◌%◌, ◌≤◌, ◌<◌}
use native.Mathlib.Omega.{arith}
use mathlib.Core.Path.{◌≡◌, refl, sym, ap, ◌∙◌, subst}
use mathlib.Core.Bool.{true}
use mathlib.Core.List.{List, [], ◌∷◌, ◌++◌}
use mathlib.Core.Option.{Option, none, some}
use lib.Dec.{eqb}
use lib.ListN.{length, get_or}
use lib.Ieee.{binary32, of_bits}
use Rattle.arithmetic.specs.Intervals.{nyquist_in_range}
use borrow.Author.Tests.{eq-eqb}
use Rattle.lists.proofs.SeqLaws.{tab_length}
use Rattle.sweep.specs.Questions.{Question, ask, first_no, size_in_range}
use Rattle.sweep.specs.Entry.{answer_of}
use Rattle.files.specs.Format.{Stored, stored, header_by, options_by, u16_at, u32_at, ray_at, file_length, gate_at, file_of, header_in, bits_in, mask_in, sweep_in}
use Rattle.files.specs.Questions.{as_sweep, sweep_questions, field_questions, header_questions, rays_questions, body_questions, content_questions, read_questions, slices_fit, write_questions}
use Rattle.files.specs.Calls.{Read, Written, read, write, call_write}
use Rattle.files.specs.Theorems.{Bytes, ReadsBack, OnlyFile, OneFile, WritesBack}
use Rattle.sweep.proofs.QuestionLaws.{zero_none, none_all, all_none}
use Rattle.files.proofs.BitLaws.{nyquist_again}
use Rattle.files.proofs.AskLaws.{Yes, yes_left, yes_right, yes_append, yes_each, each_yes}
use Rattle.files.proofs.CodeLaws.{Field, Begun, field_is, is_field, header_is, is_header, body_length}
use Rattle.files.proofs.CallLaws.{Writable, read_none, read_whole, write_named, write_yes, long_enough, file_length_lem}
use Rattle.files.proofs.FileLaws.{file_bytes, back_tag, back_length, back_rays, back_gates, back_options, ray_back, sweep_back}

-- ---- calls that answer 0

module _ (s : Stored) (buffer : List ℕ) where
  abbrev wanted : List Question
  wanted = write_questions s (length buffer)

  write_some : (k : ℕ) → first_no wanted ≡ some k → write s buffer ≡ record { number = k; file = buffer }
  unfolding write
  write_some k h = rw (h, write) refl

  write_all : first_no wanted ≡ none → write s buffer ≡ record { number = 0; file = file_of s }
  unfolding write
  write_all h = rw (h, write) refl

  write_none : (write s buffer).number ≡ 0 → first_no wanted ≡ none
  write_none z = go (first_no wanted) refl
    where
      go : (o : Option ℕ) → first_no wanted ≡ o → first_no wanted ≡ none
      go none e = e
      go (some k) e = zero_none wanted (write_named s (length buffer)) (ap answer_of e ∙ sym (ap (λ (r : Written). r.number) (write_some k e)) ∙ z)

-- ---- a written file is read

-- every question of the reader gets a yes
module _ (s : Stored) (k v m : ℕ) (w : Writable s k) (a : v ≡ length s.vel) (b : m ≡ length s.mask) where
  abbrev file : List ℕ
  file = file_of s

  back : sweep_in file ≡ s
  back = sweep_back s w.centred w.wrap w.vel w.mask

  begun : Begun file
  begun = record {
    field = record { tagged = back_tag s; whole = long_enough (length file) s.header.rays s.header.gates (file_length_lem s); long = back_length s };
    spare = few (get_or file 17 0) s.header.centred s.header.wrap (back_options s) w.centred w.wrap;
    size = (λ i. size_in_range (back_rays s i) (back_gates s i)) ∙ w.size;
  }
    where
      few : (o x y : ℕ) → o ≡ x + 2 * y → x ≤ 1 → y ≤ 1 → o < 4
      few o x y e a b = omega arith

  rays_yes : Yes (rays_questions file s.header.gates s.header.rays 0)
  unfolding rays_questions
  rays_yes = yes_each (λ r. field_questions file (ray_at s.header.gates r) 2 (5 * s.header.gates)) s.header.rays 0 (λ r p q. is_field file (ray_at s.header.gates r) 2 (5 * s.header.gates) (ray_back s r (omega arith)))

  body_yes : Yes (body_questions file)
  unfolding body_questions
  body_yes =
      yes_append (rays_questions file (u16_at file 5) (u16_at file 3) 0) (ask 12 (eqb (length file) (file_length (u16_at file 3) (u16_at file 5))) ∷ [])
      (subst (λ (l : List Question). Yes l) (sym (λ i. rays_questions file (back_gates s i) (back_rays s i) 0)) rays_yes)
      (eq-eqb (length file) (file_length (u16_at file 3) (u16_at file 5)) (file_length_lem s ∙ sym (λ i. file_length (back_rays s i) (back_gates s i))), tt)

  content_yes : Yes (content_questions file v m)
  unfolding content_questions
  content_yes =
      let n : u16_at file 3 * u16_at file 5 ≡ s.header.rays * s.header.gates = λ i. back_rays s i * back_gates s i in (
        rw (eq-eqb v (u16_at file 3 * u16_at file 5) (a ∙ w.vel ∙ sym n), eq-eqb m (u16_at file 3 * u16_at file 5) (b ∙ w.mask ∙ sym n)) refl,
        subst (λ (l : List Question). Yes l) (sym (ap sweep_questions back)) w.later,
      )

  read_yes : Yes (read_questions file v m)
  unfolding read_questions
  read_yes = yes_append (header_questions file ++ body_questions file) (content_questions file v m) (yes_append (header_questions file) (body_questions file) (is_header file begun) body_yes) content_yes

pub reads_back : ReadsBack
reads_back s buffer vel mask z a b =
    let n = write_none s buffer z in
    let w = write_yes s (length buffer) n in
    ap (λ (r : Written). read r.file vel mask) (write_all s buffer n)
    ∙ read_whole (file_of s) vel mask (all_none (read_questions (file_of s) (length vel) (length mask)) (read_yes s (length buffer) (length vel) (length mask) w a b))
    ∙ ap (λ (t : Stored). record { number = 0; sweep = t }) (sweep_back s w.centred w.wrap w.vel w.mask)

-- ---- an accepted file is written

module _ (f : List ℕ) (v m : ℕ) (b : Bytes f) (y : Yes (read_questions f v m)) where
  both : Yes (header_questions f ++ body_questions f)
  unfolding read_questions
  both = yes_left (header_questions f ++ body_questions f) (content_questions f v m) y

  content : Yes (content_questions f v m)
  unfolding read_questions
  content = yes_right (header_questions f ++ body_questions f) (content_questions f v m) y

  header : Begun f
  header = header_is f (yes_left (header_questions f) (body_questions f) both)

  body : Yes (body_questions f)
  body = yes_right (header_questions f) (body_questions f) both

  rays : (r : ℕ) → r < u16_at f 3 → Field f (ray_at (u16_at f 5) r) 2 (5 * u16_at f 5)
  unfolding body_questions rays_questions
  rays r h =
      field_is f (ray_at (u16_at f 5) r) 2 (5 * u16_at f 5)
      (each_yes (λ r. field_questions f (ray_at (u16_at f 5) r) 2 (5 * u16_at f 5)) (u16_at f 3) 0 r (omega arith) (omega arith)
      (yes_left (rays_questions f (u16_at f 5) (u16_at f 3) 0) (ask 12 (eqb (length f) (file_length (u16_at f 3) (u16_at f 5))) ∷ []) body))

  file_again : file_of (sweep_in f) ≡ f
  file_again = file_bytes f b header (body_length f body) rays

  later : Yes (sweep_questions (sweep_in f))
  unfolding content_questions
  later = content.1

  slices_fit_lem : (k : ℕ) → k ≡ length f → slices_fit (sweep_in f) k ≡ true
  unfolding slices_fit sweep_in header_in bits_in mask_in
  slices_fit_lem k e =
      let n = u16_at f 3 * u16_at f 5 in
      rw (eq-eqb (length (bits_in f (u16_at f 3) (u16_at f 5))) n (tab_length (λ i. u32_at f (gate_at (u16_at f 5) i + 1)) n), eq-eqb (length (mask_in f (u16_at f 3) (u16_at f 5))) n (tab_length (λ i. get_or f (gate_at (u16_at f 5) i) 0) n), eq-eqb k (file_length (u16_at f 3) (u16_at f 5)) (e ∙ body_length f body)) refl

  size_again : size_in_range (sweep_in f).header.rays (sweep_in f).header.gates ≡ true
  unfolding sweep_in header_in
  size_again = header.size

  write_again : (k : ℕ) → k ≡ length f → Yes (write_questions (sweep_in f) k)
  unfolding write_questions
  write_again k e = (size_again, (slices_fit_lem k e, later))

pub only_file : OnlyFile
only_file f vel mask buffer b z l =
    let n = read_none f vel mask z in
    let y = none_all (read_questions f (length vel) (length mask)) n in
    ap (λ (r : Read). write r.sweep buffer) (read_whole f vel mask n)
    ∙ write_all (sweep_in f) buffer (all_none (write_questions (sweep_in f) (length buffer)) (write_again f (length vel) (length mask) b y (length buffer) l))
    ∙ ap (λ (g : List ℕ). record { number = 0; file = g }) (file_again f (length vel) (length mask) b y)

pub one_file : OneFile
one_file f g vel mask vel' mask' b c y z e =
    let n = read_none f vel mask y in
    let k = read_none g vel' mask' z in
    sym (file_again f (length vel) (length mask) b (none_all (read_questions f (length vel) (length mask)) n))
    ∙ ap file_of (sym (ap (λ (r : Read). r.sweep) (read_whole f vel mask n)) ∙ e ∙ ap (λ (r : Read). r.sweep) (read_whole g vel' mask' k))
    ∙ file_again g (length vel') (length mask') c (none_all (read_questions g (length vel') (length mask')) k)

-- the header of the options of an accepted file's header
module _ (f : List ℕ) (v m : ℕ) (b : Bytes f) (y : Yes (read_questions f v m)) where
  nyquist_under : u32_at f 7 < 4294967296
  unfolding u32_at u16_at
  nyquist_under = let x = b 7 in let z = b (7 + 1) in let u = b (7 + 2) in let w = b (7 + 2 + 1) in omega arith

  nyquist_yes : nyquist_in_range (of_bits binary32 (u32_at f 7)) ≡ true
  unfolding sweep_questions as_sweep sweep_in header_in
  nyquist_yes = (later f v m b y).1.0

  header_again : header_by (options_by (header_in f)) ≡ header_in f
  unfolding header_in
  header_again i = record {
    rays = u16_at f 3;
    gates = u16_at f 5;
    nyquist = nyquist_again (u32_at f 7) nyquist_under nyquist_yes i;
    splits = u16_at f 11;
    skip_between_rays = u16_at f 13;
    skip_along_ray = u16_at f 15;
    centred = get_or f 17 0 % 2;
    wrap = get_or f 17 0 / 2 % 2;
  }

pub writes_back : WritesBack
unfolding call_write
writes_back f vel mask buffer b z l =
    let n = read_none f vel mask z in
    let y = none_all (read_questions f (length vel) (length mask)) n in
    let e = ap (λ (r : Read). r.sweep) (read_whole f vel mask n) in
    (λ i. write (stored (header_by (options_by (e i).header)) (e i).vel (e i).mask) buffer)
    ∙ stored_again (header_again f (length vel) (length mask) b y)
    ∙ sym (λ i. write (e i) buffer)
    ∙ only_file f vel mask buffer b z l
  where
    stored_again : header_by (options_by (header_in f)) ≡ header_in f → write (stored (header_by (options_by (sweep_in f).header)) (sweep_in f).vel (sweep_in f).mask) buffer ≡ write (sweep_in f) buffer
    stored_again h = unfold sweep_in in λ i. write (stored (h i) (bits_in f (u16_at f 3) (u16_at f 5)) (mask_in f (u16_at f 3) (u16_at f 5))) buffer

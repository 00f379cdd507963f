-- The bytes of an accepted file are those of its sweep's file, and the sweep of a written file is the one written. Assumes nothing.
use Prim.Native.Nat.{ℕ, zero, suc, ◌+◌, ◌*◌, ◌/◌, ◌%◌, ◌≤◌, ◌<◌}
use native.Mathlib.Omega.{arith}
use native.Mathlib.Nat.{div-eq_of_lt-le, div-lt_iff_lt-mul, div-add-mod', mod-lt, mul_comm, mul-zero, zero-add}
use mathlib.Core.Path.{◌≡◌, refl, sym, ap, ◌∙◌, subst}
use mathlib.Core.List.{List, [], ◌∷◌, ◌++◌}
use lib.ListN.{length, get_or}
use lib.Seq.{get_or-append-add}
use Rattle.lists.specs.Inside.Seg.{seg}
use Rattle.lists.proofs.SeqLaws.{tab_at, tab_same}
use Rattle.lists.proofs.SegLaws.{seg_all, is_tab}
use Rattle.files.specs.Format.{Stored, u16_at, u32_at, u16_bytes, u32_bytes, ray_at, file_length, gate_at, field, header_bytes, gate_bytes, ray_bytes, rays_bytes, file_of, header_in, bits_in, mask_in, sweep_in}
use Rattle.files.specs.Inside.Gates.{mask_at, bits_at}
use Rattle.files.specs.Theorems.{Bytes}
use Rattle.lists.proofs.PartLaws.{seg_then, seg_one, seg_each, each_at, each_agree}
use Rattle.files.proofs.CodeLaws.{Field, Begun, gate_inside, gate_length, ray_length, field_length, rays_long}
use Rattle.files.proofs.CallLaws.{header_long, ray_inside, gates_inside, file_length_lem}

-- ---- from a file to its sweep and back

module _ (f : List ℕ) (b : Bytes f) where
  -- two bytes are the bytes of their number
  seg_u16 : (a : ℕ) → a + 2 ≤ length f → seg f a 2 ≡ u16_bytes (u16_at f a)
  unfolding u16_bytes u16_at
  seg_u16 a h =
      seg_then f a (a + 1) 1 1 2 (seg_one f a 0 (omega arith)) (seg_one f (a + 1) 0 (omega arith)) refl refl
      ∙ (λ i. high (get_or f a 0) (get_or f (a + 1) 0) (b (a + 1)) i ∷ low (get_or f a 0) (get_or f (a + 1) 0) (b (a + 1)) i ∷ [])
    where
      high : (x y : ℕ) → y < 256 → x ≡ (x * 256 + y) / 256
      high x y h = omega arith

      low : (x y : ℕ) → y < 256 → y ≡ (x * 256 + y) % 256
      low x y h = omega arith

  u16_under : (a : ℕ) → u16_at f a < 65536
  unfolding u16_at
  u16_under a = let x = b a in let y = b (a + 1) in omega arith

  -- and four
  seg_u32 : (a : ℕ) → a + 4 ≤ length f → seg f a 4 ≡ u32_bytes (u32_at f a)
  unfolding u32_bytes u32_at
  seg_u32 a h =
      seg_then f a (a + 2) 2 2 4 (seg_u16 a (omega arith)) (seg_u16 (a + 2) (omega arith)) refl refl
      ∙ (λ i. u16_bytes (high (u16_at f a) (u16_at f (a + 2)) (u16_under (a + 2)) i) ++ u16_bytes (low (u16_at f a) (u16_at f (a + 2)) (u16_under (a + 2)) i))
    where
      high : (x y : ℕ) → y < 65536 → x ≡ (x * 65536 + y) / 65536
      high x y h = omega arith

      low : (x y : ℕ) → y < 65536 → y ≡ (x * 65536 + y) % 65536
      low x y h = omega arith

  -- the header
  header_bytes_lem : 18 ≤ length f → get_or f 17 0 < 4 → seg f 3 15 ≡ header_bytes (header_in f)
  unfolding header_bytes header_in
  header_bytes_lem h s =
      seg_then f 3 11 8 7 15
      (seg_then f 3 7 4 4 8 (seg_then f 3 5 2 2 4 (seg_u16 3 (omega arith)) (seg_u16 5 (omega arith)) refl refl) (seg_u32 7 (omega arith)) refl refl)
      (seg_then f 11 17 6 1 7
      (seg_then f 11 15 4 2 6 (seg_then f 11 13 2 2 4 (seg_u16 11 (omega arith)) (seg_u16 13 (omega arith)) refl refl) (seg_u16 15 (omega arith)) refl refl)
      (seg_one f 17 0 (omega arith) ∙ ap (λ (k : ℕ). k ∷ []) (bits (get_or f 17 0) s))
      refl refl)
      refl refl
    where
      bits : (o : ℕ) → o < 4 → o ≡ o % 2 + 2 * (o / 2 % 2)
      bits o h = omega arith

  -- a field whose contents are known
  field_bytes : (at tag len : ℕ) (xs : List ℕ) → Field f at tag len → length xs ≡ len → seg f (at + 3) len ≡ xs → seg f at (3 + len) ≡ field tag xs
  unfolding field
  field_bytes at tag len xs w l e =
      let h = w.whole in
      seg_then f at (at + 3) 3 len (3 + len)
      (seg_then f at (at + 1) 1 2 3
      (seg_one f at 0 (omega arith) ∙ ap (λ (k : ℕ). k ∷ []) w.tagged)
      (seg_u16 (at + 1) (omega arith) ∙ ap u16_bytes (w.long ∙ sym l))
      refl refl)
      e refl refl

  module _ (rays gates : ℕ) (l : length f ≡ file_length rays gates) (a : rays < 65536) (c : gates < 65536) where
    abbrev vel : List ℕ
    vel = bits_in f rays gates

    abbrev mask : List ℕ
    mask = mask_in f rays gates

    -- gate i of ray r
    place : (r i : ℕ) → r * gates ≤ i → i < (r + 1) * gates → gate_at gates i ≡ 21 + 3 * r + i * 5
    unfolding gate_at
    place r i p q = put_in (i / gates) (div-eq_of_lt-le gates p q)
      where
        put_in : (k : ℕ) → k ≡ r → 21 + 3 * k + 5 * i ≡ 21 + 3 * r + i * 5
        put_in k e = omega arith

    gate_bytes_lem : (r i : ℕ) → r * gates ≤ i → i < (r + 1) * gates → i < rays * gates → gate_bytes vel mask i ≡ seg f (21 + 3 * r + i * 5) 5
    unfolding gate_bytes bits_in mask_in mask_at bits_at
    gate_bytes_lem r i p q h =
        let room = gate_inside (length f) rays gates i l h in
        let e = place r i p q in
        let fit : 21 + 3 * r + i * 5 + 5 ≤ length f = omega (arith, room) in
        (λ j. (tab_at (mask_at f gates) (rays * gates) i 0 h ∙ ap (λ (k : ℕ). get_or f k 0) e) j ∷ u32_bytes ((tab_at (bits_at f gates) (rays * gates) i 0 h ∙ ap (λ (k : ℕ). u32_at f (k + 1)) e) j))
        ∙ sym (seg_then f (21 + 3 * r + i * 5) (21 + 3 * r + i * 5 + 1) 1 4 5 (seg_one f (21 + 3 * r + i * 5) 0 (omega arith)) (seg_u32 (21 + 3 * r + i * 5 + 1) (omega arith)) refl refl)

    ray_bytes_lem : (r : ℕ) → r < rays → ray_bytes vel mask gates (r * gates) ≡ seg f (ray_at gates r + 3) (5 * gates)
    unfolding ray_bytes ray_at
    ray_bytes_lem r h =
        each_agree (gate_bytes vel mask) (λ i. seg f (21 + 3 * r + i * 5) 5) gates (r * gates) (λ i p q. gate_bytes_lem r i p (subst (λ (k : ℕ). i < k) (sym (next r gates)) q) (inside i p q))
        ∙ seg_each f (21 + 3 * r) 5 gates (r * gates)
        ∙ (λ j. seg f (start (r * (3 + 5 * gates)) (r * gates) (rays_long r gates) j) (mul_comm gates 5 j))
      where
        next : (r g : ℕ) → (r + 1) * g ≡ r * g + g
        next r g = omega arith

        start : (x y : ℕ) → x ≡ 3 * r + 5 * y → 21 + 3 * r + y * 5 ≡ 18 + x + 3
        start x y e = omega arith

        inside : (i : ℕ) → r * gates ≤ i → i < r * gates + gates → i < rays * gates
        inside i p q = omega (arith, gates_inside (rays * gates) rays gates r refl h)

    rays_bytes_lem : ((r : ℕ) → r < rays → Field f (ray_at gates r) 2 (5 * gates)) → seg f 18 (rays * (3 + 5 * gates)) ≡ rays_bytes vel mask rays gates
    unfolding rays_bytes ray_at
    rays_bytes_lem w =
        sym (each_agree (λ r. field 2 (ray_bytes vel mask gates (r * gates))) (λ r. seg f (18 + r * (3 + 5 * gates)) (3 + 5 * gates)) rays 0
        (λ r p q. sym (field_bytes (18 + r * (3 + 5 * gates)) 2 (5 * gates) (ray_bytes vel mask gates (r * gates)) (w r (omega arith)) (ray_length vel mask gates (r * gates)) (sym (ray_bytes_lem r (omega arith)))))
        ∙ seg_each f 18 (3 + 5 * gates) rays 0
        ∙ ap (λ (k : ℕ). seg f k (rays * (3 + 5 * gates))) (none_yet (3 + 5 * gates)))
      where
        none_yet : (k : ℕ) → 18 + 0 * k ≡ 18
        none_yet k = omega arith

  -- the whole
  pub file_bytes : Begun f → length f ≡ file_length (u16_at f 3) (u16_at f 5) → ((r : ℕ) → r < u16_at f 3 → Field f (ray_at (u16_at f 5) r) 2 (5 * u16_at f 5)) → file_of (sweep_in f) ≡ f
  unfolding file_of sweep_in header_in file_length ray_at
  file_bytes w l rs =
      sym (seg_then f 0 18 18 (u16_at f 3 * (3 + 5 * u16_at f 5)) (18 + u16_at f 3 * (3 + 5 * u16_at f 5))
      (field_bytes 0 1 15 (header_bytes (header_in f)) w.field (header_long (header_in f)) (header_bytes_lem w.field.whole w.spare))
      (rays_bytes_lem (u16_at f 3) (u16_at f 5) l (u16_under 3) (u16_under 5) rs)
      refl refl)
      ∙ seg_all f (18 + u16_at f 3 * (3 + 5 * u16_at f 5)) l

-- ---- from a sweep to its file and back

module _ (s : Stored) where
  abbrev file : List ℕ
  file = file_of s

  abbrev R : ℕ
  R = s.header.rays

  abbrev G : ℕ
  G = s.header.gates

  pub back_tag : get_or file 0 0 ≡ 1
  unfolding file_of field
  back_tag = refl

  pub back_length : u16_at file 1 ≡ 15
  unfolding file_of field u16_at header_bytes u16_bytes u32_bytes
  back_length = refl

  pub back_rays : u16_at file 3 ≡ R
  unfolding file_of field u16_at header_bytes u16_bytes u32_bytes
  back_rays = omega arith

  pub back_gates : u16_at file 5 ≡ G
  unfolding file_of field u16_at header_bytes u16_bytes u32_bytes
  back_gates = omega arith

  back_nyquist : u32_at file 7 ≡ s.header.nyquist
  unfolding file_of field u16_at u32_at header_bytes u16_bytes u32_bytes
  back_nyquist = omega arith

  back_splits : u16_at file 11 ≡ s.header.splits
  unfolding file_of field u16_at header_bytes u16_bytes u32_bytes
  back_splits = omega arith

  back_skip_between_rays : u16_at file 13 ≡ s.header.skip_between_rays
  unfolding file_of field u16_at header_bytes u16_bytes u32_bytes
  back_skip_between_rays = omega arith

  back_skip_along_ray : u16_at file 15 ≡ s.header.skip_along_ray
  unfolding file_of field u16_at header_bytes u16_bytes u32_bytes
  back_skip_along_ray = omega arith

  pub back_options : get_or file 17 0 ≡ s.header.centred + 2 * s.header.wrap
  unfolding file_of field header_bytes u16_bytes u32_bytes
  back_options = refl

  header_back : s.header.centred ≤ 1 → s.header.wrap ≤ 1 → header_in file ≡ s.header
  unfolding header_in
  header_back a b i = record {
    rays = back_rays i;
    gates = back_gates i;
    nyquist = back_nyquist i;
    splits = back_splits i;
    skip_between_rays = back_skip_between_rays i;
    skip_along_ray = back_skip_along_ray i;
    centred = (ap (λ (k : ℕ). k % 2) back_options ∙ low s.header.centred s.header.wrap a) i;
    wrap = (ap (λ (k : ℕ). k / 2 % 2) back_options ∙ high s.header.centred s.header.wrap a b) i;
  }
    where
      low : (x y : ℕ) → x ≤ 1 → (x + 2 * y) % 2 ≡ x
      low x y a = omega arith

      high : (x y : ℕ) → x ≤ 1 → y ≤ 1 → (x + 2 * y) / 2 % 2 ≡ y
      high x y a b = omega arith

  -- byte j of ray r
  begins : length (field 1 (header_bytes s.header)) ≡ 18
  begins = field_length 1 (header_bytes s.header) ∙ ap (λ (k : ℕ). 3 + k) (header_long s.header)

  ray_byte : (r j : ℕ) → r < R → j < 3 + 5 * G → get_or file (ray_at G r + j) 0 ≡ get_or (field 2 (ray_bytes s.vel s.mask G (r * G))) j 0
  unfolding file_of rays_bytes ray_at
  ray_byte r j h l =
      ap (λ (k : ℕ). get_or (field 1 (header_bytes s.header) ++ rays_bytes s.vel s.mask R G) k 0) (there (length (field 1 (header_bytes s.header))) (r * (3 + 5 * G)) begins)
      ∙ get_or-append-add (field 1 (header_bytes s.header)) (rays_bytes s.vel s.mask R G) (r * (3 + 5 * G) + j) 0
      ∙ each_at (λ r. field 2 (ray_bytes s.vel s.mask G (r * G))) (3 + 5 * G) (λ i. field_length 2 (ray_bytes s.vel s.mask G (i * G)) ∙ ap (λ (k : ℕ). 3 + k) (ray_length s.vel s.mask G (i * G))) R 0 r j h l
      ∙ ap (λ (k : ℕ). get_or (field 2 (ray_bytes s.vel s.mask G (k * G))) j 0) (zero-add r)
    where
      there : (x y : ℕ) → x ≡ 18 → 18 + y + j ≡ x + (y + j)
      there x y e = omega arith

  -- the first three bytes of ray r
  ray_start : (r : ℕ) → r < R → (get_or file (ray_at G r + 0) 0 ≡ 2) × (get_or file (ray_at G r + 1) 0 ≡ 5 * G / 256) × (get_or file (ray_at G r + 2) 0 ≡ 5 * G % 256)
  unfolding field u16_bytes
  ray_start r h =
      let e = ray_length s.vel s.mask G (r * G) in
      (ray_byte r 0 h (omega arith), ray_byte r 1 h (omega arith) ∙ ap (λ (k : ℕ). k / 256) e, ray_byte r 2 h (omega arith) ∙ ap (λ (k : ℕ). k % 256) e)

  pub ray_back : (r : ℕ) → r < R → Field file (ray_at G r) 2 (5 * G)
  unfolding u16_at
  ray_back r h =
      let b = ray_start r h in
      record {
        tagged = ap (λ (k : ℕ). get_or file k 0) (omega arith) ∙ b.0;
        whole = ray_inside (length file) (ray_at G r) R G r (file_length_lem s) refl h;
        long = (λ i. b.1 i * 256 + (ap (λ (k : ℕ). get_or file k 0) (onward (ray_at G r)) ∙ b.2) i) ∙ whole_again (5 * G);
      }
    where
      onward : (p : ℕ) → p + 1 + 1 ≡ p + 2
      onward p = omega arith

      whole_again : (k : ℕ) → k / 256 * 256 + k % 256 ≡ k
      whole_again k = omega arith

  -- byte j of gate i
  gate_place : (i j : ℕ) → gate_at G i + j ≡ ray_at G (i / G) + (3 + (i % G * 5 + j))
  unfolding gate_at ray_at
  gate_place i j = go (i / G) (i % G) (i / G * G) (i / G * (3 + 5 * G)) (div-add-mod' i G) (rays_long (i / G) G)
    where
      go : (q g x y : ℕ) → x + g ≡ i → y ≡ 3 * q + 5 * x → 21 + 3 * q + 5 * i + j ≡ 18 + y + (3 + (g * 5 + j))
      go q g x y a b = omega arith

  contents_byte : (l : List ℕ) (k : ℕ) → get_or (field 2 l) (3 + k) 0 ≡ get_or l k 0
  unfolding field u16_bytes
  contents_byte l k = ap (λ (n : ℕ). get_or (2 ∷ [] ++ (length l / 256 ∷ length l % 256 ∷ []) ++ l) n 0) (three k)
    where
      three : (k : ℕ) → 3 + k ≡ suc (suc (suc k))
      three k = omega arith

  inner_byte : (q g j : ℕ) → g < G → j < 5 → get_or (ray_bytes s.vel s.mask G (q * G)) (g * 5 + j) 0 ≡ get_or (gate_bytes s.vel s.mask (q * G + g)) j 0
  unfolding ray_bytes
  inner_byte q g j v l = each_at (gate_bytes s.vel s.mask) 5 (gate_length s.vel s.mask) G (q * G) g j v l

  gate_byte : (i j : ℕ) → i < R * G → 0 < G → j < 5 → get_or file (gate_at G i + j) 0 ≡ get_or (gate_bytes s.vel s.mask i) j 0
  gate_byte i j h z l =
      let u : i / G < R = (div-lt_iff_lt-mul {k = G} {x = i} {y = R} z).1 h in
      let v : i % G < G = mod-lt i z in
      ap (λ (k : ℕ). get_or file k 0) (gate_place i j)
      ∙ ray_byte (i / G) (3 + (i % G * 5 + j)) u (omega arith)
      ∙ contents_byte (ray_bytes s.vel s.mask G (i / G * G)) (i % G * 5 + j)
      ∙ inner_byte (i / G) (i % G) j v l
      ∙ ap (λ (k : ℕ). get_or (gate_bytes s.vel s.mask k) j 0) (div-add-mod' i G)

  -- a sweep of gates has some in a ray
  some_gates : (i r g : ℕ) → i < r * g → 0 < g
  some_gates i r zero h = absurd (none_left (r * 0) (mul-zero r) h)
    where
      none_left : (z : ℕ) → z ≡ 0 → i < z → ⊥
      none_left z a b = omega arith
  some_gates i r (suc g) h = omega arith

  mask_back : length s.mask ≡ R * G → mask_in file R G ≡ s.mask
  unfolding mask_in gate_bytes mask_at
  mask_back l =
      tab_same (mask_at file G) (λ i. get_or s.mask i 0) (R * G) (λ i h. ap (λ (k : ℕ). get_or file k 0) (omega arith) ∙ gate_byte i 0 h (some_gates i R G h) (omega arith))
      ∙ sym (is_tab s.mask (λ i. get_or s.mask i 0) (R * G) l (λ i h. refl))

  bits_are : (i : ℕ) → i < R * G → bits_at file G i ≡ get_or s.vel i 0
  unfolding u32_at u16_at gate_bytes u32_bytes u16_bytes bits_at
  bits_are i h =
      let z = some_gates i R G h in
      let v = get_or s.vel i 0 in
      let p = gate_at G i in
      (λ k. (gate_byte i 1 h z (omega arith) k * 256 + (ap (λ (n : ℕ). get_or file n 0) (add_up p 1 1 2 refl) ∙ gate_byte i 2 h z (omega arith)) k) * 65536
      + ((ap (λ (n : ℕ). get_or file n 0) (add_up p 1 2 3 refl) ∙ gate_byte i 3 h z (omega arith)) k * 256
      + (ap (λ (n : ℕ). get_or file n 0) (add_three p) ∙ gate_byte i 4 h z (omega arith)) k))
      ∙ whole_again v
    where
      add_up : (p a b c : ℕ) → a + b ≡ c → p + a + b ≡ p + c
      add_up p a b c e = omega arith

      add_three : (p : ℕ) → p + 1 + 2 + 1 ≡ p + 4
      add_three p = omega arith

      whole_again : (v : ℕ) → (v / 65536 / 256 * 256 + v / 65536 % 256) * 65536 + (v % 65536 / 256 * 256 + v % 65536 % 256) ≡ v
      whole_again v = omega arith

  bits_back : length s.vel ≡ R * G → bits_in file R G ≡ s.vel
  unfolding bits_in bits_at
  bits_back l = tab_same (bits_at file G) (λ i. get_or s.vel i 0) (R * G) bits_are ∙ sym (is_tab s.vel (λ i. get_or s.vel i 0) (R * G) l (λ i h. refl))

  -- the whole
  pub sweep_back : s.header.centred ≤ 1 → s.header.wrap ≤ 1 → length s.vel ≡ R * G → length s.mask ≡ R * G → sweep_in file ≡ s
  unfolding sweep_in
  sweep_back a b v m i = record {
    header = header_back a b i;
    vel = ((λ j. bits_in file (back_rays j) (back_gates j)) ∙ bits_back v) i;
    mask = ((λ j. mask_in file (back_rays j) (back_gates j)) ∙ mask_back m) i;
  }

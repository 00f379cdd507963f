-- Lines that are appended to a text: the numbers of a line, and lines. Assumes nothing.
use Rattle.std.proofs.Common.{◌≡◌, ℕ, zero, suc, ◌+◌, ◌-◌, ◌*◌, ◌≤◌, ◌<◌, List, [], ◌∷◌, ◌++◌, map, length, get_or, take, drop, ℤ, refl, sym, ap, ◌∙◌, arith, add-one, append_assoc, append-nil, length-take}
use lib.ListN.{length-map}
use lib.Seq.{take-suc, take_all, length-take-le}
use Rattle.lists.specs.Seq.{upto, each}
use Rattle.lists.proofs.SeqLaws.{map_append, each_snoc}
use Rattle.printout.specs.Text.{count_text, parted, line, ray_lines}
use Rattle.printout.specs.Inside.Lines.{line_by}

-- ---- the numbers of a line

-- what stands before number i: nothing before the first, one space before any other
gap : ℕ → List ℕ
gap zero = []
gap (suc i) = 32 ∷ []

parted_snoc : (ts : List (List ℕ)) (t : List ℕ) → parted (ts ++ (t ∷ [])) ≡ parted ts ++ (gap (length ts) ++ t)
unfolding parted gap
parted_snoc [] t = refl
parted_snoc (u ∷ []) t = refl
parted_snoc (u ∷ v ∷ us) t =
    ap (λ (l : List ℕ). u ++ (32 ∷ l)) (parted_snoc (v ∷ us) t) ∙ sym (append_assoc u (32 ∷ parted (v ∷ us)) (gap (length (v ∷ us)) ++ t))

module _ {A : Type 0} (text : A → List ℕ) (xs : List A) where
  -- the first i numbers, with no newline
  abbrev pub front : ℕ → List ℕ
  front i = parted (map text (take i xs))

  pub no_numbers : (b : List ℕ) → b ≡ b ++ front 0
  unfolding parted
  no_numbers b = sym (append-nil b)

  module _ (b : List ℕ) (i : ℕ) (x : A) (h : i < length xs) (e : x ≡ get_or xs i x) where
    front_more : front (i + 1) ≡ front i ++ (gap i ++ text x)
    front_more =
        let l : length (map text (take i xs)) ≡ i = length-map (take i xs) text ∙ length-take-le i xs (omega arith) in
        ap (λ (k : ℕ). parted (map text (take k xs))) (add-one i)
        ∙ ap (λ (ys : List A). parted (map text ys)) (take-suc xs i x h)
        ∙ ap parted (map_append text (take i xs) (get_or xs i x ∷ []))
        ∙ parted_snoc (map text (take i xs)) (text (get_or xs i x))
        ∙ (λ j. front i ++ (gap (l j) ++ text (sym e j)))

    -- the first number after what stands before the line
    pub first_number : i ≡ 0 → (b ++ front i) ++ text x ≡ b ++ front (i + 1)
    unfolding gap
    first_number z = append_assoc b (front i) (text x) ∙ ap (λ (t : List ℕ). b ++ t) (sym (front_more ∙ ap (λ (k : ℕ). front i ++ (gap k ++ text x)) z))

    -- and any other, after a space
    pub next_number : (i ≡ 0 → ⊥) → ((b ++ front i) ++ (32 ∷ [])) ++ text x ≡ b ++ front (i + 1)
    unfolding gap
    next_number n =
        append_assoc (b ++ front i) (32 ∷ []) (text x)
        ∙ append_assoc b (front i) (32 ∷ text x)
        ∙ ap (λ (t : List ℕ). b ++ t) (sym (front_more ∙ ap (λ (t : List ℕ). front i ++ (t ++ text x)) (spaced i n)))
      where
        spaced : (k : ℕ) → (k ≡ 0 → ⊥) → gap k ≡ 32 ∷ []
        spaced zero n = absurd (n refl)
        spaced (suc k) n = refl

  -- all numbers, and the newline
  pub line_whole : (b : List ℕ) (i : ℕ) → length xs ≤ i → (b ++ front i) ++ (10 ∷ []) ≡ b ++ line_by text xs
  unfolding line_by
  line_whole b i h = append_assoc b (front i) (10 ∷ []) ∙ ap (λ (ys : List A). b ++ (parted (map text ys) ++ (10 ∷ []))) (take_all i xs h)

-- ---- lines of counts

pub no_lines : (b : List ℕ) (gates : ℕ) (cs : List ℤ) → b ≡ b ++ ray_lines 0 gates cs
unfolding ray_lines each upto
no_lines b gates cs = sym (append-nil b)

rays_more : (r gates : ℕ) (cs : List ℤ) → ray_lines (r + 1) gates cs ≡ ray_lines r gates cs ++ line (take gates (drop (r * gates) cs))
unfolding ray_lines
rays_more r gates cs =
    ap (λ (k : ℕ). each (λ r. line (take gates (drop (r * gates) cs))) (upto k 0)) (add-one r) ∙ each_snoc (λ r. line (take gates (drop (r * gates) cs))) r

-- the counts of ray r, as they are lent: as many as a ray has gates
pub record Ray (gates r : ℕ) (cs : List ℤ) : Type 0 where
  pub same : take (r * gates + gates - r * gates) (drop (r * gates) cs) ≡ take gates (drop (r * gates) cs)
  pub many : length (take (r * gates + gates - r * gates) (drop (r * gates) cs)) ≤ gates
  pub next : (r + 1) * gates ≡ r * gates + gates

pub ray_part : (gates r : ℕ) (cs : List ℤ) → Ray gates r cs
ray_part gates r cs =
    let k : r * gates + gates - r * gates ≡ gates = omega arith in
    let e = ap (λ (m : ℕ). take m (drop (r * gates) cs)) k in
    record { same = e; many = omega (arith, ap length e, length-take gates (drop (r * gates) cs)); next = omega arith }

-- one line more
pub rays_turn : (w v x : List ℕ) (r gates : ℕ) (cs : List ℤ) → v ≡ w ++ ray_lines r gates cs → x ≡ v ++ line_by count_text (take (r * gates + gates - r * gates) (drop (r * gates) cs)) → x ≡ w ++ ray_lines (r + 1) gates cs
unfolding line_by line
rays_turn w v x r gates cs p q =
    q
    ∙ (λ i. p i ++ line_by count_text ((ray_part gates r cs).same i))
    ∙ append_assoc w (ray_lines r gates cs) _
    ∙ ap (λ (t : List ℕ). w ++ t) (sym (rays_more r gates cs))

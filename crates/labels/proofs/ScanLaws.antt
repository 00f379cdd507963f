-- The pass over the gates: what holds before gate g, and what its place makes of it. Assumes nothing.
use Rattle.std.proofs.Common.{◌≡◌, ℕ, zero, suc, ◌+◌, ◌-◌, ◌%◌, ◌<◌, ◌≤◌, Bool, true, false, cond, List, [], ◌∷◌, ◌++◌, length, get_or, drop, set, replicate, sym, refl, ap, ◌∙◌, subst, ⊎_elim, mod-lt, mod-eq_of_lt, add-one, arith, length-drop, length-set, drop-set-lt, eq-eqb, ne_eqb}
use native.Mathlib.Nat.{zero-mod, mod_self, suc-mod}
use lib.Ieee.{Float, nan}
use lib.ListN.{length-replicate, get_or-replicate, get_or-append}
use lib.Seq.{get_or_at}
use Rattle.lists.specs.Inside.Seg.{seg}
use Rattle.lists.specs.Seq.{upto, tabulate, keep, each}
use Rattle.lists.proofs.SegLaws.{length-seg, seg-set_out, seg-set_snoc, eq_or_ne}
use Rattle.labels.specs.Label.{own, firsts}
use Rattle.labels.specs.Inside.Bands.{Band, Bands, marks, joint, later_in, part, band_before}
use Rattle.labels.specs.Inside.Areas.{AreasOf, Next, Placed}
use Rattle.labels.specs.Inside.Sheet.{IsSound}

-- the gates before g are placed; `last` is a band found before, `before` and `word` are those of the gate before on the ray, and `along` gates of the ray are done
pub record Scan (gates : ℕ) (limits vel : List Float) (mask u : List ℕ) (n last before word along g : ℕ) : Type 0 where
  pub areas : AreasOf gates (seg u 0 g) (seg u n g) (drop (n + n) u)
  pub bands : (i : ℕ) → i < g → Band limits (get_or vel i nan) (get_or mask i 0) (get_or (seg u 0 g) i 0)
  pub last_small : 0 < last → last < length limits
  pub before_is : before ≡ band_before gates (seg u 0 g) g
  pub word_is : 0 < g → word ≡ get_or (seg u n g) (g - 1) 0
  pub along_is : along ≡ g % gates

-- ---- before the first gate
no_gates : (gates : ℕ) (c : List ℕ) (k : ℕ) → c ≡ replicate k 0 → AreasOf gates [] [] c
unfolding marks joint own later_in tabulate upto each firsts keep part
no_gates gates c k e =
    record {
      forest = record { long = refl; roots_long = refl; out = λ i o. refl; out_root = λ i o. refl; parent = λ i o. absurd (no o); first = λ i o. absurd (none i o); low = λ i. omega arith };
      counts = λ j h. ap (λ (l : List ℕ). get_or l j 0) e ∙ get_or-replicate k j 0 0 (omega (arith, ap length e, length-replicate {A = ℕ} k 0));
    }
  where
    no : ◌≡◌ {A = Bool} false true → ⊥
    no q = let z : ◌≡◌ {A = ℕ} 0 1 = cc in omega arith

    none : (i : ℕ) → 0 ≡ suc i → ⊥
    none i q = omega arith

module _ (gates : ℕ) (limits vel : List Float) (mask : List ℕ) (n : ℕ) where
  pub scan_begin : (u : List ℕ) (k : ℕ) → drop (n + n) u ≡ replicate k 0 → Scan gates limits vel mask u n 0 0 0 0 0
  unfolding seg band_before
  scan_begin u k e =
      record {
        areas = no_gates gates (drop (n + n) u) k e;
        bands = λ i h. absurd (none i h);
        last_small = λ h. absurd (none 0 h);
        before_is = sym (ap (λ (t : Bool). cond t 0 (get_or {A = ℕ} [] (0 - 1) 0)) (eq-eqb (0 % gates) 0 (zero-mod gates)));
        word_is = λ h. absurd (none 0 h);
        along_is = sym (zero-mod gates);
      }
    where
      none : (i : ℕ) → i < 0 → ⊥
      none i h = omega arith

  -- ---- one gate more
  module _ (u : List ℕ) (last before word along g : ℕ) (S : Scan gates limits vel mask u n last before word along g) (sound : IsSound n gates vel mask limits) (long : length u ≡ n + n + (length limits - 1)) (here : g < n) where
    rays : 0 < gates
    rays = sound.some_gates (omega arith)

    pub along_in : along < gates
    along_in = omega (arith, S.along_is, mod-lt g rays)

    module _ (b : ℕ) (B : Band limits (get_or vel g nan) (get_or mask g 0) b) where
      few : b ≤ length (drop (n + n) u)
      few = go b B.small refl
        where
          go : (k : ℕ) → (0 < k → k < length limits) → b ≡ k → k ≤ length (drop (n + n) u)
          go zero h e = omega arith
          go (suc k) h e = omega (arith, h (omega arith), length-drop (n + n) u, long)

      pub next : Next gates u n g b
      next = record { areas = S.areas; here = here; room = omega (arith, long); small = sound.small; some_gates = rays; band = few }

      module _ (v : List ℕ) (kept : length v ≡ length u) (x : ℕ) (P : Placed gates u v n g b x) where
        bands_are : seg (set (set v g b) (n + g) x) 0 (g + 1) ≡ seg u 0 g ++ b ∷ []
        bands_are =
            seg-set_out (set v g b) (n + g) x 0 (g + 1) (λ p q. omega arith)
            ∙ ap (λ (k : ℕ). seg (set v k b) 0 (g + 1)) (omega arith)
            ∙ seg-set_snoc v 0 g b (omega (arith, kept, long))
            ∙ ap (λ (l : List ℕ). l ++ b ∷ []) P.bands

        words_are : seg (set (set v g b) (n + g) x) n (g + 1) ≡ seg v n g ++ x ∷ []
        words_are =
            seg-set_snoc (set v g b) n g x (omega (arith, length-set v g b, kept, long))
            ∙ ap (λ (l : List ℕ). l ++ x ∷ []) (seg-set_out v g b n g (λ p q. omega arith))

        counts_are : drop (n + n) (set (set v g b) (n + g) x) ≡ drop (n + n) v
        counts_are = drop-set-lt (n + n) (set v g b) (n + g) x (omega arith) ∙ drop-set-lt (n + n) v g b (omega arith)

        iv_long : length (seg u 0 g) ≡ g
        iv_long = length-seg u 0 g (omega (arith, long))

        w_long : length (seg v n g) ≡ g
        w_long = length-seg v n g (omega (arith, kept, long))

        -- the last gate of g + 1
        end : g + 1 - 1 ≡ g
        end = omega arith

        module _ (last₂ along₂ before₂ : ℕ) (L : (b ≡ 0 → last₂ ≡ last) × ((b ≡ 0 → ⊥) → last₂ ≡ b)) (A : (along + 1 ≡ gates → along₂ ≡ 0) × ((along + 1 ≡ gates → ⊥) → along₂ ≡ along + 1))
            (R : (along₂ ≡ 0 → before₂ ≡ 0) × ((along₂ ≡ 0 → ⊥) → before₂ ≡ b)) where
          along_next : along₂ ≡ (g + 1) % gates
          along_next = ⊎_elim
              (λ e. A.0 e ∙ sym (step ∙ ap (λ (k : ℕ). k % gates) (sym (add-one along) ∙ e) ∙ mod_self gates))
              (λ m. A.1 m ∙ add-one along ∙ sym (step ∙ mod-eq_of_lt (less m)))
              (eq_or_ne (along + 1) gates)
            where
              step : (g + 1) % gates ≡ suc along % gates
              step = ap (λ (k : ℕ). k % gates) (add-one g) ∙ suc-mod g gates ∙ ap (λ (k : ℕ). suc k % gates) (sym S.along_is)

              less : (along + 1 ≡ gates → ⊥) → suc along < gates
              less m = omega (arith, along_in)

          before_next : before₂ ≡ band_before gates (seg u 0 g ++ b ∷ []) (g + 1)
          unfolding band_before
          before_next = ⊎_elim
              (λ z. R.0 z ∙ sym (ap (λ (t : Bool). cond t 0 (get_or (seg u 0 g ++ b ∷ []) (g + 1 - 1) 0)) (eq-eqb ((g + 1) % gates) 0 (sym along_next ∙ z))))
              (λ m. R.1 m ∙ sym (get_or_at (seg u 0 g) b [] 0 (g + 1 - 1) (iv_long ∙ sym end)) ∙ sym (ap (λ (t : Bool). cond t 0 (get_or (seg u 0 g ++ b ∷ []) (g + 1 - 1) 0)) (ne_eqb ((g + 1) % gates) 0 (λ e. m (along_next ∙ e)))))
              (eq_or_ne along₂ 0)

          band_next : (i : ℕ) → i < g + 1 → Band limits (get_or vel i nan) (get_or mask i 0) (get_or (seg u 0 g ++ b ∷ []) i 0)
          band_next i h = ⊎_elim
              (λ e. subst (λ (k : ℕ). Band limits (get_or vel k nan) (get_or mask k 0) (get_or (seg u 0 g ++ b ∷ []) k 0)) (sym e) (rw (get_or_at (seg u 0 g) b [] 0 g iv_long) B))
              (λ m. rw (get_or-append (seg u 0 g) (b ∷ []) 0 i (omega (arith, less i h m, iv_long))) (S.bands i (less i h m)))
              (eq_or_ne i g)
            where
              less : (i : ℕ) → i < g + 1 → (i ≡ g → ⊥) → i < g
              less i h m = omega arith

          last_next : 0 < last₂ → last₂ < length limits
          last_next h = ⊎_elim
              (λ z. omega (arith, L.0 z, S.last_small (omega (arith, L.0 z))))
              (λ m. omega (arith, L.1 m, B.small (omega (arith, L.1 m))))
              (eq_or_ne b 0)

          pub scan_next : Scan gates limits vel mask (set (set v g b) (n + g) x) n last₂ before₂ x along₂ (g + 1)
          scan_next =
              record {
                areas = rw (bands_are, words_are, counts_are) P.areas;
                bands = rw bands_are band_next;
                last_small = last_next;
                before_is = rw bands_are before_next;
                word_is = λ h. rw words_are (sym (get_or_at (seg v n g) x [] 0 (g + 1 - 1) (w_long ∙ sym end)));
                along_is = along_next;
              }

  -- ---- after the last
  pub scan_end : (u : List ℕ) (last before word along g : ℕ) → Scan gates limits vel mask u n last before word along g → g ≡ n → IsSound n gates vel mask limits → length u ≡ n + n + (length limits - 1)
      → Bands limits vel mask (seg u 0 n) × AreasOf gates (seg u 0 n) (seg u n n) (drop (n + n) u)
  scan_end u last before word along g S e sound long = (
    record { long = length-seg u 0 n (omega (arith, long)) ∙ sym sound.masks; at = λ i h. rw (← e) (S.bands i (omega (arith, sound.masks))) },
    subst (λ (k : ℕ). AreasOf gates (seg u 0 k) (seg u n k) (drop (n + n) u)) e S.areas,
  )

-- `absorb`, `join_edge`, `moved_edge` and `take_edge` over plain values. Assumes nothing.
use Rattle.std.proofs.Common.{◌≡◌, ℕ, ◌+◌, ◌*◌, ◌<◌, ◌≤◌, true, false, T, Some, None, eqb, List, get_or, set, sym, refl, ap, ◌∙◌, subst, le-ltb, lt-ltb, eq-eqb, ne_eqb}
use lib.Ieee.{nan, binary32, fits, Float, neg, add}
use Rattle.merge.specs.Inside.Tables.{Tables, view, HoldsTables, Sound}
use Rattle.merge.specs.Inside.Table.{weight, first, second, bridged}
use Rattle.merge.specs.Inside.Steps.{face_at, mate, hand_over, absorb_at, attach_at, join_edge, shift, moved_edge, take_edge}
use Rattle.merge.specs.Inside.Leaves.{LeavesTables, OtherEdge, Joins, Gains}
use Rattle.merge.proofs.View.{weight_at_lem, read, diff_put}
use Rattle.merge.proofs.SoundSet.{sound_diff}
use Rattle.merge.proofs.SoundSteps.{add_ok, sound_hand, sound_face, joins_first, joins_second}
use Rattle.merge.proofs.Mates.{mate_is}

-- the tables stay sound before the bridged pairs are handed over, and after it
pub ready_sound : (m n : ℕ) (w : List ℕ) (d : List Float) (q : ℕ) (x z : Float) → Sound m n (view m n w d) → z ≡ add binary32 (get_or d q nan) x → Sound m n (view m n w (set d q z))
ready_sound m n w d q x z h e = subst (Sound m n) (sym (diff_put m n w d q z)) (sound_diff m n (view m n w d) h q z (subst (λ (y : Float). T (fits binary32 y)) (sym e) (add_ok (get_or d q nan) x)))

pub handed_sound : (m n : ℕ) (w : List ℕ) (d : List Float) (q f : ℕ) (w₁ : List ℕ) (d₁ : List Float) → Sound m n (view m n w d) → OtherEdge m q f → LeavesTables m n w₁ d₁ (hand_over bridged (view m n w d) q f) → Sound m n (view m n w₁ d₁)
handed_sound m n w d q f w₁ d₁ h o D₁ = subst (Sound m n) (sym D₁.tables) (sound_hand bridged m n (view m n w d) q f h (λ x. tt) o.q_in o.f_in o.apart)

pub join_apart : (m n b : ℕ) (s : Tables) (f c q : ℕ) → Joins m n b s f c → mate m b s c ≡ Some q → OtherEdge m q f
join_apart m n b s f c q j e = record { q_in = (mate_is m b c s q e).q_in; f_in = j.f_in; apart = λ r. j.other (e ∙ ap Some r) }

pub join_attaches : (m n b : ℕ) (s : Tables) (f c : ℕ) (x : Float) (w : List ℕ) (d : List Float) → mate m b s c ≡ None → LeavesTables m n w d (attach_at b s f c x) → LeavesTables m n w d (join_edge m b s f c x)
unfolding join_edge
join_attaches m n b s f c x w d e h = rw (e, join_edge) h

-- the tables once edge f is faced
pub faced_sound : (m n : ℕ) (w : List ℕ) (d : List Float) (f : ℕ) (w₁ : List ℕ) (d₁ : List Float) → Sound m n (view m n w d) → f < m → LeavesTables m n w₁ d₁ (face_at (view m n w d) f) → Sound m n (view m n w₁ d₁)
faced_sound m n w d f w₁ d₁ h lt D₁ = subst (Sound m n) (sym D₁.tables) (sound_face m n (view m n w d) f h lt)

-- the mate is faced before it takes up edge f
pub join_faced : (m n b : ℕ) (w : List ℕ) (d : List Float) (f c q : ℕ) (x : Float) (w₁ : List ℕ) (d₁ : List Float) (w₂ : List ℕ) (d₂ : List Float) → mate m b (view m n w d) c ≡ Some q
    → LeavesTables m n w₁ d₁ (face_at (view m n w d) q) → LeavesTables m n w₂ d₂ (absorb_at (view m n w₁ d₁) q f x) → LeavesTables m n w₂ d₂ (join_edge m b (view m n w d) f c x)
unfolding join_edge
join_faced m n b w d f c q x w₁ d₁ w₂ d₂ e D₁ D₂ = rw (e, join_edge) (record { tables = D₂.tables ∙ ap (λ (u : Tables). absorb_at u q f x) D₁.tables; tree = D₂.tree })

module _ (m n : ℕ) (w : List ℕ) (d : List Float) (r : HoldsTables m n w d) (b v g f : ℕ) where
  pub take_out : m ≤ f → LeavesTables m n w d (take_edge m b v g (view m n w d) f)
  unfolding take_edge
  take_out h = record { tables = rw (le-ltb f m h) refl; tree = r.tree }

  pub take_does : f < m → (w₁ : List ℕ) (d₁ : List Float) → LeavesTables m n w₁ d₁ (face_at (view m n w d) f) → (w₂ : List ℕ) (d₂ : List Float) → LeavesTables m n w₂ d₂ (moved_edge m b v g (view m n w₁ d₁) f) → LeavesTables m n w₂ d₂ (take_edge m b v g (view m n w d) f)
  unfolding take_edge
  take_does lt w₁ d₁ D₁ w₂ d₂ D₂ = rw (lt-ltb f m lt) (record { tables = D₂.tables ∙ ap (λ (u : Tables). moved_edge m b v g u f) D₁.tables; tree = D₂.tree })

  module _ (lt : f < m) where
    pub moved_dead : get_or w f 0 ≡ 0 → LeavesTables m n w d (moved_edge m b v g (view m n w d) f)
    unfolding moved_edge
    moved_dead e = record { tables = rw (eq-eqb (get_or ((view m n w d).at weight) f 0) 0 (weight_at_lem m n w d f lt ∙ e)) refl; tree = r.tree }

    module _ (live : get_or w f 0 ≡ 0 → ⊥) where
      alive : eqb (get_or ((view m n w d).at weight) f 0) 0 ≡ false
      alive = ne_eqb (get_or ((view m n w d).at weight) f 0) 0 (λ e. live (sym (weight_at_lem m n w d f lt) ∙ e))

      module _ (w' : List ℕ) (d' : List Float) (x : Float) where
        diff_is : get_or (view m n w d).diff f nan ≡ get_or d f nan
        diff_is = unfold view in refl

        pub moved_first : get_or w (3 * m + f) 0 ≡ v → x ≡ shift false g (get_or w f 0) (get_or d f nan)
            → LeavesTables m n w' d' (join_edge m b (view m n w d) f (get_or w (4 * m + f) 0) x) → LeavesTables m n w' d' (moved_edge m b v g (view m n w d) f)
        unfolding moved_edge
        moved_first e u h = rw (alive, eq-eqb (get_or ((view m n w d).at first) f 0) v (read first m n w d f lt ∙ e), read second m n w d f lt, weight_at_lem m n w d f lt, diff_is, ← u) h

        pub moved_second : (get_or w (3 * m + f) 0 ≡ v → ⊥) → get_or w (4 * m + f) 0 ≡ v → x ≡ neg (shift true g (get_or w f 0) (get_or d f nan))
            → LeavesTables m n w' d' (join_edge m b (view m n w d) f (get_or w (3 * m + f) 0) x) → LeavesTables m n w' d' (moved_edge m b v g (view m n w d) f)
        unfolding moved_edge
        moved_second ne e u h =
            let far : eqb (get_or ((view m n w d).at first) f 0) v ≡ false = ne_eqb (get_or ((view m n w d).at first) f 0) v (λ q. ne (sym (read first m n w d f lt) ∙ q)) in
            rw (alive, far, eq-eqb (get_or ((view m n w d).at second) f 0) v (read second m n w d f lt ∙ e), read first m n w d f lt, weight_at_lem m n w d f lt, diff_is, ← u) h

      pub moved_far : (get_or w (3 * m + f) 0 ≡ v → ⊥) → (get_or w (4 * m + f) 0 ≡ v → ⊥) → LeavesTables m n w d (moved_edge m b v g (view m n w d) f)
      unfolding moved_edge
      moved_far ne ne' =
          let far : eqb (get_or ((view m n w d).at first) f 0) v ≡ false = ne_eqb (get_or ((view m n w d).at first) f 0) v (λ q. ne (sym (read first m n w d f lt) ∙ q)) in
          let far' : eqb (get_or ((view m n w d).at second) f 0) v ≡ false = ne_eqb (get_or ((view m n w d).at second) f 0) v (λ q. ne' (sym (read second m n w d f lt) ∙ q)) in
          record { tables = rw (alive, far, far') refl; tree = r.tree }

    -- what `join_edge` asks
    pub moved_joins : Sound m n (view m n w d) → Gains n b v g → get_or w (3 * m + f) 0 ≡ v → Joins m n b (view m n w d) f (get_or w (4 * m + f) 0)
    moved_joins h k e = rw (read second m n w d f lt) at (joins_first m n b v g (view m n w d) f h k lt (read first m n w d f lt ∙ e))

    pub moved_joins_second : Sound m n (view m n w d) → Gains n b v g → (get_or w (3 * m + f) 0 ≡ v → ⊥) → get_or w (4 * m + f) 0 ≡ v → Joins m n b (view m n w d) f (get_or w (3 * m + f) 0)
    moved_joins_second h k ne e = rw (read first m n w d f lt) at (joins_second m n b v g (view m n w d) f h k lt (λ q. ne (sym (read first m n w d f lt) ∙ q)) (read second m n w d f lt ∙ e))

    pub moved_single : Sound m n (view m n w d) → T (fits binary32 (get_or d f nan))
    unfolding view
    moved_single h = h.single f lt

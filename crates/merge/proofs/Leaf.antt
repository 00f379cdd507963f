-- The functions without loops, over plain values: the words they leave hold the tables that Steps.antt says. Assumes nothing.
use Rattle.std.proofs.Common.{◌≡◌, ℕ, ◌+◌, ◌*◌, ◌<◌, ◌≤◌, false, eqb, ltb, List, length, get_or, set, sym, refl, ap, ◌∙◌, subst, arith, length-set, get_or-set_other, le-ltb, lt-ltb, eq-eqb, ne_eqb}
use lib.Seq.{set-get_or}
use lib.Ieee.{nan, Float, neg, binary32, add}
use Rattle.memory.specs.Inside.Tree.{Tree, Weighed}
use Rattle.memory.specs.Inside.Layout.{table_words}
use Rattle.lists.specs.Seq.{sum}
use Rattle.lists.proofs.SeqLaws.{sum_set, sum_one}
use Rattle.merge.specs.Inside.Tables.{Tables, view, HoldsTables, Sound, store, diff_set}
use Rattle.merge.specs.Inside.Table.{weight, first, second, bridged, stamp}
use Rattle.merge.specs.Inside.Steps.{turn_at, turned, face_at, joins_at, hand_over, absorb_at}
use Rattle.merge.specs.Inside.Leaves.{LeavesTables}
use Rattle.merge.proofs.View.{weight_at_lem, read, weight_put, diff_put, view_weighed}
use Rattle.merge.proofs.Stores.{holding, leaves, stored, stored_diff, added}

module _ (m n : ℕ) (w : List ℕ) (d : List Float) (r : HoldsTables m n w d) where
  -- face
  module _ (f : ℕ) (lt : f < m) (h : Sound m n (view m n w d)) where
    abbrev x : ℕ
    x = get_or w (3 * m + f) 0

    abbrev y : ℕ
    y = get_or w (4 * m + f) 0

    pub turned_words : turned (view m n w d) f ≡ ltb (get_or w (8 * m + 2 * n + x) 0) (get_or w (8 * m + 2 * n + y) 0)
    unfolding turned
    turned_words =
        let p : get_or ((view m n w d).at first) f 0 ≡ x = read first m n w d f lt in
        let q : get_or ((view m n w d).at second) f 0 ≡ y = read second m n w d f lt in
        rw (p, q, read stamp m n w d x (omega (arith, h.within first f lt)), read stamp m n w d y (omega (arith, h.within second f lt))) refl

    pub face_stays : get_or w (8 * m + 2 * n + y) 0 ≤ get_or w (8 * m + 2 * n + x) 0 → LeavesTables m n w d (face_at (view m n w d) f)
    unfolding face_at
    face_stays e = rw (turned_words, le-ltb (get_or w (8 * m + 2 * n + x) 0) (get_or w (8 * m + 2 * n + y) 0) e) (record { tables = refl; tree = r.tree })

    pub face_turns : get_or w (8 * m + 2 * n + x) 0 < get_or w (8 * m + 2 * n + y) 0 → LeavesTables m n (set (set w (3 * m + f) y) (4 * m + f) x) (set d f (neg (get_or d f nan))) (face_at (view m n w d) f)
    unfolding face_at turn_at
    face_turns e =
        let p : get_or ((view m n w d).at first) f 0 ≡ x = read first m n w d f lt in
        let q : get_or ((view m n w d).at second) f 0 ≡ y = read second m n w d f lt in
        let u : get_or (view m n w d).diff f nan ≡ get_or d f nan = unfold view in refl in
        rw (turned_words, lt-ltb (get_or w (8 * m + 2 * n + x) 0) (get_or w (8 * m + 2 * n + y) 0) e, p, q, u)
        (leaves (stored_diff (stored (stored (holding r) first refl f y y lt refl) second refl f x x lt refl) f (neg (get_or d f nan))))

  -- joins
  module _ (b c f : ℕ) where
    pub joins_out : m ≤ f → false ≡ joins_at m b c (view m n w d) f
    unfolding joins_at
    joins_out h = rw (le-ltb f m h) refl

    module _ (lt : f < m) where
      pub joins_dead : get_or w f 0 ≡ 0 → false ≡ joins_at m b c (view m n w d) f
      unfolding joins_at
      joins_dead e = rw (lt-ltb f m lt, eq-eqb (get_or ((view m n w d).at weight) f 0) 0 (weight_at_lem m n w d f lt ∙ e)) refl

      module _ (live : get_or w f 0 ≡ 0 → ⊥) where
        alive : eqb (get_or ((view m n w d).at weight) f 0) 0 ≡ false
        alive = ne_eqb (get_or ((view m n w d).at weight) f 0) 0 (λ e. live (sym (weight_at_lem m n w d f lt) ∙ e))

        pub joins_first : get_or w (3 * m + f) 0 ≡ b → eqb (get_or w (4 * m + f) 0) c ≡ joins_at m b c (view m n w d) f
        unfolding joins_at
        joins_first e = rw (lt-ltb f m lt, alive, eq-eqb (get_or ((view m n w d).at first) f 0) b (read first m n w d f lt ∙ e), read second m n w d f lt) refl

        module _ (far : get_or w (3 * m + f) 0 ≡ b → ⊥) where
          unlike : eqb (get_or ((view m n w d).at first) f 0) b ≡ false
          unlike = ne_eqb (get_or ((view m n w d).at first) f 0) b (λ e. far (sym (read first m n w d f lt) ∙ e))

          pub joins_second : get_or w (3 * m + f) 0 ≡ c → eqb (get_or w (4 * m + f) 0) b ≡ joins_at m b c (view m n w d) f
          unfolding joins_at
          joins_second e = rw (lt-ltb f m lt, alive, unlike, eq-eqb (get_or ((view m n w d).at first) f 0) c (read first m n w d f lt ∙ e), read second m n w d f lt) refl

          pub joins_none : (get_or w (3 * m + f) 0 ≡ c → ⊥) → false ≡ joins_at m b c (view m n w d) f
          unfolding joins_at
          joins_none u = rw (lt-ltb f m lt, alive, unlike, ne_eqb (get_or ((view m n w d).at first) f 0) c (λ e. u (sym (read first m n w d f lt) ∙ e))) refl

-- absorb
pub room_of : (m n : ℕ) (w u : List ℕ) (d e : List Float) → HoldsTables m n w d → length u ≡ length w → length e ≡ length d → Tree m u → HoldsTables m n u e
room_of m n w u d e r a b t = record { words = omega (arith, r.words); diffs = omega (arith, r.diffs); small = r.small; tree = t }

pub hand_does : (m n : ℕ) (w : List ℕ) (d : List Float) (q f : ℕ) → HoldsTables m n w d → q < m → f < m
    → LeavesTables m n (set (set w (5 * m + q) (get_or w (5 * m + q) 0 + get_or w (5 * m + f) 0)) (5 * m + f) 0) d (hand_over bridged (view m n w d) q f)
unfolding hand_over
hand_does m n w d q f r hq hf = leaves (stored (added (holding r) bridged refl q f hq hf) bridged refl f 0 0 hf refl)

-- an edge without bridged pairs hands nothing over
unmoved : (l : List ℕ) (i j : ℕ) → get_or l j 0 ≡ 0 → set (set l i (get_or l i 0 + get_or l j 0)) j 0 ≡ l
unmoved l i j e =
    let k : get_or l i 0 + get_or l j 0 ≡ get_or l i 0 = omega arith in
    ap (λ (x : ℕ). set (set l i x) j 0) k ∙ ap (λ (v : List ℕ). set v j 0) (set-get_or l i 0) ∙ ap (set l j) (sym e) ∙ set-get_or l j 0

pub hand_none : (m n : ℕ) (w : List ℕ) (d : List Float) (q f : ℕ) → HoldsTables m n w d → q < m → f < m → get_or w (5 * m + f) 0 ≡ 0
    → LeavesTables m n w d (hand_over bridged (view m n w d) q f)
hand_none m n w d q f r hq hf e =
    subst (λ (v : List ℕ). LeavesTables m n v d (hand_over bridged (view m n w d) q f)) (unmoved w (5 * m + q) (5 * m + f) e) (hand_does m n w d q f r hq hf)

weigh_does : (m n : ℕ) (w w₁ w₂ : List ℕ) (d : List Float) (q f : ℕ) → table_words m n ≤ length w → q < m → f < m
    → Weighed m (set w q (get_or w q 0 + get_or w f 0)) w₁ → Weighed m (set w₁ f 0) w₂ → view m n w₂ d ≡ hand_over weight (view m n w d) q f
unfolding hand_over
weigh_does m n w w₁ w₂ d q f r hq hf a b =
    let l : length w₁ ≡ length w = a.long ∙ length-set w q (get_or w q 0 + get_or w f 0) in
    rw (weight_at_lem m n w d q hq, weight_at_lem m n w d f hf)
    (view_weighed m n (set w₁ f 0) w₂ d b
    ∙ weight_put m n w₁ d f 0 hf (omega (arith, r))
    ∙ ap (λ (s : Tables). store weight s f 0) (view_weighed m n (set w q (get_or w q 0 + get_or w f 0)) w₁ d a
    ∙ weight_put m n w d q (get_or w q 0 + get_or w f 0) hq r))

-- the bridged pairs were handed over, which gave w₁ and d₁
pub absorb_does : (m n : ℕ) (w w₁ w₂ w₃ : List ℕ) (d d₁ : List Float) (q f : ℕ) (x z : Float) → table_words m n ≤ length w₁ → q < m → f < m
    → z ≡ add binary32 (get_or d q nan) x → LeavesTables m n w₁ d₁ (hand_over bridged (view m n w (set d q z)) q f)
    → Weighed m (set w₁ q (get_or w₁ q 0 + get_or w₁ f 0)) w₂ → Weighed m (set w₂ f 0) w₃
    → LeavesTables m n w₃ d₁ (absorb_at (view m n w d) q f x)
unfolding absorb_at
absorb_does m n w w₁ w₂ w₃ d d₁ q f x z r hq hf e h a b =
    let u : get_or (view m n w d).diff q nan ≡ get_or d q nan = unfold view in refl in
    record {
      tables = rw u
          (weigh_does m n w₁ w₂ w₃ d₁ q f r hq hf a b
          ∙ ap (λ (s : Tables). hand_over weight s q f) (h.tables
          ∙ ap (λ (s : Tables). hand_over bridged s q f) (diff_put m n w d q z ∙ ap (diff_set (view m n w d) q) e)));
      tree = b.tree;
    }

-- ---- sums
pub sum_two : (l : List ℕ) (i j : ℕ) → i < length l → j < length l → (i ≡ j → ⊥) → get_or l i 0 + get_or l j 0 ≤ sum l
sum_two l i j hi hj n = omega (arith, sum_set l i 0 hi, sum_one (set l i 0) j, get_or-set_other l i j 0 0 (λ e. n (sym e)))

-- moving a weight keeps the sum
pub sum_move : (l : List ℕ) (i j : ℕ) → i < length l → j < length l → (i ≡ j → ⊥) → sum (set (set l i (get_or l i 0 + get_or l j 0)) j 0) ≡ sum l
sum_move l i j hi hj n =
    let l' : List ℕ = set l i (get_or l i 0 + get_or l j 0) in
    omega (arith, sum_set l i (get_or l i 0 + get_or l j 0) hi, sum_set l' j 0 (omega (arith, length-set l i (get_or l i 0 + get_or l j 0))), get_or-set_other l i j (get_or l i 0 + get_or l j 0) 0 (λ e. n (sym e)))

pub sum_less : (l : List ℕ) (i : ℕ) → i < length l → sum (set l i 0) ≤ sum l
sum_less l i h = omega (arith, sum_set l i 0 h)

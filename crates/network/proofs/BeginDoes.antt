-- The functions that set the tables up, over plain values. Assumes nothing.
use mathlib.Core.Path.{◌≡◌, refl, sym, ap, ◌∙◌, subst}
use mathlib.Core.Logic.{⊎_elim}
use mathlib.Core.Bool.{Bool, true, false, cond}
use mathlib.Core.List.{List}
use Prim.Native.Nat.{ℕ, suc, ◌+◌, ◌*◌, ◌-◌, ◌≤◌, ◌<◌, ◌^◌}
use native.Mathlib.Omega.{arith}
use lib.ListN.{length, get_or, set}
use lib.Seq.{get_or-set_same, get_or-set_other}
use Rattle.lists.specs.Seq.{upto}
use Rattle.lists.specs.Inside.Seg.{seg, put}
use Rattle.lists.proofs.SeqLaws.{upto-length}
use Rattle.lists.proofs.SegLaws.{length-put, get_or-put_below, seg-put_same, seg-put_out}
use Rattle.memory.proofs.TreeLaws.{played_like}
use Rattle.merge.specs.Inside.Tables.{Tables, view, HoldsTables, store}
use Rattle.merge.specs.Inside.Table.{Table, from, long, is, first, second, enext, rnext, stamp, elen, rlen, count, mark}
use Rattle.merge.specs.Inside.Leaves.{LeavesTables}
use Rattle.network.specs.Inside.Begin.{slots, regions_from, link_at, link_edge, link_from, Linkable}
use Rattle.merge.proofs.TableLaws.{same_table, apart}
use Rattle.merge.proofs.View.{read}
use Rattle.merge.proofs.Stores.{holding, stored}
use Rattle.merge.proofs.Leaf.{room_of}
use Rattle.merge.proofs.SoundSet.{eq_or_ne}
use lib.Ieee.{Float}

-- ---- loops that go on with a table function
pub record Going (m n : ℕ) (rest : ℕ → Tables → ℕ → Tables) (w : List ℕ) (d : List Float) (l i : ℕ) (goal : Tables) : Type 0 where
  pub room : HoldsTables m n w d
  pub most : i ≤ l
  pub left : rest (l - i) (view m n w d) i ≡ goal

pub going_start : (m n : ℕ) (rest : ℕ → Tables → ℕ → Tables) (w : List ℕ) (d : List Float) (l : ℕ) → HoldsTables m n w d → Going m n rest w d l 0 (rest l (view m n w d) 0)
going_start m n rest w d l r = let z : l - 0 ≡ l = omega arith in record { room = r; most = omega arith; left = ap (λ (x : ℕ). rest x (view m n w d) 0) z }

-- the slots numbered
pub slots_does : (m n : ℕ) (w v : List ℕ) (d : List Float) → HoldsTables m n w d → v ≡ put w (6 * m) (upto (2 * m + n) 0) → LeavesTables m n v d (slots m n (view m n w d))
unfolding view slots
slots_does m n w v d r e =
    let l : length (upto (2 * m + n) 0) ≡ 2 * m + n = upto-length (2 * m + n) 0 in
    rw e (record {
      tables = λ i. record { at = λ u. go u (is enext u) refl l i; diff = d };
      tree = played_like m (put w (6 * m) (upto (2 * m + n) 0)) w 1 0 (length-put w (6 * m) (upto (2 * m + n) 0)) (λ i h. get_or-put_below w (6 * m) (upto (2 * m + n) 0) i 0 (omega arith)) r.tree;
    })
  where
    go : (u : Table) (b : Bool) → is enext u ≡ b → length (upto (2 * m + n) 0) ≡ 2 * m + n
        → seg (put w (6 * m) (upto (2 * m + n) 0)) (from u m n) (long u m n) ≡ cond b (upto (2 * m + n) 0) (seg w (from u m n) (long u m n))
    go u true q l =
        ap (λ (t : Table). seg (put w (6 * m) (upto (2 * m + n) 0)) (from t m n) (long t m n)) (sym (same_table enext u q))
        ∙ ap (seg (put w (6 * m) (upto (2 * m + n) 0)) (6 * m)) (sym l) ∙ seg-put_same w (6 * m) (upto (2 * m + n) 0) (omega (arith, r.words))
    go u false q l = seg-put_out w (6 * m) (upto (2 * m + n) 0) (from u m n) (long u m n) (λ j a b c f. apart m n enext u q j c (omega arith) a b)

pub regions_turn : (m n : ℕ) (w : List ℕ) (d : List Float) (x : ℕ) (goal : Tables) → Going m n regions_from w d n x goal → x < n
    → Going m n regions_from (set (set (set (set (set (set w (8 * m + n + x) x) (8 * m + 5 * n + x) 1) (8 * m + 4 * n + x) 1) (8 * m + 6 * n + x) 1000) (8 * m + 2 * n + x) 0) (8 * m + 7 * n + x) 0) d n (x + 1) goal
unfolding regions_from
regions_turn m n w d x goal k lt =
    let z : n - x ≡ suc (n - (x + 1)) = omega arith in
    let h₃ = stored (stored (stored (holding k.room) rnext refl x x x lt refl) rlen refl x 1 1 lt refl) elen refl x 1 1 lt refl in
    let h₆ = stored (stored (stored h₃ count refl x 1000 1000 lt refl) stamp refl x 0 0 lt refl) mark refl x 0 0 lt refl in
    record {
      room = h₆.room;
      most = omega arith;
      left = ap (λ (s : Tables). regions_from (n - (x + 1)) s (x + 1)) h₆.tables ∙ ap (λ (y : ℕ). regions_from y (view m n w d) x) (sym z) ∙ k.left;
    }

pub regions_end : (m n : ℕ) (w : List ℕ) (d : List Float) (x : ℕ) (goal : Tables) → Going m n regions_from w d n x goal → n ≤ x → LeavesTables m n w d goal
unfolding regions_from
regions_end m n w d x goal k h = let z : n - x ≡ 0 = omega arith in record { tables = ap (λ (y : ℕ). regions_from y (view m n w d) x) (sym z) ∙ k.left; tree = k.room.tree }

-- ---- link
link_len : (m a i : ℕ) (s : Tables) (x : ℕ) → get_or ((link_at m a i s).at elen) x 0 ≤ get_or (s.at elen) x 0 + 1
unfolding link_at store
link_len m a i s x = ⊎_elim
    (λ e. ⊎_elim
    (λ p. let q : get_or (set (s.at elen) a (get_or (s.at elen) a 0 + 1)) x 0 ≡ get_or (s.at elen) a 0 + 1 = ap (λ (y : ℕ). get_or (set (s.at elen) a (get_or (s.at elen) a 0 + 1)) y 0) e ∙ get_or-set_same (s.at elen) a (get_or (s.at elen) a 0 + 1) 0 p in
    let z : get_or (s.at elen) x 0 ≡ get_or (s.at elen) a 0 = ap (λ (y : ℕ). get_or (s.at elen) y 0) e in omega arith)
    (λ p. let q : get_or (set (s.at elen) a (get_or (s.at elen) a 0 + 1)) x 0 ≡ get_or (s.at elen) x 0 = ap (λ (y : List ℕ). get_or y x 0) (lib.Seq.set_out (s.at elen) a (get_or (s.at elen) a 0 + 1) p) in omega arith)
    (Rattle.merge.proofs.Bias.lt_or_le a (length (s.at elen))))
    (λ e. let q : get_or (set (s.at elen) a (get_or (s.at elen) a 0 + 1)) x 0 ≡ get_or (s.at elen) x 0 = get_or-set_other (s.at elen) a x (get_or (s.at elen) a 0 + 1) 0 e in omega arith)
    (eq_or_ne x a)

link_ends : (m a i : ℕ) (s : Tables) → ((link_at m a i s).at first ≡ s.at first) × ((link_at m a i s).at second ≡ s.at second)
unfolding link_at store
link_ends m a i s = (refl, refl)

-- ---- link_all
pub record Linking (m n : ℕ) (w : List ℕ) (d : List Float) (j : ℕ) (goal : Tables) : Type 0 where
  pub room : HoldsTables m n w d
  pub able : Linkable m n j (view m n w d)
  pub most : j ≤ m
  pub left : link_from (m - j) m (view m n w d) j ≡ goal

pub linking_start : (m n : ℕ) (w : List ℕ) (d : List Float) → HoldsTables m n w d → Linkable m n 0 (view m n w d) → Linking m n w d 0 (link_from m m (view m n w d) 0)
linking_start m n w d r a = let z : m - 0 ≡ m = omega arith in record { room = r; able = a; most = omega arith; left = ap (λ (x : ℕ). link_from x m (view m n w d) 0) z }

module _ (m n : ℕ) (w : List ℕ) (d : List Float) (j : ℕ) (goal : Tables) (k : Linking m n w d j goal) (lt : j < m) where
  abbrev s : Tables
  s = view m n w d

  abbrev a : ℕ
  a = get_or w (3 * m + j) 0

  abbrev b : ℕ
  b = get_or w (4 * m + j) 0

  first_is_lem : get_or (s.at first) j 0 ≡ a
  first_is_lem = read first m n w d j lt

  second_is_lem : get_or (s.at second) j 0 ≡ b
  second_is_lem = read second m n w d j lt

  pub link_one : HoldsTables m n w d × (((a < n) × (2 * j < 2 * m)) × (get_or (s.at elen) a 0 + 1 < 2 ^ 32))
  link_one =
      let ha : a < n = omega (arith, first_is_lem, k.able.first_in j lt) in
      (k.room, ((ha, omega arith), omega (arith, k.able.lengths a ha, k.room.small)))

  module _ (w₁ : List ℕ) (d₁ : List Float) (lw₁ : length w₁ ≡ length w) (ld₁ : length d₁ ≡ length d) (D₁ : LeavesTables m n w₁ d₁ (link_at m a (2 * j) s)) where
    pub link_two : HoldsTables m n w₁ d₁ × (((b < n) × (2 * j + 1 < 2 * m)) × (get_or ((view m n w₁ d₁).at elen) b 0 + 1 < 2 ^ 32))
    link_two =
        let hb : b < n = omega (arith, second_is_lem, k.able.second_in j lt) in
        let e : get_or ((view m n w₁ d₁).at elen) b 0 ≡ get_or ((link_at m a (2 * j) s).at elen) b 0 = ap (λ (u : Tables). get_or (u.at elen) b 0) D₁.tables in
        (room_of m n w w₁ d d₁ k.room lw₁ ld₁ D₁.tree, ((hb, omega arith), omega (arith, link_len m a (2 * j) s b, k.able.lengths b hb, k.room.small)))

    pub link_turn : (w₂ : List ℕ) (d₂ : List Float) → length w₂ ≡ length w₁ → length d₂ ≡ length d₁ → LeavesTables m n w₂ d₂ (link_at m b (2 * j + 1) (view m n w₁ d₁)) → Linking m n w₂ d₂ (j + 1) goal
    unfolding link_from link_edge
    link_turn w₂ d₂ lw₂ ld₂ D₂ =
        let s₁ : Tables = link_at m a (2 * j) s in
        let s₂ : Tables = link_at m b (2 * j + 1) s₁ in
        let e : view m n w₂ d₂ ≡ s₂ = D₂.tables ∙ ap (link_at m b (2 * j + 1)) D₁.tables in
        let z : m - j ≡ suc (m - (j + 1)) = omega arith in
        record {
          room = room_of m n w w₂ d d₂ k.room (lw₂ ∙ lw₁) (ld₂ ∙ ld₁) D₂.tree;
          able = subst (Linkable m n (j + 1)) (sym e) (record {
            first_in = subst (λ (l : List ℕ). (i : ℕ) → i < m → get_or l i 0 < n) (sym ((link_ends m b (2 * j + 1) s₁).0 ∙ (link_ends m a (2 * j) s).0)) k.able.first_in;
            second_in = subst (λ (l : List ℕ). (i : ℕ) → i < m → get_or l i 0 < n) (sym ((link_ends m b (2 * j + 1) s₁).1 ∙ (link_ends m a (2 * j) s).1)) k.able.second_in;
            lengths = λ x h. omega (arith, link_len m b (2 * j + 1) s₁ x, link_len m a (2 * j) s x, k.able.lengths x h);
          });
          most = omega arith;
          left = ap (λ (u : Tables). link_from (m - (j + 1)) m u (j + 1)) (e ∙ ap (λ (y : ℕ). link_at m y (2 * j + 1) s₁) (sym second_is_lem) ∙ ap (λ (y : ℕ). link_at m (get_or (s.at second) j 0) (2 * j + 1) (link_at m y (2 * j) s)) (sym first_is_lem))
              ∙ ap (λ (y : ℕ). link_from y m s j) (sym z) ∙ k.left;
        }

pub linking_end : (m n : ℕ) (w : List ℕ) (d : List Float) (j : ℕ) (goal : Tables) → Linking m n w d j goal → m ≤ j → LeavesTables m n w d goal
unfolding link_from
linking_end m n w d j goal k h = let z : m - j ≡ 0 = omega arith in record { tables = ap (λ (y : ℕ). link_from y m (view m n w d) j) (sym z) ∙ k.left; tree = k.room.tree }

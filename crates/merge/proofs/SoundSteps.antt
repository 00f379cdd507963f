-- Each step keeps the tables sound. Assumes nothing.
use Rattle.std.proofs.Common.{◌≡◌, ℕ, ◌+◌, ◌<◌, Bool, true, false, cond, T, Option, Some, None, eqb, ltb, length, get_or, set, sym, refl, ap, ◌∙◌, ⊎_elim, arith, ltb-true, eqb-true}
use lib.Ieee.{nan, binary32, fits, Float, neg, add}
use lib.Ieee.Fits as Fits
use borrow.Author.Tests.{eqb-false}
use Rattle.lists.specs.Seq.{sum}
use Rattle.merge.specs.Inside.Tables.{Tables, Sound, limit, Below, store, diff_set}
use Rattle.merge.specs.Inside.Table.{Table, weight, first, second, bridged, is}
use Rattle.merge.specs.Inside.Steps.{unbias, turn_at, turned, face_at, mate, hand_over, absorb_at, attach_at, join_edge, shift, moved_edge, take_edge}
use Rattle.merge.specs.Inside.Leaves.{Joins, Gains}
use Rattle.merge.proofs.SoundSet.{Ranges, ranges_of, ranges_store, sound_store, sound_diff}
use Rattle.merge.proofs.TableLaws.{same_table}
use Rattle.merge.proofs.Mates.{Mate, mate_is}
use Rattle.merge.proofs.Leaf.{sum_move}
use Rattle.arithmetic.specs.Rounding.{scale}

-- what the sums and negations give fits an f32
pub add_ok : (x y : Float) → T (fits binary32 (add binary32 x y))
unfolding add
add_ok x y = Fits.add-fits binary32 x y

pub neg_ok : (x : Float) → T (fits binary32 x) → T (fits binary32 (neg x))
unfolding neg
neg_ok x h = Fits.neg-fits binary32 x h

pub shift_ok : (b : Bool) (g w : ℕ) (x : Float) → T (fits binary32 x) → T (fits binary32 (shift b g w x))
unfolding shift
shift_ok b g w x h = go (eqb g 1000)
  where
    go : (t : Bool) → T (fits binary32 (cond t x (add binary32 x (cond b (neg (scale w (unbias g))) (scale w (unbias g))))))
    go true = h
    go false = add_ok x (cond b (neg (scale w (unbias g))) (scale w (unbias g)))

sound_turn : (m n : ℕ) (s : Tables) (f : ℕ) → Sound m n s → f < m → Sound m n (turn_at s f)
unfolding turn_at store
sound_turn m n s f h lt =
    let h₁ : Sound m n (store first s f (get_or (s.at second) f 0)) = sound_store first m n s h f (get_or (s.at second) f 0) refl refl (h.within second f lt) in
    let h₂ : Sound m n (store second (store first s f (get_or (s.at second) f 0)) f (get_or (s.at first) f 0)) = sound_store second m n _ h₁ f (get_or (s.at first) f 0) refl refl (h.within first f lt) in
    sound_diff m n _ h₂ f (neg (get_or s.diff f nan)) (neg_ok _ (h.single f lt))

pub sound_face : (m n : ℕ) (s : Tables) (f : ℕ) → Sound m n s → f < m → Sound m n (face_at s f)
unfolding face_at
sound_face m n s f h lt = go (turned s f)
  where
    go : (t : Bool) → Sound m n (cond t (turn_at s f) s)
    go true = sound_turn m n s f h lt
    go false = h

-- what an edge hands over stays in the sum
sum_hand : (t u : Table) (s : Tables) (q f : ℕ) → q < length (s.at u) → f < length (s.at u) → (q ≡ f → ⊥) → sum ((hand_over t s q f).at u) ≡ sum (s.at u)
unfolding hand_over store
sum_hand t u s q f hq hf ne = go (is t u) refl
  where
    both : Table → ℕ
    both y = get_or (s.at y) q 0 + get_or (s.at y) f 0

    go : (b : Bool) → is t u ≡ b → sum (cond b (set (cond b (set (s.at u) q (both t)) (s.at u)) f 0) (cond b (set (s.at u) q (both t)) (s.at u))) ≡ sum (s.at u)
    go true e = ap (λ (y : Table). sum (set (set (s.at u) q (both y)) f 0)) (same_table t u e) ∙ sum_move (s.at u) q f hq hf ne
    go false e = refl

pub sound_hand : (t : Table) (m n : ℕ) (s : Tables) (q f : ℕ) → Sound m n s → ((x : ℕ) → Below (limit t m n) x) → q < m → f < m → (q ≡ f → ⊥) → Sound m n (hand_over t s q f)
unfolding hand_over store
sound_hand t m n s q f h free hq hf ne =
    let v : ℕ = get_or (s.at t) q 0 + get_or (s.at t) f 0 in
    let r : Ranges m n (hand_over t s q f) = ranges_store t m n (store t s q v) (ranges_store t m n s (ranges_of m n s h) q v (free v)) f 0 (free 0) in
    record {
      lengths = r.lengths;
      l_diff = h.l_diff;
      within = r.within;
      single = h.single;
      light = omega (arith, sum_hand t weight s q f (omega (arith, h.lengths weight)) (omega (arith, h.lengths weight)) ne, h.light);
      spanned = omega (arith, sum_hand t bridged s q f (omega (arith, h.lengths bridged)) (omega (arith, h.lengths bridged)) ne, h.spanned);
    }

sound_absorb : (m n : ℕ) (s : Tables) (q f : ℕ) (x : Float) → Sound m n s → q < m → f < m → (q ≡ f → ⊥) → Sound m n (absorb_at s q f x)
unfolding absorb_at
sound_absorb m n s q f x h hq hf ne =
    let h₁ : Sound m n (diff_set s q (add binary32 (get_or s.diff q nan) x)) = sound_diff m n s h q (add binary32 (get_or s.diff q nan) x) (add_ok _ x) in
    sound_hand weight m n _ q f (sound_hand bridged m n _ q f h₁ (λ v. tt) hq hf ne) (λ v. tt) hq hf ne

sound_attach : (m n b : ℕ) (s : Tables) (f c : ℕ) (x : Float) → Sound m n s → f < m → b < n → c < n → T (fits binary32 x) → Sound m n (attach_at b s f c x)
unfolding attach_at
sound_attach m n b s f c x h lt hb hc fx =
    sound_diff m n _ (sound_store second m n _ (sound_store first m n s h f b refl refl hb) f c refl refl hc) f x fx

sound_join : (m n b : ℕ) (s : Tables) (f c : ℕ) (x : Float) → Sound m n s → Joins m n b s f c → T (fits binary32 x) → Sound m n (join_edge m b s f c x)
unfolding join_edge
sound_join m n b s f c x h j fx = go (mate m b s c) refl
  where
    go : (o : Option ℕ) → mate m b s c ≡ o → Sound m n (elim o [ Some q ↦ absorb_at (face_at s q) q f x | None ↦ attach_at b s f c x ])
    go (Some q) e = let q_in : q < m = (mate_is m b c s q e).q_in in sound_absorb m n (face_at s q) q f x (sound_face m n s q h q_in) q_in j.f_in (λ r. j.other (e ∙ ap Some r))
    go None e = sound_attach m n b s f c x h j.f_in j.b_in j.c_in fx

-- the moved node's edge is no mate
pub joins_first : (m n b v g : ℕ) (s : Tables) (f : ℕ) → Sound m n s → Gains n b v g → f < m → get_or (s.at first) f 0 ≡ v → Joins m n b s f (get_or (s.at second) f 0)
joins_first m n b v g s f h k lt e = record {
  f_in = lt;
  b_in = k.b_in;
  c_in = h.within second f lt;
  other = λ q. let t : Mate m b s (get_or (s.at second) f 0) f = mate_is m b (get_or (s.at second) f 0) s f q in
      k.apart (⊎_elim (λ w. sym w.0 ∙ e) (λ w. sym w.1 ∙ sym w.0 ∙ e) t.ends);
}

pub joins_second : (m n b v g : ℕ) (s : Tables) (f : ℕ) → Sound m n s → Gains n b v g → f < m → (get_or (s.at first) f 0 ≡ v → ⊥) → get_or (s.at second) f 0 ≡ v → Joins m n b s f (get_or (s.at first) f 0)
joins_second m n b v g s f h k lt ne e = record {
  f_in = lt;
  b_in = k.b_in;
  c_in = h.within first f lt;
  other = λ q. let t : Mate m b s (get_or (s.at first) f 0) f = mate_is m b (get_or (s.at first) f 0) s f q in
      ⊎_elim (λ w. ne (sym w.1 ∙ e)) (λ w. k.apart (sym w.1 ∙ e)) t.ends;
}

sound_moved : (m n b v g : ℕ) (s : Tables) (f : ℕ) → Sound m n s → Gains n b v g → f < m → Sound m n (moved_edge m b v g s f)
unfolding moved_edge
sound_moved m n b v g s f h k lt = go (eqb (get_or (s.at weight) f 0) 0) (eqb (get_or (s.at first) f 0) v) refl (eqb (get_or (s.at second) f 0) v) refl
  where
    go : (y : Bool) → (z : Bool) → eqb (get_or (s.at first) f 0) v ≡ z → (t : Bool) → eqb (get_or (s.at second) f 0) v ≡ t
        → Sound m n (cond y s (cond z (join_edge m b s f (get_or (s.at second) f 0) (shift false g (get_or (s.at weight) f 0) (get_or s.diff f nan))) (cond t (join_edge m b s f (get_or (s.at first) f 0) (neg (shift true g (get_or (s.at weight) f 0) (get_or s.diff f nan)))) s)))
    go true z ze t te = h
    go false true ze t te = sound_join m n b s f _ _ h (joins_first m n b v g s f h k lt (eqb-true (get_or (s.at first) f 0) v ze)) (shift_ok false g _ _ (h.single f lt))
    go false false ze true te = sound_join m n b s f _ _ h (joins_second m n b v g s f h k lt (eqb-false (get_or (s.at first) f 0) v ze) (eqb-true (get_or (s.at second) f 0) v te)) (neg_ok _ (shift_ok true g _ _ (h.single f lt)))
    go false false ze false te = h

pub sound_take : (m n b v g : ℕ) (s : Tables) (f : ℕ) → Sound m n s → Gains n b v g → Sound m n (take_edge m b v g s f)
unfolding take_edge
sound_take m n b v g s f h k = go (ltb f m) refl
  where
    go : (t : Bool) → ltb f m ≡ t → Sound m n (cond t (moved_edge m b v g (face_at s f) f) s)
    go true e = sound_moved m n b v g (face_at s f) f (sound_face m n s f h (ltb-true f m e)) k (ltb-true f m e)
    go false e = h

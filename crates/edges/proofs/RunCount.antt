-- How many runs there are, counted pair by pair. Assumes nothing.
use Rattle.std.proofs.Common.{◌≡◌, ℕ, suc, ◌+◌, ◌<◌, ◌≤◌, Bool, true, false, cond, ◌&&◌, eqb, List, [], ◌∷◌, length, sym, refl, ap, ◌∙◌, arith, eqb-true}
use lib.Ieee.{Float, nan}
use Rattle.lists.proofs.AllLaws.{and_left, and_right}
use Rattle.edges.specs.Edges.{Pair, begun, plus}
use Rattle.edges.specs.Inside.Order.{alike, runs_from, runs}
use Rattle.edges.specs.declared.edges.EdgeRecord.{EdgeRecord}
use Rattle.edges.specs.Inside.Gather.{pair_at, later, LabelsAt}
use Rattle.edges.proofs.GatherLaws.{later_cons, later_end}

-- records of the same labels begin equally many runs
runs_labels : (r s : EdgeRecord) (l : List Pair) → r.one ≡ s.one → r.two ≡ s.two → length (runs_from r l) ≡ length (runs_from s l)
unfolding runs_from
runs_labels r s [] a b = refl
runs_labels r s (p ∷ ps) a b = rw same (go (alike s p) (runs_labels (plus r p) (plus s p) ps (unfold plus in a) (unfold plus in b)))
  where
    same : alike r p ≡ alike s p
    same = unfold alike in ap (λ (x : ℕ). eqb x p.one && eqb r.two p.two) a ∙ ap (λ (x : ℕ). eqb s.one p.one && eqb x p.two) b

    go : (t : Bool) → length (runs_from (plus r p) ps) ≡ length (runs_from (plus s p) ps)
        → length (cond t (runs_from (plus r p) ps) (r ∷ runs_from (begun p) ps)) ≡ length (cond t (runs_from (plus s p) ps) (s ∷ runs_from (begun p) ps))
    go true h = h
    go false h = refl

both_eq : (a b c d : ℕ) → (eqb a b && eqb c d) ≡ true → (a ≡ b) × (c ≡ d)
both_eq a b c d h = (eqb-true a b (and_left (eqb a b) (eqb c d) h), eqb-true c d (and_right (eqb a b) (eqb c d) h))

-- one pair more
run_more : (p q : Pair) (l : List Pair) (e : ℕ) → cond (alike (begun p) q) e (e + 1) + length (runs_from (begun q) l) ≡ e + length (runs_from (begun p) (q ∷ l))
unfolding runs_from
run_more p q l e = go (alike (begun p) q) refl
  where
    same : alike (begun p) q ≡ true → length (runs_from (begun q) l) ≡ length (runs_from (plus (begun p) q) l)
    same h = unfold alike begun plus in let w : (p.one ≡ q.one) × (p.two ≡ q.two) = both_eq p.one q.one p.two q.two h in runs_labels (begun q) (plus (begun p) q) l (sym w.0) (sym w.1)

    go : (b : Bool) → alike (begun p) q ≡ b → cond b e (e + 1) + length (runs_from (begun q) l) ≡ e + length (cond b (runs_from (plus (begun p) q) l) (begun p ∷ runs_from (begun q) l))
    go true h = omega (arith, same h)
    go false h = omega arith

-- pairs of the same labels go on with equally many runs
head_labels : (r : EdgeRecord) (p q : Pair) (l : List Pair) → p.one ≡ q.one → p.two ≡ q.two → length (runs_from r (p ∷ l)) ≡ length (runs_from r (q ∷ l))
unfolding runs_from
head_labels r p q l a b = rw same (go (alike r q) (runs_labels (plus r p) (plus r q) l (unfold plus in refl) (unfold plus in refl)) (runs_labels (begun p) (begun q) l (unfold begun in a) (unfold begun in b)))
  where
    same : alike r p ≡ alike r q
    same = unfold alike in ap (λ (x : ℕ). eqb r.one x && eqb r.two p.two) a ∙ ap (λ (x : ℕ). eqb r.one q.one && eqb r.two x) b

    go : (t : Bool) → length (runs_from (plus r p) l) ≡ length (runs_from (plus r q) l) → length (runs_from (begun p) l) ≡ length (runs_from (begun q) l)
        → length (cond t (runs_from (plus r p) l) (r ∷ runs_from (begun p) l)) ≡ length (cond t (runs_from (plus r q) l) (r ∷ runs_from (begun q) l))
    go true x y = x
    go false x y = ap suc y

-- there are no more runs than pairs
from_few : (r : EdgeRecord) (l : List Pair) → length (runs_from r l) ≤ suc (length l)
unfolding runs_from
from_few r [] = omega arith
from_few r (p ∷ ps) = go (alike r p) (from_few (plus r p) ps) (from_few (begun p) ps)
  where
    go : (b : Bool) → length (runs_from (plus r p) ps) ≤ suc (length ps) → length (runs_from (begun p) ps) ≤ suc (length ps) → length (cond b (runs_from (plus r p) ps) (r ∷ runs_from (begun p) ps)) ≤ suc (suc (length ps))
    go true x y = omega arith
    go false x y = omega arith

pub runs_few : (l : List Pair) → length (runs l) ≤ length l
unfolding runs
runs_few [] = omega arith
runs_few (p ∷ ps) = from_few (begun p) ps

-- ---- the count before pair i, a and b being the labels of the pair before it

-- a pair of these labels
abbrev pub labelled : ℕ → ℕ → Pair
labelled a b = record { one = a; two = b; vel1 = nan; vel2 = nan; bridged = false }

pub record Counting (w : List ℕ) (n m a b e i : ℕ) : Type 0 where
  pub left : (vel : List Float) → e + length (runs_from (begun (labelled a b)) (later w vel n m i)) ≡ length (runs (later w vel n m 0)) + 1
  pub few : e ≤ i
  pub most : i ≤ m

cond_few : (b : Bool) (e i : ℕ) → e ≤ i → cond b e (e + 1) ≤ i + 1
cond_few true e i h = omega arith
cond_few false e i h = omega arith

pub count_none : (w : List ℕ) (n m : ℕ) → m ≡ 0 → (vel : List Float) → 0 ≡ length (runs (later w vel n m 0))
unfolding runs
count_none w n m e vel = sym (ap (λ (l : List Pair). length (runs l)) (later_end w vel n m 0 (omega arith)))

module _ {w : List ℕ} {n m : ℕ} where
  pub count_begin : {r : ℕ × ℕ} → 0 < m → LabelsAt w n 0 r → Counting w n m r.0 r.1 1 1
  unfolding runs
  count_begin {r} h L = record {
    left = λ vel.
        ap (λ (x : ℕ). 1 + x) (runs_labels (begun (labelled r.0 r.1)) (begun (pair_at w vel n 0)) (later w vel n m 1) (unfold begun in (L vel).0) (unfold begun in (L vel).1))
        ∙ (let t : length (runs (later w vel n m 0)) ≡ length (runs_from (begun (pair_at w vel n 0)) (later w vel n m 1)) = ap (λ (l : List Pair). length (runs l)) (later_cons w vel n m 0 h) in omega (arith, t));
    few = omega arith;
    most = h;
  }

  pub count_on : {a b : ℕ} {s : ℕ × ℕ} {e r i : ℕ} → Counting w n m a b e i → i < m → LabelsAt w n i s → r ≡ cond (eqb a s.0 && eqb b s.1) e (e + 1) → Counting w n m s.0 s.1 r (i + 1)
  count_on {a} {b} {s} {e} {r} {i} k h L z =
      let q : Pair = labelled s.0 s.1 in
      let z' : r ≡ cond (alike (begun (labelled a b)) q) e (e + 1) = z ∙ (unfold alike begun in refl) in
      record {
        left = λ vel.
            ap (λ (x : ℕ). x + length (runs_from (begun q) (later w vel n m (i + 1)))) z'
            ∙ run_more (labelled a b) q (later w vel n m (i + 1)) e
            ∙ ap (λ (x : ℕ). e + x) (head_labels (begun (labelled a b)) q (pair_at w vel n i) (later w vel n m (i + 1)) (L vel).0 (L vel).1)
            ∙ ap (λ (l : List Pair). e + length (runs_from (begun (labelled a b)) l)) (sym (later_cons w vel n m i h))
            ∙ k.left vel;
        few = omega (arith, z, cond_few (eqb a s.0 && eqb b s.1) e i k.few);
        most = omega arith;
      }

  pub count_end : {a b e i : ℕ} → Counting w n m a b e i → m ≤ i → (vel : List Float) → e ≡ length (runs (later w vel n m 0))
  unfolding runs_from
  count_end {a} {b} {e} {i} c h vel =
      let t : length (runs_from (begun (labelled a b)) (later w vel n m i)) ≡ 1 = ap (λ (l : List Pair). length (runs_from (begun (labelled a b)) l)) (later_end w vel n m i h) in
      omega (arith, t, c.left vel)

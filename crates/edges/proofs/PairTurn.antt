-- One look's pair, and the four of a gate, over plain values. Assumes nothing.
use Rattle.std.proofs.Common.{◌≡◌, ℕ, zero, suc, ◌+◌, ◌-◌, ◌*◌, ◌%◌, ◌<◌, ◌≤◌, max, Bool, true, false, cond, eqb, ◌==◌, ◌⊎◌, List, [], ◌∷◌, ◌++◌, length, get_or, set, sym, refl, ap, ◌∙◌, subst, ⊎_elim, mul_comm, zero-mul, add-one, arith, length-append, le-ltb, lt-ltb, eq-eqb, ne_eqb, le-leb}
use mathlib.Core.Option.{Option, none, some}
use borrow.Author.Tests.{eqb-false}
use Rattle.std.proofs.lemmas.Bool.Decides.{nat_tests}
use Rattle.lists.specs.Inside.Seg.{seg}
use Rattle.lists.proofs.SegLaws.{get_or-seg, length-seg}
use Rattle.lists.specs.Seq.{upto, each}
use Rattle.edges.specs.Edges.{Shape, Direction, Left, Right, Top, Bottom, next, skip, sees, bridges}
use Rattle.edges.specs.declared.edges.Shape.{Shape}
use Rattle.edges.specs.Inside.GatePairs.{GatePair, coded, gate_pair_to, gate_pair_along, gate_pairs_of, gate_pairs_at, gate_pairs, AddsPairs, Puts, Place, Sheet, LabelledAmid}
use Rattle.edges.specs.Inside.Sees.{sighted}
use Rattle.edges.specs.declared.edges.Sight.{Sight}
use Rattle.std.specs.Prelude.{Some, None}
use Rattle.std.specs.Prelude as Std
use Rattle.edges.proofs.Stored.{adds_none, adds_one, adds_then, adds_labels, adds_length}
use Rattle.lists.proofs.SeqLaws.{each_snoc}
use Rattle.edges.proofs.GatePairLaws.{link_to_most, sees_in}
use Rattle.edges.proofs.Looking.{none_on, seen_on, begins, near_on}

pub label_at : (w : List ℕ) (n j : ℕ) → j < n → get_or (seg w 0 n) j 0 ≡ get_or w j 0
label_at w n j h = get_or-seg w 0 n j 0 h ∙ ap (λ (x : ℕ). get_or w x 0) (omega arith)

-- two gates, of which the first has the greater label or not
module _ (n : ℕ) (w : List ℕ) (g h c : ℕ) (b : Bool) (p : g < n) (q : h < n) where
  pub put_other : get_or w g 0 ≤ get_or w h 0 → AddsPairs n w w c c (gate_pair_to (seg w 0 n) g b (some h))
  unfolding gate_pair_to
  put_other l = rw (le-ltb (get_or (seg w 0 n) h 0) (get_or (seg w 0 n) g 0) (omega (arith, label_at w n g p, label_at w n h q))) (adds_none n w c)

  pub put_less : get_or w h 0 < get_or w g 0 → AddsPairs n w (set (set w (n + c) (coded b g)) (5 * n + c) (coded b h)) c (c + 1) (gate_pair_to (seg w 0 n) g b (some h))
  unfolding gate_pair_to
  put_less l = rw (lt-ltb (get_or (seg w 0 n) h 0) (get_or (seg w 0 n) g 0) (omega (arith, label_at w n g p, label_at w n h q))) (adds_one n w c g h b)

-- two gates beside each other in the words
module _ (n : ℕ) (w : List ℕ) (gates g h c : ℕ) (p : g < n) (q : h < n) where
  pub along_other : (get_or w g 0 ≤ get_or w h 0) ⊎ (max g h % gates ≡ 0) → AddsPairs n w w c c (gate_pair_along gates (seg w 0 n) g h)
  unfolding gate_pair_along
  along_other e = go (eqb (max g h % gates) 0) refl
    where
      go : (x : Bool) → eqb (max g h % gates) 0 ≡ x → AddsPairs n w w c c (cond x [] (gate_pair_to (seg w 0 n) g false (some h)))
      go true x = adds_none n w c
      go false x = ⊎_elim (put_other n w g h c false p q) (λ z. absurd (eqb-false (max g h % gates) 0 x z)) e

  pub along_less : (max g h % gates ≡ 0 → ⊥) → (v : List ℕ) (e : ℕ) → AddsPairs n w v c e (gate_pair_to (seg w 0 n) g false (some h)) → AddsPairs n w v c e (gate_pair_along gates (seg w 0 n) g h)
  unfolding gate_pair_along
  along_less r v e x = rw (ne_eqb (max g h % gates) 0 r) x

-- ---- by a look's answer

-- the gate seen, from what the frame says
seen_in : (f : Shape) (n : ℕ) (w : List ℕ) (d : Direction) (g c k h : ℕ) → Place f n w g c k → sees f (seg w 0 n) d g ≡ some h → h < n
seen_in f n w d g c k h p e = omega (arith, sees_in f d (seg w 0 n) g h (omega (arith, p.whole, p.inside)) e, p.whole)

-- what a look that saw something saw
sighted_some : (b : Bool) (o : Option ℕ) (s : Sight) → sighted b o ≡ Some s → (o ≡ some s.gate) × (b ≡ s.bridged)
sighted_some b none s e = absurd (cc)
sighted_some b (some h) s e = let q : ◌≡◌ {A = Sight} (record { gate = h; bridged = b }) s = cc in (ap (λ (x : Sight). some x.gate) q, ap (λ (x : Sight). x.bridged) q)

sighted_none : (b : Bool) (o : Option ℕ) → sighted b o ≡ None → o ≡ none
sighted_none b none e = refl
sighted_none b (some h) e = absurd (cc)

module _ (f : Shape) (n : ℕ) (w : List ℕ) (d : Direction) (g : ℕ) where
  -- a look's answer, by the labels at the front of the words
  abbrev pub looked : Std.Option Sight
  looked = sighted (bridges f (seg w 0 n) d g) (sees f (seg w 0 n) d g)

  pub saw_puts : (s : Sight) (c : ℕ) → Place f n w g c 1 → Some s ≡ looked → Puts n w g s.gate c
  saw_puts s c p e = record {
    room = p.room;
    small = p.small;
    inside = p.inside;
    far = seen_in f n w d g c 1 s.gate p (sighted_some (bridges f (seg w 0 n) d g) (sees f (seg w 0 n) d g) s (sym e)).0;
    place = p.place;
  }

  -- the pair put with the gate seen is that of the look
  pub saw_pair : (s : Sight) (v : List ℕ) (c k : ℕ) → Some s ≡ looked → AddsPairs n w v c k (gate_pair_to (seg w 0 n) g s.bridged (some s.gate)) → AddsPairs n w v c k (gate_pairs_of f (seg w 0 n) g d)
  saw_pair s v c k e = let q = sighted_some (bridges f (seg w 0 n) d g) (sees f (seg w 0 n) d g) s (sym e) in subst (AddsPairs n w v c k) (λ i. gate_pair_to (seg w 0 n) g (sym q.1 i) (sym q.0 i))

  pub saw_none : (c : ℕ) → None ≡ looked → AddsPairs n w w c c (gate_pairs_of f (seg w 0 n) g d)
  unfolding gate_pair_to
  saw_none c e = rw (sighted_none (bridges f (seg w 0 n) d g) (sees f (seg w 0 n) d g) (sym e)) (adds_none n w c)

-- ---- gates amid labelled ones

-- the pair of a step that leads to a labelled gate
near_one : (s : Shape) (L : List ℕ) (d : Direction) (g h : ℕ) → next s d g ≡ some h → (get_or L h 0 ≡ 0 → ⊥) → gate_pair_to L g false (some h) ≡ gate_pairs_of s L g d
near_one s L d g h e z = sym (λ i. gate_pair_to L g (near_on s d L g h e z i) (seen s L d g h e z i))
  where
    seen : (s : Shape) (L : List ℕ) (d : Direction) (g h : ℕ) → next s d g ≡ some h → (get_or L h 0 ≡ 0 → ⊥) → sees s L d g ≡ some h
    seen s L d g h e z = begins s d L (skip s d) g refl ∙ seen_on s d L (skip s d) g h e z

-- a step that leaves the sweep makes none
none_one : (s : Shape) (L : List ℕ) (d : Direction) (g : ℕ) → next s d g ≡ none → [] ≡ gate_pairs_of s L g d
unfolding gate_pair_to
none_one s L d g e = sym (ap (gate_pair_to L g (bridges s L d g)) (begins s d L (skip s d) g refl ∙ none_on s d L (skip s d) g e))

-- ---- one pair after another

-- the pairs that gate g gets in one direction
abbrev pub one : Shape → ℕ → List ℕ → ℕ → Direction → List GatePair
one f n w g d = gate_pairs_of f (seg w 0 n) g d

-- the next call's needs
pub place_on : (k : ℕ) (d : Direction) {f : Shape} {n : ℕ} {w v : List ℕ} {g c e : ℕ} → Place f n w g c (suc k) → AddsPairs n w v c e (one f n w g d) → Place f n v g e k
place_on k d {f} {n} {w} {v} {g} {c} {e} p q = record {
  whole = p.whole;
  room = omega (arith, p.room, adds_length n w v c e (one f n w g d) q);
  small = p.small;
  inside = p.inside;
  place = omega (arith, p.place, q.count, link_to_most (seg w 0 n) g (bridges f (seg w 0 n) d g) (sees f (seg w 0 n) d g));
}

pub place_one : {f : Shape} {n : ℕ} {w : List ℕ} {g c k : ℕ} → Place f n w g c k → 1 ≤ k → Place f n w g c 1
place_one p h = record { whole = p.whole; room = p.room; small = p.small; inside = p.inside; place = omega (arith, p.place) }

-- a labelled gate amid labelled ones, after a pair of its own
pub amid_on : (f : Shape) (n : ℕ) (w v : List ℕ) (g c e k : ℕ) (d : Direction) → LabelledAmid f n w g c (suc k) → AddsPairs n w v c e (one f n w g d) → LabelledAmid f n v g e k
amid_on f n w v g c e k d r x = let q = r.amid in record {
  gate = record {
    place = place_on k d r.gate.place x;
    label = λ z. r.gate.label (same g r.gate.place.inside ∙ z);
  };
  amid = record {
    some = q.some;
    below = q.below;
    above = q.above;
    left = λ z. q.left (same (g - f.gates) (omega (arith, q.above)) ∙ z);
    right = λ z. q.right (same (g + f.gates) q.above ∙ z);
    top = λ z. q.top (same (g - 1) (omega (arith, q.above)) ∙ z);
    bottom = λ z. q.bottom (same (g + 1) (omega (arith, q.above, q.some)) ∙ z);
  };
}
  where
    same : (j : ℕ) → j < n → get_or w j 0 ≡ get_or v j 0
    same j l = sym (label_at w n j l) ∙ sym (ap (λ (y : List ℕ). get_or y j 0) (adds_labels n w v c e (one f n w g d) x)) ∙ label_at v n j l

module _ (k : ℕ) {f : Shape} {n : ℕ} {w : List ℕ} {g c : ℕ} (r : LabelledAmid f n w g c (suc k)) where
  puts_at : (h : ℕ) → h < n → Puts n w g h c
  puts_at h l = let p = r.gate.place in record { room = p.room; small = p.small; inside = p.inside; far = l; place = omega (arith, p.place) }

  -- what a pair put with the gate that a step leads to comes to
  put_near : (d : Direction) (h : ℕ) → next f d g ≡ some h → h < n → (get_or w h 0 ≡ 0 → ⊥) → {v : List ℕ} {e : ℕ} → AddsPairs n w v c e (gate_pair_to (seg w 0 n) g false (some h)) → AddsPairs n w v c e (one f n w g d)
  put_near d h x l z {v} {e} = subst (AddsPairs n w v c e) (near_one f (seg w 0 n) d g h x (λ y. z (sym (label_at w n h l) ∙ y)))

  -- and with one beside it in the words, where the step along the ray leads to it or leaves the sweep
  along_near : (d : Direction) (h : ℕ) → h < n → (get_or w h 0 ≡ 0 → ⊥) → next f d g ≡ cond (max g h % f.gates == 0) none (some h) → {v : List ℕ} {e : ℕ}
      → AddsPairs n w v c e (gate_pair_along f.gates (seg w 0 n) g h) → AddsPairs n w v c e (one f n w g d)
  unfolding gate_pair_along
  along_near d h l z x {v} {e} = go (max g h % f.gates == 0) x
    where
      go : (b : Bool) → next f d g ≡ cond b none (some h) → AddsPairs n w v c e (cond b [] (gate_pair_to (seg w 0 n) g false (some h))) → AddsPairs n w v c e (one f n w g d)
      go true x = subst (AddsPairs n w v c e) (none_one f (seg w 0 n) d g x)
      go false x = put_near d h x l z

  pub left_near : {v : List ℕ} {e : ℕ} → AddsPairs n w v c e (gate_pair_to (seg w 0 n) g false (some (g - f.gates))) → AddsPairs n w v c e (one f n w g Left)
  left_near = put_near Left (g - f.gates) (unfold next in (rw (le-leb f.gates g r.amid.below) refl)) (omega (arith, r.gate.place.inside)) r.amid.left

  pub after_left : {v : List ℕ} {e : ℕ} → AddsPairs n w v c e (gate_pair_to (seg w 0 n) g false (some (g - f.gates))) → LabelledAmid f n v g e k
  after_left {v} {e} x = amid_on f n w v g c e k Left r (left_near x)

  pub right_puts : Puts n w g (g + f.gates) c
  right_puts = puts_at (g + f.gates) r.amid.above

  pub right_near : {v : List ℕ} {e : ℕ} → AddsPairs n w v c e (gate_pair_to (seg w 0 n) g false (some (g + f.gates))) → AddsPairs n w v c e (one f n w g Right)
  right_near = put_near Right (g + f.gates) (unfold next in (rw (lt-ltb (g + f.gates) (f.rays * f.gates) (omega (arith, r.amid.above, r.gate.place.whole))) refl)) r.amid.above r.amid.right

  pub after_right : {v : List ℕ} {e : ℕ} → AddsPairs n w v c e (gate_pair_to (seg w 0 n) g false (some (g + f.gates))) → LabelledAmid f n v g e k
  after_right {v} {e} x = amid_on f n w v g c e k Right r (right_near x)

  pub top_puts : Puts n w g (g - 1) c
  top_puts = puts_at (g - 1) (omega (arith, r.gate.place.inside))

  pub top_near : {v : List ℕ} {e : ℕ} → AddsPairs n w v c e (gate_pair_along f.gates (seg w 0 n) g (g - 1)) → AddsPairs n w v c e (one f n w g Top)
  top_near = along_near Top (g - 1) (omega (arith, r.gate.place.inside)) r.amid.top (unfold next in grind (arith, nat_tests))

  pub after_top : {v : List ℕ} {e : ℕ} → AddsPairs n w v c e (gate_pair_along f.gates (seg w 0 n) g (g - 1)) → LabelledAmid f n v g e k
  after_top {v} {e} x = amid_on f n w v g c e k Top r (top_near x)

  pub bottom_puts : Puts n w g (g + 1) c
  bottom_puts = puts_at (g + 1) (omega (arith, r.amid.above, r.amid.some))

  pub bottom_near : {v : List ℕ} {e : ℕ} → AddsPairs n w v c e (gate_pair_along f.gates (seg w 0 n) g (g + 1)) → AddsPairs n w v c e (one f n w g Bottom)
  bottom_near = along_near Bottom (g + 1) (omega (arith, r.amid.above, r.amid.some)) r.amid.bottom (unfold next in grind (arith, nat_tests))

pub some_gates : (f : Shape) (n : ℕ) (w : List ℕ) (g c k : ℕ) → Place f n w g c k → 0 < f.gates
some_gates f n w g c k p = go f.gates p.whole
  where
    go : (x : ℕ) → n ≡ f.rays * x → 0 < x
    go zero e = absurd (omega (arith, p.inside, e, mul_comm f.rays 0, zero-mul f.rays))
    go (suc x) e = omega arith

pub unlabelled : (f : Shape) (n : ℕ) (w : List ℕ) (g c : ℕ) → g < n → get_or w g 0 ≡ 0 → AddsPairs n w w c c (gate_pairs_at f (seg w 0 n) g)
unfolding gate_pairs_at
unlabelled f n w g c h z = rw (eq-eqb (get_or (seg w 0 n) g 0) 0 (label_at w n g h ∙ z)) (adds_none n w c)

pub four : {f : Shape} {n g : ℕ} {u v w x y : List ℕ} {a b c d e : ℕ} → Place f n u g a 4 → (get_or u g 0 ≡ 0 → ⊥)
    → AddsPairs n u v a b (one f n u g Left) → AddsPairs n v w b c (one f n v g Right) → AddsPairs n w x c d (one f n w g Top) → AddsPairs n x y d e (one f n x g Bottom)
    → AddsPairs n u y a e (gate_pairs_at f (seg u 0 n) g)
unfolding gate_pairs_at each
four {f} {n} {g} {u} {v} {w} {x} {y} {a} {b} {c} {d} {e} pl nz p q r t =
    let lv : seg v 0 n ≡ seg u 0 n = adds_labels n u v a b (one f n u g Left) p in
    let lw : seg w 0 n ≡ seg u 0 n = adds_labels n v w b c (one f n v g Right) q ∙ lv in
    let lx : seg x 0 n ≡ seg u 0 n = adds_labels n w x c d (one f n w g Top) r ∙ lw in
    let few : e ≤ 4 * n = omega (arith, (place_on 0 Bottom (place_on 1 Top (place_on 2 Right (place_on 3 Left pl p) q) r) t).place) in
    let bottom : AddsPairs n x y d e (one f n u g Bottom ++ []) = rw nil (rw lx at t) in
    let top : AddsPairs n w y c e (one f n u g Top ++ (one f n u g Bottom ++ [])) = adds_then n w x y c d e (one f n u g Top) (one f n u g Bottom ++ []) (rw lw at r) bottom few in
    let right : AddsPairs n v y b e (one f n u g Right ++ (one f n u g Top ++ (one f n u g Bottom ++ []))) = adds_then n v w y b c e (one f n u g Right) (one f n u g Top ++ (one f n u g Bottom ++ [])) (rw lv at q) top few in
    rw (ne_eqb (get_or (seg u 0 n) g 0) 0 (λ z. nz (sym (label_at u n g pl.inside) ∙ z)))
    (adds_then n u v y a b e (one f n u g Left) (one f n u g Right ++ (one f n u g Top ++ (one f n u g Bottom ++ []))) p right few)
  where
    nil : (l : List GatePair) → l ++ [] ≡ l
    nil [] = refl
    nil (z ∷ zs) = rw (nil zs) refl

-- ---- all gates

gate_most : (s : Shape) (L : List ℕ) (g : ℕ) → length (gate_pairs_at s L g) ≤ 4
unfolding gate_pairs_at each
gate_most s L g = go (eqb (get_or L g 0) 0)
  where
    to : Direction → List GatePair
    to d = gate_pairs_of s L g d

    most : (d : Direction) → length (to d) ≤ 1
    most d = link_to_most L g (bridges s L d g) (sees s L d g)

    go : (b : Bool) → length (cond b [] (to Left ++ (to Right ++ (to Top ++ (to Bottom ++ []))))) ≤ 4
    go true = omega arith
    go false = simp length-append (omega (arith, most Left, most Right, most Top, most Bottom))

-- the pairs of the gates before g
abbrev pub up_to : Shape → ℕ → List ℕ → ℕ → List GatePair
up_to f n u g = each (gate_pairs_at f (seg u 0 n)) (upto g 0)

module _ {f : Shape} {n : ℕ} {u : List ℕ} (lay : Sheet f n u) where
  pub scan_begin : AddsPairs n u u 0 0 (up_to f n u 0)
  unfolding each upto
  scan_begin = adds_none n u 0

  module _ {w : List ℕ} {g c : ℕ} (p : AddsPairs n u w 0 c (up_to f n u g)) where
    pub scan_place : c ≤ 4 * g → g < n → Place f n w g c 4
    scan_place m h = record {
      whole = lay.whole;
      room = omega (arith, lay.room, adds_length n u w 0 c (up_to f n u g) p);
      small = lay.small;
      inside = h;
      place = omega arith;
    }

    pub scan_on : {v : List ℕ} {e : ℕ} → c ≤ 4 * g → g < n → AddsPairs n w v c e (gate_pairs_at f (seg w 0 n) g) → (e ≤ 4 * (g + 1)) × AddsPairs n u v 0 e (up_to f n u (g + 1))
    scan_on {v} {e} m h q =
        let l : seg w 0 n ≡ seg u 0 n = adds_labels n u w 0 c (up_to f n u g) p in
        let q' : AddsPairs n w v c e (gate_pairs_at f (seg u 0 n) g) = rw l at q in
        let most : e ≤ 4 * (g + 1) = omega (arith, q'.count, gate_most f (seg u 0 n) g) in
        (most, rw (add-one g, each_snoc (gate_pairs_at f (seg u 0 n)) g) (adds_then n u w v 0 c e (up_to f n u g) (gate_pairs_at f (seg u 0 n) g) p q' (omega arith)))

    pub scan_end : g ≤ n → n ≤ g → AddsPairs n u w 0 c (gate_pairs f (seg u 0 n))
    unfolding gate_pairs
    scan_end a b =
        let e : g ≡ length (seg u 0 n) = omega (arith, length-seg u 0 n (omega (arith, lay.room))) in
        rw e at p

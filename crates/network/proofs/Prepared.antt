-- The edges of a simple network before and after the network prepares them for a merge: the setting of the walks. Assumes nothing.
use mathlib.Core.Path.{◌≡◌, refl, sym, ap, ◌∙◌, subst}
use mathlib.Core.Logic.{inl, ⊎_elim}
use mathlib.Core.Bool.{Bool, true, false, not, ◌&&◌, cond, true≢false}
use mathlib.Core.List.{List, map, map-map}
use mathlib.Core.Option.{Option, some}
use Prim.Native.Nat.{ℕ, zero, suc, ◌+◌, ◌≤◌, ◌<◌}
use native.Mathlib.Omega.{arith}
use lib.Dec.{ltb, eqb}
use lib.IntN.{ℤ}
use Rattle.lists.proofs.AllLaws.{mem_upto}
use Rattle.network.specs.Network.{Edge, Region, Plan, size_of, at, plan, plan_for, kill, adjust, shifted, is_zero, turn, turn_if, prepare}
use Rattle.network.proofs.Restrict.{prepare_num}
use Rattle.network.proofs.Ends.{prepare_live}
use Rattle.network.proofs.SimpleLaws.{prepared_simple, prepared_turned, ends_apart}
use Rattle.merge.specs.Inside.Steps.{unbias}
use Rattle.merge.proofs.SoundSet.{eq_or_ne}
use Rattle.network.proofs.Moved.{Setting, same_no, same_yes}
use lib.Ieee.{Float}
use borrow.Author.Tests.{eqb-true, eqb-false}
use Rattle.network.specs.Inside.Simple.{Simple}
use Rattle.lists.specs.Seq.{Member as Has, upto}

pub at_upto : (E : ℕ → Edge) → ((j : ℕ) → (E j).num ≡ j) → (k n i : ℕ) → k ≤ i → i < k + n → (E i).live ≡ true → at (map E (upto n k)) i ≡ some (E i)
unfolding at upto
at_upto E num k zero i p q l = absurd (omega arith)
at_upto E num k (suc n) i p q l = ⊎_elim
    (λ e. let z : eqb i (E k).num ≡ true = same_yes i (E k).num (e ∙ sym (num k)) in
    let lk : (E k).live ≡ true = ap (λ (y : ℕ). (E y).live) (sym e) ∙ l in
    pass (E k).live (eqb i (E k).num) (some (E k)) (at (map E (upto n (suc k))) i) lk z ∙ ap (λ (y : ℕ). some (E y)) (sym e))
    (λ e. let z : eqb i (E k).num ≡ false = ap (eqb i) (num k) ∙ same_no i k e in
    rw z (skip (E k).live (some (E k)) (at_upto E num (suc k) n i (omega arith) (omega arith) l)))
    (eq_or_ne i k)
  where
    pass : (b c : Bool) (x y : Option Edge) → b ≡ true → c ≡ true → cond (b && c) x y ≡ x
    pass b c x y p q = rw (p, q) refl

    skip : (b : Bool) (x : Option Edge) {y z : Option Edge} → y ≡ z → cond (b && false) x y ≡ z
    skip true x h = h
    skip false x h = h

-- an edge with one end b is not the moved node's
commute : (b v : ℕ) (k : ℤ) (e : Edge) → (b ≡ v → ⊥) → ((e.first ≡ v) × (e.second ≡ b) → ⊥) → turn b (adjust v k e) ≡ adjust v k (turn b e)
unfolding turn turn_if adjust shifted
commute b v k e n h = go (eqb b e.second) refl (eqb v e.first) refl (eqb v e.second) refl
  where
    fixed : (z : Bool) (w : ℕ) (d : Float) → shifted z false false k w d ≡ d
    fixed true w d = refl
    fixed false w d = refl

    go : (t : Bool) → eqb b e.second ≡ t → (x : Bool) → eqb v e.first ≡ x → (y : Bool) → eqb v e.second ≡ y
        → turn_if t (adjust v k e) ≡ adjust v k (turn_if t e)
    go false te x xe y ye = refl
    go true te true xe y ye = absurd (h (sym (eqb-true v e.first xe), sym (eqb-true b e.second te)))
    go true te false xe true ye = absurd (n (eqb-true b e.second te ∙ sym (eqb-true v e.second ye)))
    go true te false xe false ye =
        let d₁ : shifted (is_zero k) (eqb v e.first) (eqb v e.second) k e.link.weight e.link.diff ≡ e.link.diff = rw (xe, ye) (fixed (is_zero k) e.link.weight e.link.diff) in
        let d₂ : shifted (is_zero k) (eqb v e.second) (eqb v e.first) k e.link.weight (lib.Ieee.neg e.link.diff) ≡ lib.Ieee.neg e.link.diff = rw (xe, ye) (fixed (is_zero k) e.link.weight (lib.Ieee.neg e.link.diff)) in
        λ i. record { num = e.num; live = e.live; first = e.second; second = e.first; link = record { weight = e.link.weight; diff = (ap (λ (z : Float). lib.Ieee.neg z) d₁ ∙ sym d₂) i; bridged = e.link.bridged } }

module _ (m : ℕ) (E : ℕ → Edge) (num : (j : ℕ) → (E j).num ≡ j) (simple : Simple (map E (upto m 0))) (e : ℕ) (lt : e < m) (l : (E e).live ≡ true) (rs : List Region) where
  abbrev pl : Plan
  pl = plan rs (E e)

  found : at (map E (upto m 0)) e ≡ some (E e)
  found = at_upto E num 0 m e (omega arith) (omega arith) l

  has : (j : ℕ) → j < m → Has (E j) (map E (upto m 0))
  has j h = mem_upto E 0 m j (omega arith) (omega arith)

  abbrev killed : ℕ → Edge
  killed j = kill pl.edge (E j)

  abbrev pub ready : ℕ → Edge
  ready j = turn pl.base (killed j)

  abbrev pub prep : ℕ → Edge
  prep j = prepare pl (E j)

  killed_live : (j : ℕ) → (killed j).live ≡ true → ((E j).live ≡ true) × ((E e).num ≡ (E j).num → ⊥)
  unfolding kill plan plan_for
  killed_live j h = go (E j).live (eqb (E e).num (E j).num) refl h
    where
      go : (x y : Bool) → eqb (E e).num (E j).num ≡ y → (x && not y) ≡ true → (x ≡ true) × ((E e).num ≡ (E j).num → ⊥)
      go true true r t = absurd (true≢false (sym t))
      go true false r t = (refl, eqb-false (E e).num (E j).num r)
      go false y r t = absurd (true≢false (sym t))

  pub nodes_apart : pl.base ≡ pl.moved → ⊥
  unfolding plan plan_for
  nodes_apart = go (ltb (size_of rs (E e).second) (size_of rs (E e).first))
    where
      clash : (E e).first ≡ (E e).second → ⊥
      clash w = simple.proper (E e) (has e lt) l w

      go : (x : Bool) → cond x (E e).first (E e).second ≡ cond x (E e).second (E e).first → ⊥
      go true w = clash w
      go false w = clash (sym w)

  has_prep : (j : ℕ) → j < m → Has (prep j) (map (prepare pl) (map E (upto m 0)))
  has_prep j h = subst (Has (prep j)) (sym (map-map (prepare pl) E (upto m 0))) (mem_upto prep 0 m j (omega arith) (omega arith))

  prep_live : (j : ℕ) → (prep j).live ≡ (killed j).live
  unfolding kill
  prep_live j = prepare_live pl (E j)

  pub setting : (g : ℕ) → unbias g ≡ pl.gain → Setting m pl.base pl.moved g prep ready
  unfolding prepare
  setting g w = record {
    apart = nodes_apart;
    number = λ j. prepare_num pl (E j) ∙ num j;
    turned = λ j h k. prepared_turned (map E (upto m 0)) simple e (E e) found rs (prep j) (has_prep j h) k;
    single = λ i j hi hj ki kj a c. sym (prepare_num pl (E i) ∙ num i)
        ∙ (prepared_simple (map E (upto m 0)) simple e (E e) found rs).single (prep i) (prep j) (has_prep i hi) (has_prep j hj) ki kj (inl (a, c)) ∙ prepare_num pl (E j) ∙ num j;
    prepared = λ j h k.
        let kl : ((E j).live ≡ true) × ((E e).num ≡ (E j).num → ⊥) = killed_live j (sym (prep_live j) ∙ k) in
        ap (turn pl.moved) (commute pl.base pl.moved pl.gain (killed j) nodes_apart (λ t. clash j h kl t)) ∙ ap (λ (z : ℤ). turn pl.moved (adjust pl.moved z (ready j))) (sym w);
    alike = λ j. turn_live j ∙ sym (prep_live j);
  }
    where
      turn_live : (j : ℕ) → (ready j).live ≡ (killed j).live
      turn_live j = unfold turn turn_if in refl

      clash : (j : ℕ) → j < m → ((E j).live ≡ true) × ((E e).num ≡ (E j).num → ⊥) → ((killed j).first ≡ pl.moved) × ((killed j).second ≡ pl.base) → ⊥
      clash j h kl = unfold kill in λ t. (ends_apart (map E (upto m 0)) simple e (E e) found rs (E j) (has j h) kl.0 kl.1).1 t

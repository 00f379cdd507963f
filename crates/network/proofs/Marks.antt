-- The marks and the log in the tables: the invariant does not look at them, and a merge marks the regions of its moved node if it is doubtful.
-- Assumes nothing.
use mathlib.Core.Path.{◌≡◌, refl, sym, ap, ◌∙◌, subst}
use mathlib.Core.Logic.{⊎_elim}
use mathlib.Core.Bool.{Bool, true, false, ◌&&◌, cond}
use mathlib.Core.List.{List, ◌∷◌, map}
use Prim.Native.Nat.{ℕ, zero, suc, ◌+◌, ◌≤◌, ◌<◌}
use native.Mathlib.Omega.{arith}
use lib.Dec.{eqb}
use lib.ListN.{get_or}
use Rattle.lists.specs.Seq.{upto}
use Rattle.lists.proofs.SeqLaws.{eqb_refl}
use Rattle.merge.specs.Inside.Chain.{cur}
use Rattle.merge.specs.Inside.Table.{rnext, rlen, mark}
use Rattle.merge.specs.Inside.Tables.{Tables}
use Rattle.merge.specs.Inside.Steps.{turned, marked_all, mark_if, logged}
use Rattle.merge.proofs.Marks.{met, unmet, sound_mark_if}
use Rattle.merge.proofs.LogLaws.{sound_logged}
use Rattle.merge.proofs.SoundSet.{eq_or_ne}
use Rattle.network.specs.Network.{Region, State, turn_if, gather, members, has}
use Rattle.network.specs.Inside.Net.{edge_of, edge_now, region_of}
use Rattle.network.specs.Inside.Rep.{Rep}
use Rattle.network.proofs.Moved.{same_no, same_yes}

-- tables that differ in marks and log stand for the same network, with the same edges
pub record Remarked (m n : ℕ) (gates : ℕ → ℕ) (k : ℕ) (s u : Tables) (t : State) (R : Rep m n gates k s t) : Type 0 where
  pub rep : Rep m n gates k u t
  pub edge : (j : ℕ) → rep.E j ≡ R.E j

pub remarked : (m n : ℕ) (gates : ℕ → ℕ) (k : ℕ) (s : Tables) (t : State) (R : Rep m n gates k s t) (z : Bool) (e b v g : ℕ) → Remarked m n gates k s (mark_if z v (logged k e b v g s)) t R
unfolding mark_if logged region_of edge_now turned turn_if edge_of
remarked m n gates k s t R z e b v g = record {
  rep = record {
    E = R.E;
    node = R.node;
    rpos = R.rpos;
    eown = R.eown;
    epos = R.epos;
    elens = R.elens;
    edges = R.edges;
    regions = R.regions;
    number = R.number;
    simple = R.simple;
    light = R.light;
    sound = sound_mark_if m n z v (logged k e b v g s) (sound_logged m n k e b v g s R.sound);
    small = R.small;
    like = R.like;
    sizes = R.sizes;
    rchains = R.rchains;
    circled = record { echains = R.circled.echains; header = R.circled.header; lengths = R.circled.lengths; ends = R.circled.ends };
    leading = R.leading;
    stamps = R.stamps;
  };
  edge = λ j. refl;
}

-- ---- the regions of a node

module _ (f : ℕ → Region) (named : (i : ℕ) → (f i).label ≡ i) (a x : ℕ) where
  has_none : (n i : ℕ) → x < i → has x (gather (λ r. r.label) (map f (upto n i)) a) ≡ false
  unfolding has gather upto
  has_none zero i h = refl
  has_none (suc n) i h = go (eqb a (f i).node) (has_none n (suc i) (omega arith))
    where
      go : (b : Bool) → has x (gather (λ r. r.label) (map f (upto n (suc i))) a) ≡ false
          → has x (cond b ((f i).label ∷ gather (λ r. r.label) (map f (upto n (suc i))) a) (gather (λ r. r.label) (map f (upto n (suc i))) a)) ≡ false
      go true ih = rw (same_no x (f i).label (λ e. omega (arith, e, named i)), ih) refl
      go false ih = ih

  has_some : (n i : ℕ) → i ≤ x → x < i + n → has x (gather (λ r. r.label) (map f (upto n i)) a) ≡ eqb a (f x).node
  unfolding has gather upto
  has_some zero i h l = absurd (omega arith)
  has_some (suc n) i h l = ⊎_elim here (λ e. there e (has_some n (suc i) (omega arith) (omega arith))) (eq_or_ne x i)
    where
      rest : List ℕ
      rest = gather (λ r. r.label) (map f (upto n (suc i))) a

      here : x ≡ i → has x (cond (eqb a (f i).node) ((f i).label ∷ rest) rest) ≡ eqb a (f x).node
      here e = subst (λ (y : ℕ). has x (cond (eqb a (f y).node) ((f y).label ∷ rest) rest) ≡ eqb a (f x).node) e (go (eqb a (f x).node))
        where
          go : (b : Bool) → has x (cond b ((f x).label ∷ rest) rest) ≡ b
          go true = rw (named x, eqb_refl x) refl
          go false = has_none n (suc i) (omega arith)

      there : (x ≡ i → ⊥) → has x rest ≡ eqb a (f x).node → has x (cond (eqb a (f i).node) ((f i).label ∷ rest) rest) ≡ eqb a (f x).node
      there e ih = go (eqb a (f i).node)
        where
          go : (b : Bool) → has x (cond b ((f i).label ∷ rest) rest) ≡ eqb a (f x).node
          go true = rw (same_no x (f i).label (λ q. e (q ∙ named i))) ih
          go false = ih

-- a region is in the list of its node's, and in no other
pub has_member : (gates node : ℕ → ℕ) (s : Tables) (n a x : ℕ) → x < n → has x (members (map (region_of gates node s) (upto n 0)) a) ≡ eqb a (node x)
unfolding members region_of
has_member gates node s n a x h = has_some (region_of gates node s) (λ i. refl) a x n 0 (omega arith) (omega arith)

-- ---- the marks of the moved node's regions

module _ (m n : ℕ) (gates : ℕ → ℕ) (k : ℕ) (s : Tables) (t : State) (R : Rep m n gates k s t) (v : ℕ) (hv : v < n) (lv : R.node v ≡ v) where
  pub marked_if : (z : Bool) (x : ℕ) → x < n → get_or ((mark_if z v s).at mark) x 0 ≡ cond (z && eqb v (R.node x)) 1 (get_or (s.at mark) x 0)
  unfolding mark_if marked_all
  marked_if false x h = refl
  marked_if true x h = ⊎_elim mine other (eq_or_ne (R.node x) v)
    where
      mine : R.node x ≡ v → get_or (marked_all v s) x 0 ≡ cond (eqb v (R.node x)) 1 (get_or (s.at mark) x 0)
      mine w =
          let i : ℕ = R.rpos x in
          let at_x : cur (s.at rnext) v i ≡ x = ap (λ (y : ℕ). cur (s.at rnext) y i) (sym w) ∙ R.rchains.at x h in
          let p : i < get_or (s.at rlen) v 0 = subst (λ (y : ℕ). i < get_or (s.at rlen) y 0) w (R.rchains.here x h) in
          rw (same_yes v (R.node x) (sym w))
          (ap (λ (y : ℕ). get_or (marked_all v s) y 0) (sym at_x) ∙ met (get_or (s.at rlen) v 0) (s.at rnext) (s.at mark) v i p (omega (arith, at_x, R.sound.lengths mark)))

      other : (R.node x ≡ v → ⊥) → get_or (marked_all v s) x 0 ≡ cond (eqb v (R.node x)) 1 (get_or (s.at mark) x 0)
      other w = rw (same_no v (R.node x) (λ q. w (sym q)))
          (unmet (get_or (s.at rlen) v 0) (s.at rnext) (s.at mark) v x (λ i p q. w (ap R.node q ∙ R.rchains.owned v i hv lv p)))

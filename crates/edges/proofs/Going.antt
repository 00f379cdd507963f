-- The loop of `gather`, over plain values. Assumes nothing.
use Rattle.std.proofs.Common.{◌≡◌, ℕ, ◌+◌, ◌*◌, ◌/◌, ◌<◌, ◌≤◌, true, false, List, [], ◌∷◌, ◌++◌, map, length, get_or, set, sym, refl, ap, ◌∙◌, subst, append_assoc, arith, length-append}
use lib.Ieee.{Float}
use Rattle.lists.specs.Inside.Seg.{seg, put}
use Rattle.lists.proofs.SegLaws.{length-put}
use Rattle.edges.specs.Edges.{Pair, begun, plus, difference}
use Rattle.edges.specs.Inside.GatePairs.{gates_by, pair_of}
use Rattle.edges.specs.Inside.Order.{alike, runs, runs_from}
use Rattle.edges.specs.Inside.Gather.{sorted_at, pair_at, later, ReadsPairs, written, tables, Gathers, Gathered}
use Rattle.edges.proofs.GatherLaws.{tables_snoc, tables_below, tables_labels, tables_length, diffs_snoc, later_cons, later_end, runs_some}
use Rattle.edges.proofs.Weights.{one_spans, more_spans}
use Rattle.edges.specs.declared.edges.EdgeRecord.{EdgeRecord}

-- i pairs are read: these records are written, e of them, s is open, and what is left gives the rest
pub record Going (two_nyquist : Float) (u : List ℕ) (a vel : List Float) (n m t c : ℕ) (w : List ℕ) (d : List Float) (s : EdgeRecord) (e i : ℕ) : Type 0 where
  pub done : List EdgeRecord
  pub mem : w ≡ tables u t c done
  pub diffs : d ≡ put a 0 (map (difference two_nyquist) done)
  pub edges : e ≡ length done
  pub rest : done ++ runs_from s (later u vel n m i) ≡ runs (later u vel n m 0)
  pub few : s.count ≤ i
  pub spans : s.bridged ≤ s.count

runs_on : (r : EdgeRecord) (p : Pair) (l : List Pair) → alike r p ≡ true → runs_from r (p ∷ l) ≡ runs_from (plus r p) l
unfolding runs_from
runs_on r p l e = rw e refl

runs_off : (r : EdgeRecord) (p : Pair) (l : List Pair) → alike r p ≡ false → runs_from r (p ∷ l) ≡ r ∷ runs_from (begun p) l
unfolding runs_from
runs_off r p l e = rw e refl

pub going_begin : {two_nyquist : Float} {u : List ℕ} {a vel : List Float} {n m t c : ℕ} {s : EdgeRecord} → 0 < m → s ≡ begun (pair_at u vel n 0) → Going two_nyquist u a vel n m t c u a s 0 1
unfolding tables put runs begun
going_begin {u = u} {vel = vel} {n = n} {m = m} h e = record {
  done = [];
  mem = refl;
  diffs = refl;
  edges = refl;
  rest = ap (λ (r : EdgeRecord). runs_from r (later u vel n m 1)) e ∙ sym (ap runs (later_cons u vel n m 0 h ∙ ap (λ (x : ℕ). pair_at u vel n 0 ∷ later u vel n m x) {x = 0 + 1} {y = 1} (omega arith)));
  few = omega (arith, ap (λ (r : EdgeRecord). r.count) e);
  spans = subst (λ (r : EdgeRecord). r.bridged ≤ r.count) (sym e) (one_spans (pair_at u vel n 0));
}

module _ {two_nyquist : Float} {u : List ℕ} {a vel : List Float} {n m t c : ℕ} (lay : Gathers u a vel n m t c) {w : List ℕ} {d : List Float} {s : EdgeRecord} {e i : ℕ} (g : Going two_nyquist u a vel n m t c w d s e i) where
  below : (j : ℕ) → j < 9 * n + m → get_or w j 0 ≡ get_or u j 0
  below j h = ap (λ (l : List ℕ). get_or l j 0) g.mem ∙ tables_below u t c g.done j (omega (arith, lay.above))

  pub lw : length w ≡ length u
  lw = ap length g.mem ∙ tables_length u t c g.done

  pub ld : length d ≡ length a
  ld = ap length g.diffs ∙ length-put a 0 (map (difference two_nyquist) g.done)

  pub going_ready : ReadsPairs w vel n m
  going_ready =
      let r : ReadsPairs u vel n m = lay.ready in
      record {
        room = omega (arith, r.room, lw);
        few = r.few;
        small = r.small;
        little = r.little;
        vels = r.vels;
        index = λ j h. omega (arith, below (9 * n + j) (omega arith), r.index j h);
        gate = λ x h. subst (λ (y : ℕ). y / 2 < n) (sym (below (n + x) (omega (arith, r.few)))) (r.gate x h);
        far = λ x h. subst (λ (y : ℕ). y / 2 < n) (sym (below (5 * n + x) (omega (arith, r.few)))) (r.far x h);
      }

  pub going_place : e < c
  going_place = omega (arith, lay.fits, ap length g.rest, length-append g.done (runs_from s (later u vel n m i)), runs_some s (later u vel n m i), g.edges)

  pub going_pair : i < m → pair_at w vel n i ≡ pair_at u vel n i
  unfolding pair_at sorted_at
  going_pair h =
      let x : ℕ = get_or u (9 * n + i) 0 in
      let xl : x < m = lay.ready.index i h in
      let few : m ≤ 4 * n = lay.ready.few in
      ap (λ (y : ℕ). pair_of (seg w 0 n) vel (gates_by (get_or w (n + y) 0) (get_or w (5 * n + y) 0))) (below (9 * n + i) (omega arith))
      ∙ ap (λ (y : ℕ). pair_of (seg w 0 n) vel (gates_by y (get_or w (5 * n + x) 0))) (below (n + x) (omega arith))
      ∙ ap (λ (y : ℕ). pair_of (seg w 0 n) vel (gates_by (get_or u (n + x) 0) y)) (below (5 * n + x) (omega arith))
      ∙ ap (λ (l : List ℕ). pair_of l vel (gates_by (get_or u (n + x) 0) (get_or u (5 * n + x) 0))) (ap (λ (l : List ℕ). seg l 0 n) g.mem ∙ tables_labels u t c g.done n (omega (arith, lay.above)))

  -- the record closed
  closed : (v : List ℕ) → v ≡ written w t c e s → v ≡ tables u t c (g.done ++ (s ∷ []))
  closed v x = x ∙ ap (λ (l : List ℕ). written l t c e s) g.mem ∙ tables_snoc u t c e g.done s g.edges going_place

  closed_diffs : (b : List Float) → b ≡ set d e (difference two_nyquist s) → b ≡ put a 0 (map (difference two_nyquist) (g.done ++ (s ∷ [])))
  closed_diffs b x = x ∙ ap (λ (l : List Float). set l e (difference two_nyquist s)) g.diffs ∙ diffs_snoc two_nyquist a e g.done s g.edges

  one_more : length (g.done ++ (s ∷ [])) ≡ e + 1
  one_more = omega (arith, length-append g.done (s ∷ []), g.edges)

  before : i < m → g.done ++ runs_from s (pair_at u vel n i ∷ later u vel n m (i + 1)) ≡ runs (later u vel n m 0)
  before h = rw (later_cons u vel n m i h) at g.rest

  -- the i-th pair goes on with the record
  pub going_on : {p : Pair} {r : EdgeRecord} → i < m → p ≡ pair_at w vel n i → alike s p ≡ true → r ≡ plus s p → Going two_nyquist u a vel n m t c w d r e (i + 1)
  unfolding plus
  going_on h q x o' = let o = o' ∙ ap (plus s) q in record {
    done = g.done;
    mem = g.mem;
    diffs = g.diffs;
    edges = g.edges;
    rest =
        ap (λ (z : EdgeRecord). g.done ++ runs_from z (later u vel n m (i + 1))) (o ∙ ap (plus s) (going_pair h))
        ∙ sym (ap (λ (l : List EdgeRecord). g.done ++ l) (runs_on s (pair_at u vel n i) (later u vel n m (i + 1)) (sym (ap (alike s) (q ∙ going_pair h)) ∙ x)))
        ∙ before h;
    few = omega (arith, ap (λ (z : EdgeRecord). z.count) o, g.few);
    spans = subst (λ (z : EdgeRecord). z.bridged ≤ z.count) (sym o) (more_spans s (pair_at w vel n i) g.spans);
  }

  -- or the record is written, and another begun
  pub going_off : {v : List ℕ} {b : List Float} {p : Pair} {r : EdgeRecord} → i < m → p ≡ pair_at w vel n i → alike s p ≡ false → v ≡ written w t c e s → b ≡ set d e (difference two_nyquist s)
      → r ≡ begun p → Going two_nyquist u a vel n m t c v b r (e + 1) (i + 1)
  unfolding begun
  going_off {v} {b} {p} {r} h q x y z o' = let o = o' ∙ ap begun q in record {
    done = g.done ++ (s ∷ []);
    mem = closed v y;
    diffs = closed_diffs b z;
    edges = sym one_more;
    rest =
        append_assoc g.done (s ∷ []) (runs_from r (later u vel n m (i + 1)))
        ∙ ap (λ (z : EdgeRecord). g.done ++ (s ∷ runs_from z (later u vel n m (i + 1)))) (o ∙ ap begun (going_pair h))
        ∙ sym (ap (λ (l : List EdgeRecord). g.done ++ l) (runs_off s (pair_at u vel n i) (later u vel n m (i + 1)) (sym (ap (alike s) (q ∙ going_pair h)) ∙ x)))
        ∙ before h;
    few = omega (arith, ap (λ (z : EdgeRecord). z.count) o);
    spans = subst (λ (z : EdgeRecord). z.bridged ≤ z.count) (sym o) (one_spans (pair_at w vel n i));
  }

  pub going_end : {v : List ℕ} {b : List Float} → m ≤ i → v ≡ written w t c e s → b ≡ set d e (difference two_nyquist s) → Gathered two_nyquist u v a b t c (e + 1) (runs (later u vel n m 0))
  unfolding runs_from
  going_end {v} {b} h x f =
      let z : g.done ++ (s ∷ []) ≡ runs (later u vel n m 0) = rw (later_end u vel n m i h) at g.rest in
      record {
        words = closed v x ∙ ap (tables u t c) z;
        diffs = closed_diffs b f ∙ ap (λ (l : List EdgeRecord). put a 0 (map (difference two_nyquist) l)) z;
        count = sym one_more ∙ ap length z;
      }

pub none_gathered : {two_nyquist : Float} {u : List ℕ} {a : List Float} (vel : List Float) (n : ℕ) {m t c : ℕ} → m ≡ 0 → Gathered two_nyquist u u a a t c 0 (runs (later u vel n m 0))
unfolding tables put runs
none_gathered {u = u} vel n {m = m} z = rw (later_end u vel n m 0 (omega arith)) (record { words = refl; diffs = refl; count = refl })

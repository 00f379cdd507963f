-- The network restricted to the edges and regions on one side: where no edge joins the two sides, restricting commutes with the steps.
-- Assumes nothing.
use Prim.Native.Nat.{ℕ, ◌+◌}
use native.Mathlib.Omega.{arith}
use mathlib.Core.Path.{◌≡◌, refl, sym, ap, ◌∙◌, fun_ext}
use mathlib.Core.Bool.{Bool, true, false, ◌&&◌, cond, and-true, not}
use mathlib.Core.List.{List, [], ◌∷◌, map}
use mathlib.Core.Option.{Option, none, some}
use lib.Dec.{ltb, eqb}
use lib.IntN.{ℤ, ◌+ℤ◌}
use borrow.Author.Tests.{eqb-true}
use Rattle.lists.specs.Seq.{keep, All}
use Rattle.lists.proofs.AllLaws.{all_map}
use Rattle.network.specs.Book.{entry_of, entry, book}
use Rattle.network.specs.Network.{is_zero, Edge, Region, State, Plan, Link, Event, size_of, gather, members, raised, at, plan_for, plan, kill, shifted, adjust, turn_if, turn, find, absorb, hand, combine, prepare, join_all, merge_edges, move, merge, step_to, step, event_of, event, trace, replay}
use Rattle.network.proofs.Lists.{keep_map, keep_fixed, apart, apart', at_all}

-- Every phase keeps an edge's number
pub prepare_num : (pl : Plan) (e : Edge) → (prepare pl e).num ≡ e.num
unfolding prepare turn turn_if adjust kill
prepare_num pl e = refl

pub combine_num : (es : List Edge) (b m : ℕ) (e : Edge) → (combine es b m e).num ≡ e.num
unfolding combine absorb hand
combine_num es b m e = go (eqb b e.first) (eqb m e.first) (find es m e.second) (find es b e.second)
  where
    go : (x y : Bool) (g h : Option Link) → (cond x (absorb g e) (cond y (hand b h e) e)).num ≡ e.num
    go true y none h = refl
    go true y (some g) h = refl
    go false true g h = refl
    go false false g h = refl

-- `p` says on which side a node or a region is, `q` an edge by its number.
module _ (p q : ℕ → Bool) where
  unfoldable pub edge_in : Edge → Bool
  edge_in e = q e.num

  unfoldable pub region_in : Region → Bool
  region_in r = p r.label

  unfoldable pub restrict : State → State
  restrict s = record { edges = keep edge_in s.edges; regions = keep region_in s.regions }

  -- An edge's ends are on its own side
  abbrev pub OkE : Edge → Type 0
  OkE e = (p e.first ≡ q e.num) × (p e.second ≡ q e.num)

  -- A region's node is on the region's side
  abbrev pub OkR : Region → Type 0
  OkR r = p r.node ≡ p r.label

  pub record Closed (s : State) : Type 0 where
    pub edges_ok : All OkE s.edges
    pub regions_ok : All OkR s.regions

  -- Lookups on the side see only the side
  size_in_lem : (a : ℕ) → p a ≡ true → (rs : List Region) → All OkR rs → size_of (keep region_in rs) a ≡ size_of rs a
  unfolding size_of keep region_in
  size_in_lem a pa [] t = refl
  size_in_lem a pa (r ∷ rs) t = go (p r.label) refl (size_in_lem a pa rs t.1)
    where
      go : (b : Bool) → p r.label ≡ b → size_of (keep region_in rs) a ≡ size_of rs a
          → size_of (cond b (r ∷ keep region_in rs) (keep region_in rs)) a ≡ cond (eqb a r.node) r.size 0 + size_of rs a
      go true e ih = rw ih refl
      go false e ih = rw (apart p a r.node pa (t.0 ∙ e)) (ih ∙ omega arith)

  gather_in : {A : Type 0} (f : Region → A) (a : ℕ) → p a ≡ true → (rs : List Region) → All OkR rs → gather f (keep region_in rs) a ≡ gather f rs a
  unfolding gather keep region_in
  gather_in f a pa [] t = refl
  gather_in {A} f a pa (r ∷ rs) t = go (p r.label) refl (gather_in f a pa rs t.1)
    where
      go : (b : Bool) → p r.label ≡ b → gather f (keep region_in rs) a ≡ gather f rs a
          → gather f (cond b (r ∷ keep region_in rs) (keep region_in rs)) a ≡ cond (eqb a r.node) (f r ∷ gather f rs a) (gather f rs a)
      go true e ih = rw ih refl
      go false e ih = rw (apart p a r.node pa (t.0 ∙ e)) ih

  members_in : (a : ℕ) → p a ≡ true → (rs : List Region) → All OkR rs → members (keep region_in rs) a ≡ members rs a
  unfolding members
  members_in a pa rs t = gather_in (λ r. r.label) a pa rs t

  raised_in : (k : ℤ) (a : ℕ) → p a ≡ true → (rs : List Region) → All OkR rs → raised k (keep region_in rs) a ≡ raised k rs a
  unfolding raised
  raised_in k a pa rs t = gather_in (λ r. r.count +ℤ k) a pa rs t

  at_in : (i : ℕ) → q i ≡ true → (es : List Edge) → at (keep edge_in es) i ≡ at es i
  unfolding at keep edge_in
  at_in i qi [] = refl
  at_in i qi (e ∷ es) = go (q e.num) refl (at_in i qi es)
    where
      nothing : (b : Bool) (x y : Option Edge) → cond (b && false) x y ≡ y
      nothing true x y = refl
      nothing false x y = refl

      go : (b : Bool) → q e.num ≡ b → at (keep edge_in es) i ≡ at es i
          → at (cond b (e ∷ keep edge_in es) (keep edge_in es)) i ≡ cond (e.live && eqb i e.num) (some e) (at es i)
      go true h ih = rw ih refl
      go false h ih = rw (apart q i e.num qi h) (ih ∙ sym (nothing e.live (some e) (at es i)))

  find_in : (x c : ℕ) → p x ≡ true → (es : List Edge) → All OkE es → find (keep edge_in es) x c ≡ find es x c
  unfolding find keep edge_in
  find_in x c px [] t = refl
  find_in x c px (e ∷ es) t = go (q e.num) refl (find_in x c px es t.1)
    where
      nothing : (b d : Bool) (x y : Option Link) → cond (b && false && d) x y ≡ y
      nothing true d x y = refl
      nothing false d x y = refl

      go : (b : Bool) → q e.num ≡ b → find (keep edge_in es) x c ≡ find es x c
          → find (cond b (e ∷ keep edge_in es) (keep edge_in es)) x c ≡ cond (e.live && eqb x e.first && eqb c e.second) (some e.link) (find es x c)
      go true h ih = rw ih refl
      go false h ih = rw (apart p x e.first px (t.0.0 ∙ h)) (ih ∙ sym (nothing e.live (eqb c e.second) (some e.link) (find es x c)))

  -- Every phase keeps an edge's side
  ok_turn : (x : ℕ) (e : Edge) → OkE e → OkE (turn x e)
  unfolding turn turn_if
  ok_turn x e t = go (eqb x e.second)
    where
      go : (b : Bool) → OkE (turn_if b e)
      go true = (t.1, t.0)
      go false = t

  ok_adjust : (i m : ℕ) (k : ℤ) (e : Edge) → OkE e → OkE (adjust m k (kill i e))
  unfolding adjust kill
  ok_adjust i m k e t = t

  ok_prepare : (pl : Plan) (e : Edge) → OkE e → OkE (prepare pl e)
  unfolding prepare
  ok_prepare pl e t = ok_turn pl.moved _ (ok_turn pl.base _ (ok_adjust pl.edge pl.moved pl.gain e t))

  ok_combine : (es : List Edge) (b m : ℕ) → p b ≡ p m → (e : Edge) → OkE e → OkE (combine es b m e)
  unfolding combine absorb hand
  ok_combine es b m h e t = go (eqb b e.first) (eqb m e.first) refl (find es m e.second) (find es b e.second)
    where
      go : (x y : Bool) → eqb m e.first ≡ y → (g h : Option Link) → OkE (cond x (absorb g e) (cond y (hand b h e) e))
      go true y r none d = t
      go true y r (some g) d = t
      go false true r g d = (h ∙ ap p (eqb-true m e.first r) ∙ t.0, t.1)
      go false false r g d = t

  ok_move : (pl : Plan) → p pl.base ≡ p pl.moved → (r : Region) → OkR r → OkR (move pl r)
  unfolding move
  ok_move pl h r t = go (eqb pl.moved r.node) refl
    where
      go : (x : Bool) → eqb pl.moved r.node ≡ x → p (cond x pl.base r.node) ≡ p r.label
      go true e = h ∙ ap p (eqb-true pl.moved r.node e) ∙ t
      go false e = t

  closed_merge : (pl : Plan) → p pl.base ≡ p pl.moved → (s : State) → Closed s → Closed (merge pl s)
  unfolding merge merge_edges join_all
  closed_merge pl h s c = record {
    edges_ok = all_map OkE (combine (map (prepare pl) s.edges) pl.base pl.moved) (ok_combine (map (prepare pl) s.edges) pl.base pl.moved h) (map (prepare pl) s.edges)
        (all_map OkE (prepare pl) (ok_prepare pl) s.edges c.edges_ok);
    regions_ok = all_map OkR (move pl) (ok_move pl h) s.regions c.regions_ok;
  }

  -- Restricting commutes with each phase
  in_prepare : (pl : Plan) (es : List Edge) → keep edge_in (map (prepare pl) es) ≡ map (prepare pl) (keep edge_in es)
  unfolding edge_in
  in_prepare pl es = keep_map edge_in (prepare pl) (λ e. ap q (prepare_num pl e)) es

  in_combine : (fs : List Edge) (b m : ℕ) (es : List Edge) → keep edge_in (map (combine fs b m) es) ≡ map (combine fs b m) (keep edge_in es)
  unfolding edge_in
  in_combine fs b m es = keep_map edge_in (combine fs b m) (λ e. ap q (combine_num fs b m e)) es

  in_move : (pl : Plan) (rs : List Region) → keep region_in (map (move pl) rs) ≡ map (move pl) (keep region_in rs)
  unfolding region_in move
  in_move pl rs = keep_map region_in (move pl) (λ r. refl) rs

  -- A merge on the side
  combine_in : (b m : ℕ) → p b ≡ true → p m ≡ true → (es : List Edge) → All OkE es → (e : Edge) → combine (keep edge_in es) b m e ≡ combine es b m e
  unfolding combine
  combine_in b m pb pm es t e = rw (find_in m e.second pm es t, find_in b e.second pb es t) refl

  edges_in : (pl : Plan) → p pl.base ≡ true → p pl.moved ≡ true → (es : List Edge) → All OkE es
      → keep edge_in (merge_edges pl es) ≡ merge_edges pl (keep edge_in es)
  unfolding merge_edges join_all
  edges_in pl pb pm es t =
      let fs : List Edge = map (prepare pl) es in
      let u : All OkE fs = all_map OkE (prepare pl) (ok_prepare pl) es t in
      let same_combine : combine fs pl.base pl.moved ≡ combine (keep edge_in fs) pl.base pl.moved = fun_ext (λ e. sym (combine_in pl.base pl.moved pb pm fs u e)) in
      in_combine fs pl.base pl.moved fs
      ∙ ap (λ (g : Edge → Edge). map g (keep edge_in fs)) same_combine
      ∙ ap (λ (l : List Edge). map (combine l pl.base pl.moved) l) (in_prepare pl es)

  merge_in : (pl : Plan) → p pl.base ≡ true → p pl.moved ≡ true → (s : State) → Closed s → restrict (merge pl s) ≡ merge pl (restrict s)
  unfolding merge restrict
  merge_in pl pb pm s c = λ i. record { edges = edges_in pl pb pm s.edges c.edges_ok i; regions = in_move pl s.regions i }

  -- A merge on the other side
  kill_out : (i : ℕ) (e : Edge) → q i ≡ false → q e.num ≡ true → kill i e ≡ e
  unfolding kill
  kill_out i e a b = ap alive (ap (λ (x : Bool). e.live && not x) (apart' q i e.num a b) ∙ and-true e.live)
    where
      alive : Bool → Edge
      alive x = record { num = e.num; live = x; first = e.first; second = e.second; link = e.link }

  adjust_out : (m : ℕ) (k : ℤ) (e : Edge) → eqb m e.first ≡ false → eqb m e.second ≡ false → adjust m k e ≡ e
  unfolding adjust shifted
  adjust_out m k e a b = rw (a, b) (go (is_zero k))
    where
      go : (z : Bool) → ◌≡◌ {A = Edge} (record { num = e.num; live = e.live; first = e.first; second = e.second; link = record { weight = e.link.weight; diff = shifted z false false k e.link.weight e.link.diff; bridged = e.link.bridged } }) e
      go true = refl
      go false = refl

  turn_out : (x : ℕ) (e : Edge) → eqb x e.second ≡ false → turn x e ≡ e
  unfolding turn turn_if
  turn_out x e a = rw a refl

  record Outside (pl : Plan) : Type 0 where
    edge_out : q pl.edge ≡ false
    base_out : p pl.base ≡ false
    moved_out : p pl.moved ≡ false

  prepare_out : (pl : Plan) → Outside pl → (e : Edge) → OkE e → edge_in e ≡ true → prepare pl e ≡ e
  unfolding prepare edge_in
  prepare_out pl o e t h =
      let f₁ : p e.first ≡ true = t.0 ∙ h in
      let f₂ : p e.second ≡ true = t.1 ∙ h in
      rw (
        kill_out pl.edge e o.edge_out h,
        adjust_out pl.moved pl.gain e (apart' p pl.moved e.first o.moved_out f₁) (apart' p pl.moved e.second o.moved_out f₂),
        turn_out pl.base e (apart' p pl.base e.second o.base_out f₂),
      )
      (turn_out pl.moved e (apart' p pl.moved e.second o.moved_out f₂))

  combine_out : (fs : List Edge) (pl : Plan) → Outside pl → (e : Edge) → OkE e → edge_in e ≡ true → combine fs pl.base pl.moved e ≡ e
  unfolding combine edge_in
  combine_out fs pl o e t h = rw (apart' p pl.base e.first o.base_out (t.0 ∙ h), apart' p pl.moved e.first o.moved_out (t.0 ∙ h)) refl

  edges_out : (pl : Plan) → Outside pl → (es : List Edge) → All OkE es → keep edge_in (merge_edges pl es) ≡ keep edge_in es
  unfolding merge_edges join_all
  edges_out pl o es t =
      let fs : List Edge = map (prepare pl) es in
      let u : All OkE fs = all_map OkE (prepare pl) (ok_prepare pl) es t in
      in_combine fs pl.base pl.moved fs
      ∙ keep_fixed edge_in (combine fs pl.base pl.moved) (combine_out fs pl o) fs u
      ∙ in_prepare pl es
      ∙ keep_fixed edge_in (prepare pl) (prepare_out pl o) es t

  move_out : (pl : Plan) → Outside pl → (r : Region) → OkR r → region_in r ≡ true → move pl r ≡ r
  unfolding move region_in
  move_out pl o r t h = rw (apart' p pl.moved r.node o.moved_out (t ∙ h)) refl

  merge_out : (pl : Plan) → Outside pl → (s : State) → Closed s → restrict (merge pl s) ≡ restrict s
  unfolding merge restrict
  merge_out pl o s c = λ i. record {
    edges = edges_out pl o s.edges c.edges_ok i;
    regions = (in_move pl s.regions ∙ keep_fixed region_in (move pl) (move_out pl o) s.regions c.regions_ok) i;
  }

  -- Both nodes of a plan are on the side of its edge
  base_side : (rs : List Region) (e : Edge) → OkE e → p (plan rs e).base ≡ q e.num
  unfolding plan plan_for
  base_side rs e t = go (ltb (size_of rs e.second) (size_of rs e.first))
    where
      go : (b : Bool) → p (cond b e.first e.second) ≡ q e.num
      go true = t.0
      go false = t.1

  moved_side : (rs : List Region) (e : Edge) → OkE e → p (plan rs e).moved ≡ q e.num
  unfolding plan plan_for
  moved_side rs e t = go (ltb (size_of rs e.second) (size_of rs e.first))
    where
      go : (b : Bool) → p (cond b e.second e.first) ≡ q e.num
      go true = t.1
      go false = t.0

  plan_edge : (rs : List Region) (e : Edge) → (plan rs e).edge ≡ e.num
  unfolding plan plan_for
  plan_edge rs e = refl

  plan_in : (rs : List Region) → All OkR rs → (e : Edge) → OkE e → q e.num ≡ true → plan (keep region_in rs) e ≡ plan rs e
  unfolding plan
  plan_in rs u e t h = rw (size_in_lem e.second (t.1 ∙ h) rs u, size_in_lem e.first (t.0 ∙ h) rs u) refl

  pub closed_step : (s : State) → Closed s → (i : ℕ) → Closed (step s i)
  unfolding step step_to
  closed_step s c i = go (at s.edges i) refl
    where
      go : (o : Option Edge) → at s.edges i ≡ o → Closed (step_to o s)
      go none h = c
      go (some e) h =
          let t : (e.num ≡ i) × OkE e = at_all OkE i s.edges c.edges_ok e h in
          closed_merge (plan s.regions e) (base_side s.regions e t.1 ∙ sym (moved_side s.regions e t.1)) s c

  pub step_in : (s : State) → Closed s → (i : ℕ) → q i ≡ true → restrict (step s i) ≡ step (restrict s) i
  unfolding step step_to restrict
  step_in s c i qi = go (at s.edges i) refl ∙ ap (λ (o : Option Edge). step_to o (restrict s)) (sym (at_in i qi s.edges))
    where
      go : (o : Option Edge) → at s.edges i ≡ o → restrict (step_to o s) ≡ step_to o (restrict s)
      go none h = refl
      go (some e) h =
          let t : (e.num ≡ i) × OkE e = at_all OkE i s.edges c.edges_ok e h in
          let n : q e.num ≡ true = ap q t.0 ∙ qi in
          merge_in (plan s.regions e) (base_side s.regions e t.1 ∙ n) (moved_side s.regions e t.1 ∙ n) s c
          ∙ ap (λ (pl : Plan). merge pl (restrict s)) (sym (plan_in s.regions c.regions_ok e t.1 n))

  pub step_out : (s : State) → Closed s → (i : ℕ) → q i ≡ false → restrict (step s i) ≡ restrict s
  unfolding step step_to
  step_out s c i qi = go (at s.edges i) refl
    where
      go : (o : Option Edge) → at s.edges i ≡ o → restrict (step_to o s) ≡ restrict s
      go none h = refl
      go (some e) h =
          let t : (e.num ≡ i) × OkE e = at_all OkE i s.edges c.edges_ok e h in
          let n : q e.num ≡ false = ap q t.0 ∙ qi in
          merge_out (plan s.regions e) (record { edge_out = ap q (plan_edge s.regions e) ∙ n; base_out = base_side s.regions e t.1 ∙ n; moved_out = moved_side s.regions e t.1 ∙ n }) s c

  event_in_lem : (s : State) → Closed s → (i : ℕ) → q i ≡ true → event (restrict s) i ≡ event s i
  unfolding event event_of restrict
  event_in_lem s c i qi = rw (at_in i qi s.edges) (go (at s.edges i) refl)
    where
      go : (o : Option Edge) → at s.edges i ≡ o → event_of (keep region_in s.regions) i o ≡ event_of s.regions i o
      go none h = refl
      go (some e) h =
          let t : (e.num ≡ i) × OkE e = at_all OkE i s.edges c.edges_ok e h in
          let n : q e.num ≡ true = ap q t.0 ∙ qi in
          rw (
            plan_in s.regions c.regions_ok e t.1 n,
            members_in (plan s.regions e).base (base_side s.regions e t.1 ∙ n) s.regions c.regions_ok,
            members_in (plan s.regions e).moved (moved_side s.regions e t.1 ∙ n) s.regions c.regions_ok,
            raised_in (plan s.regions e).gain (plan s.regions e).moved (moved_side s.regions e t.1 ∙ n) s.regions c.regions_ok,
          ) refl

  pub event_edge : (s : State) (i : ℕ) → (event s i).edge ≡ i
  unfolding event event_of
  event_edge s i = go (at s.edges i)
    where
      go : (o : Option Edge) → (event_of s.regions i o).edge ≡ i
      go none = refl
      go (some e) = refl

  unfoldable pub event_in : Event → Bool
  event_in v = q v.edge

  -- A merge list, seen from the side: only its entries on the side count.
  pub replay_in : (l : List ℕ) (s : State) → Closed s → restrict (replay s l) ≡ replay (restrict s) (keep q l)
  unfolding replay keep
  replay_in [] s c = refl
  replay_in (i ∷ l) s c = replay_in l (step s i) (closed_step s c i) ∙ go (q i) refl
    where
      go : (b : Bool) → q i ≡ b → replay (restrict (step s i)) (keep q l) ≡ replay (restrict s) (cond b (i ∷ keep q l) (keep q l))
      go true h = ap (λ (t : State). replay t (keep q l)) (step_in s c i h)
      go false h = ap (λ (t : State). replay t (keep q l)) (step_out s c i h)

  pub trace_in : (l : List ℕ) (s : State) → Closed s → keep event_in (trace s l) ≡ trace (restrict s) (keep q l)
  unfolding trace keep event_in
  trace_in [] s c = refl
  trace_in (i ∷ l) s c = rw (trace_in l (step s i) (closed_step s c i)) (go (q (event s i).edge) (ap q (sym (event_edge s i))))
    where
      go : (b : Bool) → q i ≡ b → cond b (event s i ∷ trace (restrict (step s i)) (keep q l)) (trace (restrict (step s i)) (keep q l)) ≡ trace (restrict s) (cond (q i) (i ∷ keep q l) (keep q l))
      go true h = rw (h, event_in_lem s c i h, step_in s c i h) refl
      go false h = rw (h, step_out s c i h) refl

  entry_in_lem : (s : State) → Closed s → (i : ℕ) → q i ≡ true → entry (restrict s) i ≡ entry s i
  unfolding entry entry_of restrict
  entry_in_lem s c i qi = rw (at_in i qi s.edges) (go (at s.edges i) refl)
    where
      go : (o : Option Edge) → at s.edges i ≡ o → entry_of (keep region_in s.regions) o ≡ entry_of s.regions o
      go none h = refl
      go (some e) h =
          let t : (e.num ≡ i) × OkE e = at_all OkE i s.edges c.edges_ok e h in
          let n : q e.num ≡ true = ap q t.0 ∙ qi in
          rw (plan_in s.regions c.regions_ok e t.1 n, size_in_lem (plan s.regions e).moved (moved_side s.regions e t.1 ∙ n) s.regions c.regions_ok) refl

  -- A book, where every edge is on the side.
  pub book_in : ((i : ℕ) → q i ≡ true) → (l : List ℕ) (s : State) → Closed s → book s l ≡ book (restrict s) l
  unfolding book
  book_in every [] s c = refl
  book_in every (i ∷ l) s c = rw (book_in every l (step s i) (closed_step s c i), entry_in_lem s c i (every i), step_in s c i (every i)) refl

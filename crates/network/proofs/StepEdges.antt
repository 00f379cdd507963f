-- A merge of the code from the invariant: its edges are the network's. Assumes nothing.
use mathlib.Core.Path.{◌≡◌, refl, sym, ap, ◌∙◌, subst}
use mathlib.Core.Logic.{◌⊎◌, inl, inr, ⊎_elim}
use mathlib.Core.Bool.{Bool, true, false, not, ◌&&◌, cond, true≢false}
use mathlib.Core.List.{List, map}
use Prim.Native.Nat.{ℕ, zero, suc, ◌+◌, ◌*◌, ◌-◌, ◌/◌, ◌≤◌, ◌<◌}
use native.Mathlib.Omega.{arith}
use lib.Dec.{eqb, ltb}
use lib.ListN.{get_or}
use lib.Seq.{get_or-set_same, get_or-set_other}
use Rattle.lists.proofs.AllLaws.{mem_upto}
use Rattle.lists.specs.Seq.{upto}
use Rattle.network.specs.Network.{Edge, Region, State, Plan, size_of, plan, plan_for, kill, turn, turn_if, adjust, prepare, combine}
use Rattle.merge.specs.Inside.Tables.{Tables, Sound, store}
use Rattle.merge.specs.Inside.Table.{is, weight, first, second, bridged, enext, rnext, stamp, size, elen, rlen, count, mark, log}
use Rattle.merge.specs.Inside.Steps.{unbias, turned, pruned, take_edge, walk_moved, moved_all}
use Rattle.merge.specs.Inside.Leaves.{Gains}
use Rattle.network.specs.Inside.Net.{edge_of, edge_now, region_of, Like}
use Rattle.merge.specs.Inside.Chain.{cur}
use Rattle.network.specs.Inside.Rep.{Rep, Circled}
use Rattle.merge.proofs.SoundSet.{eq_or_ne, sound_weight, sound_store}
use Rattle.merge.proofs.SoundSteps.{sound_take}
use Rattle.merge.proofs.Leaf.{sum_less}
use Rattle.merge.proofs.Frames.{Frame, frame_moved_all, Same}
use Rattle.merge.proofs.TableLaws.{Alike, alike_store}
use Rattle.network.proofs.TableEdges.{like_of, like_dead, like_then, like_at, live_word, word_dead}
use Rattle.network.proofs.Facing.{now_live, Stands, stands, stands_in, stamp_newest, stamp_most, stamp_now}
use Rattle.network.proofs.Chained.{circled_by, circled_less, at_end, met}
use Rattle.network.proofs.Dropping.{Pruned, prune_is}
use Rattle.network.proofs.Moved.{same_no, same_yes, Setting, Middle, Grounds}
use Rattle.network.proofs.MovedWalk.{begin, Walked, walk, finish}
use Rattle.merge.proofs.Counts.{CountsDiffer}
use Rattle.network.proofs.Prepared.{nodes_apart, setting}

sound_walk_moved : (m n b v g k : ℕ) (s : Tables) (x : ℕ) → Gains n b v g → Sound m n s → Sound m n (walk_moved k m b v g s x)
unfolding walk_moved
sound_walk_moved m n b v g zero s x ok h = h
sound_walk_moved m n b v g (suc k) s x ok h = sound_walk_moved m n b v g k (take_edge m b v g s (x / 2)) (get_or (s.at enext) x 0) ok (sound_take m n b v g s (x / 2) h ok)

sound_moved_all : (m n b v g : ℕ) (s : Tables) → Gains n b v g → Sound m n s → Sound m n (moved_all m b v g s)
unfolding moved_all
sound_moved_all m n b v g s ok h = sound_walk_moved m n b v g (get_or (s.at elen) v 0 - 1) s (get_or (s.at enext) (2 * m + v) 0) ok h

counted_edges : (s t : Tables) → CountsDiffer s t → (j : ℕ) → edge_now s j ≡ edge_now t j
unfolding edge_now turned edge_of
counted_edges s t c j = rw (c.tables.at weight, c.tables.at first, c.tables.at second, c.tables.at bridged, c.tables.at stamp, c.diff) refl

same_edges : (s t : Tables) → Same s t → (j : ℕ) → edge_now s j ≡ edge_now t j
unfolding edge_now turned edge_of
same_edges s t c j = rw (c.beside.at weight, c.beside.at first, c.beside.at second, c.beside.at bridged, c.beside.at stamp, c.diff) refl

-- preparing turns an edge or leaves its ends
pub prep_ends : (pl : Plan) (e : Edge) → (((prepare pl e).first ≡ e.first) × ((prepare pl e).second ≡ e.second)) ⊎ (((prepare pl e).second ≡ e.first) × ((prepare pl e).first ≡ e.second))
unfolding prepare turn turn_if adjust kill
prep_ends pl e = go (eqb pl.base e.second)
  where
    two : (x y : Bool) → ((cond y (cond x e.first e.second) (cond x e.second e.first) ≡ e.first) × (cond y (cond x e.second e.first) (cond x e.first e.second) ≡ e.second))
        ⊎ ((cond y (cond x e.second e.first) (cond x e.first e.second) ≡ e.first) × (cond y (cond x e.first e.second) (cond x e.second e.first) ≡ e.second))
    two true true = inl (refl, refl)
    two true false = inr (refl, refl)
    two false true = inr (refl, refl)
    two false false = inl (refl, refl)

    go : (x : Bool) → ((cond (eqb pl.moved (cond x e.first e.second)) (cond x e.first e.second) (cond x e.second e.first) ≡ e.first) × (cond (eqb pl.moved (cond x e.first e.second)) (cond x e.second e.first) (cond x e.first e.second) ≡ e.second))
        ⊎ ((cond (eqb pl.moved (cond x e.first e.second)) (cond x e.second e.first) (cond x e.first e.second) ≡ e.first) × (cond (eqb pl.moved (cond x e.first e.second)) (cond x e.first e.second) (cond x e.second e.first) ≡ e.second))
    go x = two x (eqb pl.moved (cond x e.first e.second))

kill_ends : (pl : Plan) (e : Edge) → ((kill pl.edge e).first ≡ e.first) × ((kill pl.edge e).second ≡ e.second)
unfolding kill
kill_ends pl e = (refl, refl)

pub prep_live : (pl : Plan) (e : Edge) → (prepare pl e).live ≡ (kill pl.edge e).live
unfolding kill prepare turn turn_if adjust
prep_live pl e = refl

module _ (m n : ℕ) (gates : ℕ → ℕ) (past : ℕ) (s : Tables) (t : State) (R : Rep m n gates past s t) where
  -- ---- ends of live edges
  pub ends_in : (j : ℕ) → j < m → (R.E j).live ≡ true → ((R.E j).first < n) × ((R.E j).second < n)
  ends_in j h l = stands_in m n s j (R.E j) R.sound h (stands s j (R.E j) ((R.like j h).whole l) l)

  module _ (e : ℕ) (lt : e < m) (l : (R.E e).live ≡ true) where
    abbrev pub rs : List Region
    rs = map (region_of gates R.node s) (upto n 0)

    abbrev pub pl : Plan
    pl = plan rs (R.E e)

    abbrev pub killed : ℕ → Edge
    killed j = kill pl.edge (R.E j)

    abbrev pub prep : ℕ → Edge
    prep j = prepare pl (R.E j)

    -- base and moved node are the chosen edge's ends
    plan_ends : (((R.E e).first ≡ pl.base) × ((R.E e).second ≡ pl.moved)) ⊎ (((R.E e).second ≡ pl.base) × ((R.E e).first ≡ pl.moved))
    unfolding plan plan_for
    plan_ends = go (ltb (size_of rs (R.E e).second) (size_of rs (R.E e).first))
      where
        go : (x : Bool) → (((R.E e).first ≡ cond x (R.E e).first (R.E e).second) × ((R.E e).second ≡ cond x (R.E e).second (R.E e).first)) ⊎ (((R.E e).second ≡ cond x (R.E e).first (R.E e).second) × ((R.E e).first ≡ cond x (R.E e).second (R.E e).first))
        go true = inl (refl, refl)
        go false = inr (refl, refl)

    pub base_in : pl.base < n
    base_in = ⊎_elim (λ p. subst (λ (x : ℕ). x < n) p.0 (ends_in e lt l).0) (λ p. subst (λ (x : ℕ). x < n) p.0 (ends_in e lt l).1) plan_ends

    pub moved_in : pl.moved < n
    moved_in = ⊎_elim (λ p. subst (λ (x : ℕ). x < n) p.1 (ends_in e lt l).1) (λ p. subst (λ (x : ℕ). x < n) p.1 (ends_in e lt l).0) plan_ends

    pub base_leads : R.node pl.base ≡ pl.base
    base_leads = ⊎_elim (λ p. subst (λ (x : ℕ). R.node x ≡ x) p.0 (R.leading e lt l).0) (λ p. subst (λ (x : ℕ). R.node x ≡ x) p.0 (R.leading e lt l).1) plan_ends

    pub moved_leads : R.node pl.moved ≡ pl.moved
    moved_leads = ⊎_elim (λ p. subst (λ (x : ℕ). R.node x ≡ x) p.1 (R.leading e lt l).1) (λ p. subst (λ (x : ℕ). R.node x ≡ x) p.1 (R.leading e lt l).0) plan_ends

    pub apart : pl.base ≡ pl.moved → ⊥
    apart = nodes_apart m R.E R.number R.simple e lt l rs

    -- ---- the chosen edge dies
    abbrev pub s₁ : Tables
    s₁ = store weight s e 0

    pub sound₁ : Sound m n s₁
    sound₁ = sound_weight m n s R.sound e 0 (omega (arith, sum_less (s.at weight) e (omega (arith, R.sound.lengths weight)), R.sound.light))

    edge_is : pl.edge ≡ e
    unfolding plan plan_for
    edge_is = R.number e

    killed_else : (j : ℕ) → (j ≡ e → ⊥) → killed j ≡ R.E j
    unfolding kill
    killed_else j ne =
        let no : eqb pl.edge (R.E j).num ≡ false = ap (λ (x : ℕ). eqb x (R.E j).num) edge_is ∙ ap (eqb e) (R.number j) ∙ same_no e j (λ w. ne (sym w)) in
        λ i. record { num = (R.E j).num; live = (ap (λ (x : Bool). (R.E j).live && not x) no ∙ and-true (R.E j).live) i; first = (R.E j).first; second = (R.E j).second; link = (R.E j).link }
      where
        and-true : (x : Bool) → (x && true) ≡ x
        and-true true = refl
        and-true false = refl

    killed_gone : (killed e).live ≡ false
    unfolding kill
    killed_gone = ap (λ (x : Bool). (R.E e).live && not x) (same_yes pl.edge (R.E e).num (edge_is ∙ sym (R.number e))) ∙ and-false (R.E e).live
      where
        and-false : (x : Bool) → (x && false) ≡ false
        and-false true = refl
        and-false false = refl

    dead₁ : get_or (s₁.at weight) e 0 ≡ 0
    unfolding store
    dead₁ = get_or-set_same (s.at weight) e 0 0 (omega (arith, R.sound.lengths weight))

    kept₁ : (j : ℕ) → (j ≡ e → ⊥) → edge_now s₁ j ≡ edge_now s j
    unfolding edge_now turned edge_of store
    kept₁ j w = rw (get_or-set_other (s.at weight) e j 0 0 w) refl

    pub same₁ : (s₁.at stamp ≡ s.at stamp) × (s₁.at enext ≡ s.at enext) × (s₁.at elen ≡ s.at elen) × (s₁.at rnext ≡ s.at rnext) × (s₁.at rlen ≡ s.at rlen) × (s₁.at size ≡ s.at size) × (s₁.at count ≡ s.at count) × (s₁.at mark ≡ s.at mark) × (s₁.at log ≡ s.at log)
    unfolding store
    same₁ = (refl, refl, refl, refl, refl, refl, refl, refl, refl)

    like₁ : (j : ℕ) → j < m → Like (edge_now s₁ j) (killed j)
    like₁ j h = ⊎_elim
        (λ w. subst (λ (i : ℕ). Like (edge_now s₁ i) (killed i)) (sym w) (like_dead _ _ (now_live s₁ e ∙ word_dead s₁ e dead₁) killed_gone))
        (λ w. like_at _ _ _ (kept₁ j w) (like_then _ _ _ (R.like j h) (sym (killed_else j w))))
        (eq_or_ne j e)

    -- what lives after lived before, with the same ends
    lived : (j : ℕ) → (killed j).live ≡ true → ((R.E j).live ≡ true) × (killed j ≡ R.E j)
    lived j k = ⊎_elim
        (λ w. absurd (true≢false (sym k ∙ ap (λ (i : ℕ). (killed i).live) w ∙ killed_gone)))
        (λ w. let q : killed j ≡ R.E j = killed_else j w in (sym (ap (λ (x : Edge). x.live) q) ∙ k, q))
        (eq_or_ne j e)

    -- ---- the base is stamped, and its edges stand from it
    abbrev pub s₂ : Tables
    s₂ = store stamp s₁ pl.base (past + 1)

    pub beside₂ : Alike (is stamp) s₂ s₁
    unfolding store
    beside₂ = alike_store (is stamp) stamp s₁ pl.base (past + 1) refl

    pub sound₂ : Sound m n s₂
    sound₂ = sound_store stamp m n s₁ sound₁ pl.base (past + 1) refl refl tt

    newest₁ : (x : ℕ) → get_or (s₁.at stamp) x 0 < past + 1
    newest₁ x = subst (λ (y : List ℕ). get_or y x 0 < past + 1) (sym same₁.0) (omega (arith, R.stamps x))

    circled₂ : Circled m n R.node killed s₂ R.eown R.epos R.elens
    unfolding store
    circled₂ = circled_by m n R.node killed s s₂ R.eown R.epos R.elens same₁.1 same₁.2 (circled_less m n R.node R.E killed s R.eown R.epos R.elens lived R.circled)

    proper : (j : ℕ) → j < m → (killed j).live ≡ true → (killed j).first ≡ (killed j).second → ⊥
    proper j h k w = let q : ((R.E j).live ≡ true) × (killed j ≡ R.E j) = lived j k in
        R.simple.proper (R.E j) (mem_upto R.E 0 m j (omega arith) (omega arith)) q.0 (sym (ap (λ (x : Edge). x.first) q.1) ∙ w ∙ ap (λ (x : Edge). x.second) q.1)

    like₂ : (j : ℕ) → j < m → Like (edge_now s₂ j) (turn pl.base (killed j))
    like₂ j h = go (killed j).live refl
      where
        same_live : (edge_now s₂ j).live ≡ (edge_now s₁ j).live
        same_live = let e : (edge_of s₂ j).live ≡ (edge_of s₁ j).live = unfold edge_of store in refl in now_live s₂ j ∙ e ∙ sym (now_live s₁ j)

        turn_live : (turn pl.base (killed j)).live ≡ (killed j).live
        turn_live = unfold turn turn_if in refl

        go : (u : Bool) → (killed j).live ≡ u → Like (edge_now s₂ j) (turn pl.base (killed j))
        go false u = like_dead _ _ (same_live ∙ (like₁ j h).live ∙ u) (turn_live ∙ u)
        go true u =
            let is : edge_now s₁ j ≡ killed j = (like₁ j h).whole u in
            let w : Stands s₁ j (killed j) = stands s₁ j (killed j) is u in
            let apart₁ : get_or (s₁.at first) j 0 ≡ get_or (s₁.at second) j 0 → ⊥ = λ r. proper j h u (⊎_elim (λ p. sym p.0 ∙ r ∙ p.1) (λ p. sym p.1 ∙ sym r ∙ p.0) w.ends) in
            like_of _ _ (stamp_now m n s₁ sound₁ pl.base (past + 1) base_in newest₁ j apart₁ ∙ ap (turn pl.base) is)

    -- ---- the moved node's edges go to the base
    module _ (g : ℕ) (gain : unbias g ≡ pl.gain) (g_in : g ≤ 2000) (s₃ : Tables) (counted : CountsDiffer s₃ s₂) (sound₃ : Sound m n s₃) where
      ok : Gains n pl.base pl.moved g
      ok = record { b_in = base_in; v_in = moved_in; apart = apart; g_in = g_in }

      abbrev ready : ℕ → Edge
      ready j = turn pl.base (killed j)

      S : Setting m pl.base pl.moved g prep ready
      S = setting m R.E R.number R.simple e lt l rs g gain

      -- the moved node's chain is pruned
      like₃ : (j : ℕ) → j < m → Like (edge_now s₃ j) (ready j)
      like₃ j h = like_at _ _ _ (counted_edges s₃ s₂ counted j) (like₂ j h)

      abbrev pub sₚ : Tables
      sₚ = pruned m pl.moved s₃

      pub prunedₚ : Pruned m n R.node killed s₃ sₚ
      prunedₚ = prune_is m n R.node killed pl.moved moved_in moved_leads s₃ R.eown R.epos R.elens
          (circled_by m n R.node killed s₂ s₃ R.eown R.epos R.elens (counted.tables.at enext) (counted.tables.at elen) circled₂) sound₃
          (λ j h k. live_word s₃ j (sym (now_live s₃ j) ∙ (like₃ j h).live ∙ (unfold turn turn_if in k)))

      stampₚ : sₚ.at stamp ≡ s₂.at stamp
      stampₚ = prunedₚ.same.beside.at stamp ∙ counted.tables.at stamp

      middleₚ : Middle m pl.base pl.moved prep ready (sₚ.at enext) (sₚ.at elen) (sₚ.at stamp) (λ j. false) sₚ
      middleₚ = begin m pl.base pl.moved g prep ready S sₚ (λ j h. like_at _ _ _ (same_edges sₚ s₃ prunedₚ.same j) (like₃ j h))

      abbrev pub s₄ : Tables
      s₄ = moved_all m pl.base pl.moved g sₚ

      pub sound₄ : Sound m n s₄
      sound₄ = sound_moved_all m n pl.base pl.moved g sₚ ok prunedₚ.sound

      frame₄ : Frame s₄ sₚ
      frame₄ = frame_moved_all m pl.base pl.moved g sₚ

      -- the tables of regions
      pub beside₄ : (s₄.at rnext ≡ s₃.at rnext) × (s₄.at size ≡ s₃.at size) × (s₄.at rlen ≡ s₃.at rlen) × (s₄.at count ≡ s₃.at count) × (s₄.at mark ≡ s₃.at mark) × (s₄.at log ≡ s₃.at log)
      beside₄ = let p = prunedₚ.same.beside in (frame₄.at rnext ∙ p.at rnext, frame₄.at size ∙ p.at size, frame₄.at rlen ∙ p.at rlen, frame₄.at count ∙ p.at count, frame₄.at mark ∙ p.at mark, frame₄.at log ∙ p.at log)

      -- owners, places and lengths in the chains of slots
      abbrev pub o₄ : ℕ → ℕ
      o₄ = prunedₚ.o

      abbrev pub q₄ : ℕ → ℕ
      q₄ = prunedₚ.q

      abbrev pub l₄ : ℕ → ℕ
      l₄ = prunedₚ.l

      pub circled₄ : Circled m n R.node killed s₄ o₄ q₄ l₄
      circled₄ = circled_by m n R.node killed sₚ s₄ o₄ q₄ l₄ (frame₄.at enext) (frame₄.at elen) prunedₚ.circled

      -- an end of an edge before is one of the edge as prepared
      ended : (j x : ℕ) → ((prep j).first ≡ x) ⊎ ((prep j).second ≡ x) → ((killed j).first ≡ x) ⊎ ((killed j).second ≡ x)
      ended j x d = go d (prep_ends pl (R.E j))
        where
          go : ((prep j).first ≡ x) ⊎ ((prep j).second ≡ x) → (((prep j).first ≡ (R.E j).first) × ((prep j).second ≡ (R.E j).second)) ⊎ (((prep j).second ≡ (R.E j).first) × ((prep j).first ≡ (R.E j).second)) → ((killed j).first ≡ x) ⊎ ((killed j).second ≡ x)
          go (inl w) (inl p) = inl ((kill_ends pl (R.E j)).0 ∙ sym p.0 ∙ w)
          go (inl w) (inr p) = inr ((kill_ends pl (R.E j)).1 ∙ sym p.1 ∙ w)
          go (inr w) (inl p) = inr ((kill_ends pl (R.E j)).1 ∙ sym p.1 ∙ w)
          go (inr w) (inr p) = inl ((kill_ends pl (R.E j)).0 ∙ sym p.0 ∙ w)

      -- the ends of live edges lead their regions
      leads : (j x : ℕ) → j < m → (killed j).live ≡ true → ((killed j).first ≡ x) ⊎ ((killed j).second ≡ x) → (x < n) × (R.node x ≡ x)
      leads j x h k d =
          let q : ((R.E j).live ≡ true) × (killed j ≡ R.E j) = lived j k in
          ⊎_elim
          (λ w. subst (λ (y : ℕ). (y < n) × (R.node y ≡ y)) (sym (ap (λ (z : Edge). z.first) q.1) ∙ w) ((ends_in j h q.0).0, (R.leading j h q.0).0))
          (λ w. subst (λ (y : ℕ). (y < n) × (R.node y ≡ y)) (sym (ap (λ (z : Edge). z.second) q.1) ∙ w) ((ends_in j h q.0).1, (R.leading j h q.0).1))
          d

      reach : (j x : ℕ) → j < m → (prep j).live ≡ true → ((prep j).first ≡ x) ⊎ ((prep j).second ≡ x) → (i : ℕ) × (i < get_or (sₚ.at elen) x 0 - 1) × (cur (sₚ.at enext) (get_or (sₚ.at enext) (2 * m + x) 0) i / 2 ≡ j)
      reach j x h k d =
          let kl : (killed j).live ≡ true = sym (prep_live pl (R.E j)) ∙ k in
          let y : (x < n) × (R.node x ≡ x) = leads j x h kl (ended j x d) in
          met m n R.node killed sₚ o₄ q₄ l₄ prunedₚ.circled j x y.0 y.1 (at_end m o₄ j (killed j) x h (prunedₚ.circled.ends j h kl) (ended j x d))

      grounds : Grounds m pl.base prep (sₚ.at enext) (sₚ.at elen) (sₚ.at stamp)
      grounds = record {
        reach = reach;
        newest = λ x w. subst (λ (y : List ℕ). get_or y x 0 < get_or y pl.base 0) (sym stampₚ) (stamp_newest m n s₁ sound₁ pl.base (past + 1) base_in newest₁ x w);
      }

      walked : Walked m pl.base pl.moved g prep ready S (sₚ.at enext) (sₚ.at elen) (sₚ.at stamp) grounds s₄ (λ j. false) (get_or (sₚ.at enext) (2 * m + pl.moved) 0) (get_or (sₚ.at elen) pl.moved 0 - 1)
      unfolding moved_all
      walked = walk m pl.base pl.moved g prep ready S (sₚ.at enext) (sₚ.at elen) (sₚ.at stamp) grounds n ok (get_or (sₚ.at elen) pl.moved 0 - 1) sₚ prunedₚ.sound (λ j. false) middleₚ (get_or (sₚ.at enext) (2 * m + pl.moved) 0)

      all_done : (j : ℕ) → j < m → (prep j).live ≡ true → (prep j).first ≡ pl.moved → walked.done' j ≡ true
      all_done j h k w =
          let u : (i : ℕ) × (i < get_or (sₚ.at elen) pl.moved 0 - 1) × (cur (sₚ.at enext) (get_or (sₚ.at enext) (2 * m + pl.moved) 0) i / 2 ≡ j) = reach j pl.moved h k (inl w) in
          ap walked.done' (sym u.2) ∙ walked.seen u.0 u.1 (subst (λ (y : ℕ). y < m) (sym u.2) h)
          (ap (λ (y : ℕ). (prep y).live) u.2 ∙ k) (ap (λ (y : ℕ). (prep y).first) u.2 ∙ w)

      pub like₄ : (j : ℕ) → j < m → Like (edge_now s₄ j) (combine (map prep (upto m 0)) pl.base pl.moved (prep j))
      like₄ = finish m pl.base pl.moved g prep ready S (sₚ.at enext) (sₚ.at elen) (sₚ.at stamp) s₄ walked.done' walked.middle all_done

      pub stamps₄ : (x : ℕ) → get_or (s₄.at stamp) x 0 ≤ past + 1
      stamps₄ x = subst (λ (y : List ℕ). get_or y x 0 ≤ past + 1) (sym (frame₄.at stamp ∙ stampₚ)) (stamp_most m n s₁ sound₁ pl.base (past + 1) base_in newest₁ x)

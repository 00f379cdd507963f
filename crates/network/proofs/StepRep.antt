-- A merge of the code keeps the invariant and is the network's step. Assumes nothing.
use mathlib.Core.Path.{◌≡◌, refl, sym, ap, ◌∙◌, subst}
use mathlib.Core.Logic.{◌⊎◌, inl, inr, ⊎_elim}
use mathlib.Core.Bool.{Bool, true, false, ◌&&◌, cond}
use mathlib.Core.List.{List, map, map-map}
use mathlib.Core.Option.{Option, none, some}
use Prim.Native.Nat.{ℕ, ◌+◌, ◌*◌, ◌-◌, ◌≤◌, ◌<◌, ◌^◌}
use native.Mathlib.Omega.{arith}
use lib.IntN.{ℤ, ◌+ℤ◌}
use lib.ListN.{length, get_or, set}
use Rattle.network.specs.Network.{Edge, Region, State, Plan, Link, size_of, at, plan, kill, prepare, find, absorb, hand, combine, join_all, merge_edges, move, merge, step_to, step, raised, bounded, gates_of}
use Rattle.network.proofs.Restrict.{prepare_num, combine_num}
use Rattle.network.proofs.Ends.{combine_live}
use Rattle.network.proofs.Choice.{size_base}
use Rattle.network.proofs.SimpleLaws.{OtherEnds, step_simple}
use Rattle.merge.specs.Inside.Tables.{Tables, Sound, store}
use Rattle.merge.specs.Inside.Table.{weight, enext, rnext, stamp, size, elen, rlen, count, mark, log}
use Rattle.merge.specs.Inside.Steps.{unbias, count_in_range, walk_raise, pruned, moved_all, handed, then, merged}
use Rattle.network.specs.Inside.Net.{region_of}
use Rattle.merge.specs.Inside.Chain.{cur, Chains, own_joined, pos_joined, len_joined}
use Rattle.network.specs.Inside.Rep.{Rep, Circled, Ends}
use Rattle.merge.proofs.SoundSet.{eq_or_ne}
use Rattle.network.proofs.TableEdges.{like_at}
use Rattle.network.proofs.Moved.{same_no, same_yes}
use Rattle.merge.proofs.Counts.{Gained, Gives, raise}
use Rattle.network.proofs.Sums.{accepts_is, accepted_sum, size_else, gates_move}
use Rattle.network.proofs.After.{swap, swapped, chains_len, after, after_edges, after_stamp, after_count, after_mark, after_log, after_rnext, after_enext, after_size, after_elen, after_rlen, sound_after, sum_there, all_yes, all_no}
use Rattle.network.proofs.Prepared.{at_upto, setting}
use Rattle.network.proofs.StepEdges.{prep_ends, prep_live, base_in, moved_in, base_leads, moved_leads, apart, beside₂, sound₂, same₁, beside₄, o₄, q₄, l₄, circled₄, sound₄, like₄, stamps₄}
use lib.Dec.{eqb}
use borrow.Author.Tests.{eqb-true}
use Rattle.lists.specs.Seq.{all, upto}
use Rattle.lists.proofs.SeqLaws.{map-upto_same}
use Rattle.network.specs.Inside.Simple.{Simple}

-- a node's new name
abbrev to : ℕ → ℕ → ℕ → ℕ
to b v x = cond (eqb v x) b x

to_moved : (b v x : ℕ) → x ≡ v → to b v x ≡ b
to_moved b v x e = rw (same_yes v x (sym e)) refl

to_else : (b v x : ℕ) → (x ≡ v → ⊥) → to b v x ≡ x
to_else b v x h = rw (same_no v x (λ e. h (sym e))) refl

-- the ends of an edge after the nodes are joined
combine_ends : (es : List Edge) (b v : ℕ) (e : Edge) → (e.second ≡ v → ⊥) → ((combine es b v e).first ≡ to b v e.first) × ((combine es b v e).second ≡ to b v e.second)
unfolding combine absorb hand
combine_ends es b v e ns = go (eqb b e.first) refl (eqb v e.first) refl (find es v e.second)
  where
    ts : e.second ≡ to b v e.second
    ts = sym (to_else b v e.second ns)

    base_to : e.first ≡ b → e.first ≡ to b v e.first
    base_to w = ⊎_elim (λ q. w ∙ sym (to_moved b v e.first q)) (λ q. sym (to_else b v e.first q)) (eq_or_ne e.first v)

    go : (x : Bool) → eqb b e.first ≡ x → (y : Bool) → eqb v e.first ≡ y → (o : Option Link)
        → ((cond x (absorb o e) (cond y (hand b (find es b e.second) e) e)).first ≡ cond (eqb v e.first) b e.first) × ((cond x (absorb o e) (cond y (hand b (find es b e.second) e) e)).second ≡ to b v e.second)
    go true xe y ye none = (base_to (sym (eqb-true b e.first xe)), ts)
    go true xe y ye (some g) = (base_to (sym (eqb-true b e.first xe)), ts)
    go false xe true ye o = (rw ye refl, ts)
    go false xe false ye o = (rw ye refl, ts)

module _ (m n : ℕ) (gates : ℕ → ℕ) (past : ℕ) (s : Tables) (t : State) (R : Rep m n gates past s t) (e : ℕ) (lt : e < m) (l : (R.E e).live ≡ true) where
  abbrev rs : List Region
  rs = map (region_of gates R.node s) (upto n 0)

  abbrev pl : Plan
  pl = plan rs (R.E e)

  abbrev b : ℕ
  b = pl.base

  abbrev v : ℕ
  v = pl.moved

  abbrev prep : ℕ → Edge
  prep j = prepare pl (R.E j)

  abbrev E' : ℕ → Edge
  E' j = combine (map prep (upto m 0)) b v (prep j)

  abbrev node' : ℕ → ℕ
  node' = own_joined R.node b v

  abbrev s₂ : Tables
  s₂ = store stamp (store weight s e 0) b (past + 1)

  hb : b < n
  hb = base_in m n gates past s t R e lt l

  hv : v < n
  hv = moved_in m n gates past s t R e lt l

  lb : R.node b ≡ b
  lb = base_leads m n gates past s t R e lt l

  lv : R.node v ≡ v
  lv = moved_leads m n gates past s t R e lt l

  ne : b ≡ v → ⊥
  ne = apart m n gates past s t R e lt l

  rnext₂ : s₂.at rnext ≡ s.at rnext
  rnext₂ = (beside₂ m n gates past s t R e lt l).at rnext ∙ (same₁ m n gates past s t R e lt l).3

  count₂ : s₂.at count ≡ s.at count
  count₂ = (beside₂ m n gates past s t R e lt l).at count ∙ (same₁ m n gates past s t R e lt l).6

  node_moved : (x : ℕ) → R.node x ≡ v → node' x ≡ b
  unfolding own_joined
  node_moved x q = to_moved b v (R.node x) q

  node_else : (x : ℕ) → (R.node x ≡ v → ⊥) → node' x ≡ R.node x
  unfolding own_joined
  node_else x q = to_else b v (R.node x) q

  -- ---- the network's step
  merges : step t e ≡ merge pl t
  unfolding step step_to
  merges =
      let f : at t.edges e ≡ some (R.E e) = ap (λ (x : List Edge). at x e) R.edges ∙ at_upto R.E R.number 0 m e (omega arith) (omega arith) l in
      ap (λ (o : Option Edge). step_to o t) f ∙ ap (λ (x : List Region). merge (plan x (R.E e)) t) R.regions

  edges' : (step t e).edges ≡ map E' (upto m 0)
  unfolding merge merge_edges join_all
  edges' =
      ap (λ (x : State). x.edges) merges ∙ ap (merge_edges pl) R.edges
      ∙ ap (λ (x : List Edge). map (combine x b v) x) (map-map (prepare pl) R.E (upto m 0)) ∙ map-map (combine (map prep (upto m 0)) b v) prep (upto m 0)

  -- ---- the counts
  module _ (g : ℕ) (gain : unbias g ≡ pl.gain) (g_in : g ≤ 2000) (s₃ : Tables) (G : Gained g (s.at rnext) v (get_or (s.at rlen) v 0) n s₂ s₃) where
    abbrev s₄ : Tables
    s₄ = moved_all m b v g (pruned m v s₃)

    abbrev s₆ : Tables
    s₆ = after m b v s₄

    sound₃ : Sound m n s₃
    sound₃ = G.sound m (sound₂ m n gates past s t R e lt l)

    still₄ : (s₄.at rnext ≡ s₃.at rnext) × (s₄.at size ≡ s₃.at size) × (s₄.at rlen ≡ s₃.at rlen) × (s₄.at count ≡ s₃.at count) × (s₄.at mark ≡ s₃.at mark) × (s₄.at log ≡ s₃.at log)
    still₄ = beside₄ m n gates past s t R e lt l g gain g_in s₃ G.else sound₃

    rnext₄ : s₄.at rnext ≡ s.at rnext
    rnext₄ = still₄.0 ∙ G.else.tables.at rnext ∙ rnext₂

    size₄ : s₄.at size ≡ s.at size
    size₄ = still₄.1 ∙ G.else.tables.at size ∙ (beside₂ m n gates past s t R e lt l).at size ∙ (same₁ m n gates past s t R e lt l).5

    rlen₄ : s₄.at rlen ≡ s.at rlen
    rlen₄ = still₄.2 ∙ G.else.tables.at rlen ∙ (beside₂ m n gates past s t R e lt l).at rlen ∙ (same₁ m n gates past s t R e lt l).4

    count₆ : s₆.at count ≡ s₃.at count
    count₆ = after_count m b v s₄ ∙ still₄.3

    -- the merge itself leaves the marks and the log
    mark₆ : s₆.at mark ≡ s.at mark
    mark₆ = after_mark m b v s₄ ∙ still₄.4 ∙ G.else.tables.at mark ∙ (beside₂ m n gates past s t R e lt l).at mark ∙ (same₁ m n gates past s t R e lt l).7

    log₆ : s₆.at log ≡ s.at log
    log₆ = after_log m b v s₄ ∙ still₄.5 ∙ G.else.tables.at log ∙ (beside₂ m n gates past s t R e lt l).at log ∙ (same₁ m n gates past s t R e lt l).8

    -- a region of the moved node stands in its chain
    moved_count : (r : ℕ) → r < n → R.node r ≡ v → (count_in_range (get_or (s.at count) r 0 + g) ≡ true) × (get_or (s₃.at count) r 0 ≡ get_or (s.at count) r 0 + g - 1000)
    moved_count r h w =
        let i : ℕ = R.rpos r in
        let at_r : cur (s.at rnext) v i ≡ r = ap (λ (x : ℕ). cur (s.at rnext) x i) (sym w) ∙ R.rchains.at r h in
        let p : i < get_or (s.at rlen) v 0 = subst (λ (x : ℕ). i < get_or (s.at rlen) x 0) w (R.rchains.here r h) in
        let c : get_or (s₂.at count) (cur (s.at rnext) v i) 0 ≡ get_or (s.at count) r 0 = ap (λ (x : List ℕ). get_or x (cur (s.at rnext) v i) 0) count₂ ∙ ap (λ (x : ℕ). get_or (s.at count) x 0) at_r in
        (ap (λ (x : ℕ). count_in_range (x + g)) (sym c) ∙ G.yes i p, ap (λ (x : ℕ). get_or (s₃.at count) x 0) (sym at_r) ∙ G.here i p ∙ ap (λ (x : ℕ). x + g - 1000) c)

    other_count : (r : ℕ) → (R.node r ≡ v → ⊥) → get_or (s₃.at count) r 0 ≡ get_or (s.at count) r 0
    other_count r w =
        G.there r (λ i p q. w (ap R.node q ∙ R.rchains.owned v i hv lv p)) ∙ ap (λ (x : List ℕ). get_or x r 0) count₂

    region' : (r : ℕ) → r < n → move pl (region_of gates R.node s r) ≡ region_of gates node' s₆ r
    unfolding move region_of own_joined
    region' r h = ⊎_elim mine other (eq_or_ne (R.node r) v)
      where
        c₆ : get_or (s₆.at count) r 0 ≡ get_or (s₃.at count) r 0
        c₆ = ap (λ (x : List ℕ). get_or x r 0) count₆

        mine : R.node r ≡ v → move pl (region_of gates R.node s r) ≡ region_of gates node' s₆ r
        mine w =
            let q : (count_in_range (get_or (s.at count) r 0 + g) ≡ true) × (get_or (s₃.at count) r 0 ≡ get_or (s.at count) r 0 + g - 1000) = moved_count r h w in
            let yes : eqb v (R.node r) ≡ true = same_yes v (R.node r) (sym w) in
            let c : cond (eqb v (R.node r)) (unbias (get_or (s.at count) r 0) +ℤ pl.gain) (unbias (get_or (s.at count) r 0)) ≡ unbias (get_or (s₆.at count) r 0) =
            ap (λ (x : Bool). cond x (unbias (get_or (s.at count) r 0) +ℤ pl.gain) (unbias (get_or (s.at count) r 0))) yes ∙ ap (λ (z : ℤ). unbias (get_or (s.at count) r 0) +ℤ z) (sym gain)
            ∙ sym (accepted_sum (get_or (s.at count) r 0) g q.0) ∙ ap unbias (sym q.1) ∙ ap unbias (sym c₆) in
            λ i. record { label = r; size = gates r; node = cond (eqb v (R.node r)) b (R.node r); count = c i }

        other : (R.node r ≡ v → ⊥) → move pl (region_of gates R.node s r) ≡ region_of gates node' s₆ r
        other w =
            let no : eqb v (R.node r) ≡ false = same_no v (R.node r) (λ q. w (sym q)) in
            let c : cond (eqb v (R.node r)) (unbias (get_or (s.at count) r 0) +ℤ pl.gain) (unbias (get_or (s.at count) r 0)) ≡ unbias (get_or (s₆.at count) r 0) =
            ap (λ (x : Bool). cond x (unbias (get_or (s.at count) r 0) +ℤ pl.gain) (unbias (get_or (s.at count) r 0))) no ∙ ap unbias (sym (other_count r w)) ∙ ap unbias (sym c₆) in
            λ i. record { label = r; size = gates r; node = cond (eqb v (R.node r)) b (R.node r); count = c i }

    moved_regions : map (move pl) rs ≡ map (region_of gates node' s₆) (upto n 0)
    moved_regions = map-map (move pl) (region_of gates R.node s) (upto n 0) ∙ map-upto_same (λ r. move pl (region_of gates R.node s r)) (region_of gates node' s₆) n 0 (λ r p q. region' r (omega arith))

    regions' : (step t e).regions ≡ map (region_of gates node' s₆) (upto n 0)
    unfolding merge
    regions' = ap (λ (x : State). x.regions) merges ∙ ap (map (move pl)) R.regions ∙ moved_regions

    -- ---- the chains
    rchains' : Chains (s₆.at rnext) n node' (pos_joined R.node R.rpos (λ x. get_or (s.at rlen) x 0) b v) (λ x. get_or (s₆.at rlen) x 0)
    unfolding len_joined
    rchains' = subst (λ (N : List ℕ). Chains N n node' (pos_joined R.node R.rpos (λ x. get_or (s.at rlen) x 0) b v) (λ x. get_or (s₆.at rlen) x 0)) (sym (after_rnext m b v s₄ ∙ ap (λ (N : List ℕ). swap N b v) rnext₄))
        (chains_len (swap (s.at rnext) b v) n node' (pos_joined R.node R.rpos (λ x. get_or (s.at rlen) x 0) b v) (len_joined (λ x. get_or (s.at rlen) x 0) b v) (λ x. get_or (s₆.at rlen) x 0)
        (swapped (s.at rnext) n R.node R.rpos (λ x. get_or (s.at rlen) x 0) R.rchains (R.sound.lengths rnext) b v hb hv lb lv ne)
        (λ h p o. sym (ap (λ (y : List ℕ). get_or y h 0) (after_rlen m b v s₄ ∙ ap (λ (y : List ℕ). set y b (get_or y b 0 + get_or y v 0)) rlen₄) ∙ sum_there (s.at rlen) n b v h (R.sound.lengths rlen) hb)))

    -- owners, places and lengths in the chains of slots, before they are joined
    abbrev o : ℕ → ℕ
    o = o₄ m n gates past s t R e lt l g gain g_in s₃ G.else sound₃

    abbrev q : ℕ → ℕ
    q = q₄ m n gates past s t R e lt l g gain g_in s₃ G.else sound₃

    abbrev len : ℕ → ℕ
    len = l₄ m n gates past s t R e lt l g gain g_in s₃ G.else sound₃

    abbrev killed : ℕ → Edge
    killed j = kill pl.edge (R.E j)

    C : Circled m n R.node killed s₄ o q len
    C = circled₄ m n gates past s t R e lt l g gain g_in s₃ G.else sound₃

    abbrev eown' : ℕ → ℕ
    eown' = own_joined o (2 * m + b) (2 * m + v)

    -- owners by node
    eown_to : (i x : ℕ) → o i ≡ 2 * m + x → eown' i ≡ 2 * m + to b v x
    unfolding own_joined
    eown_to i x w = ⊎_elim
        (λ q. let y : eqb (2 * m + v) (o i) ≡ true = same_yes (2 * m + v) (o i) (sym (w ∙ ap (λ (z : ℕ). 2 * m + z) q)) in
        ap (λ (z : Bool). cond z (2 * m + b) (o i)) y ∙ ap (λ (z : ℕ). 2 * m + z) (sym (to_moved b v x q)))
        (λ q. let y : eqb (2 * m + v) (o i) ≡ false = same_no (2 * m + v) (o i) (λ z. q (omega arith)) in
        ap (λ (z : Bool). cond z (2 * m + b) (o i)) y ∙ w ∙ ap (λ (z : ℕ). 2 * m + z) (sym (to_else b v x q)))
        (eq_or_ne x v)

    echains' : Chains (s₆.at enext) (2 * m + n) eown' (pos_joined o q len (2 * m + b) (2 * m + v)) (len_joined len (2 * m + b) (2 * m + v))
    echains' = subst (λ (N : List ℕ). Chains N (2 * m + n) eown' (pos_joined o q len (2 * m + b) (2 * m + v)) (len_joined len (2 * m + b) (2 * m + v))) (sym (after_enext m b v s₄))
        (swapped (s₄.at enext) (2 * m + n) o q len C.echains ((sound₄ m n gates past s t R e lt l g gain g_in s₃ G.else sound₃).lengths enext) (2 * m + b) (2 * m + v) (omega (arith, hb)) (omega (arith, hv)) (C.header b hb lb) (C.header v hv lv) (λ w. ne (omega arith)))

    -- a node that leads afterwards led before, and is not the moved node
    was_leader : (x : ℕ) → node' x ≡ x → (R.node x ≡ x) × (x ≡ v → ⊥)
    was_leader x w = ⊎_elim
        (λ r. let z : x ≡ b = sym w ∙ node_moved x r in absurd (ne (sym lb ∙ ap R.node (sym z) ∙ r)))
        (λ r. let z : R.node x ≡ x = sym (node_else x r) ∙ w in (z, λ y. r (z ∙ y)))
        (eq_or_ne (R.node x) v)

    header' : (x : ℕ) → x < n → node' x ≡ x → eown' (2 * m + x) ≡ 2 * m + x
    header' x h w = eown_to (2 * m + x) x (C.header x h (was_leader x w).0) ∙ ap (λ (y : ℕ). 2 * m + y) (to_else b v x (was_leader x w).1)

    lengths' : (x : ℕ) → x < n → node' x ≡ x → len_joined len (2 * m + b) (2 * m + v) (2 * m + x) ≡ get_or (s₆.at elen) x 0
    unfolding len_joined
    lengths' x h w = ⊎_elim here there (eq_or_ne x b) ∙ sym (ap (λ (y : List ℕ). get_or y x 0) (after_elen m b v s₄) ∙ sum_there (s₄.at elen) n b v x ((sound₄ m n gates past s t R e lt l g gain g_in s₃ G.else sound₃).lengths elen) hb)
      where
        here : x ≡ b → cond (eqb (2 * m + b) (2 * m + x)) (len (2 * m + b) + len (2 * m + v)) (len (2 * m + x)) ≡ cond (eqb b x) (get_or (s₄.at elen) b 0 + get_or (s₄.at elen) v 0) (get_or (s₄.at elen) x 0)
        here z = rw (same_yes (2 * m + b) (2 * m + x) (omega arith), same_yes b x (sym z)) (ap (λ (y : ℕ). y + len (2 * m + v)) (C.lengths b hb lb) ∙ ap (λ (y : ℕ). get_or (s₄.at elen) b 0 + y) (C.lengths v hv lv))

        there : (x ≡ b → ⊥) → cond (eqb (2 * m + b) (2 * m + x)) (len (2 * m + b) + len (2 * m + v)) (len (2 * m + x)) ≡ cond (eqb b x) (get_or (s₄.at elen) b 0 + get_or (s₄.at elen) v 0) (get_or (s₄.at elen) x 0)
        there z = rw (same_no (2 * m + b) (2 * m + x) (λ y. z (omega arith)), same_no b x (λ y. z (sym y))) (C.lengths x h (was_leader x w).0)

    -- ---- the edges
    prepared_second : (j : ℕ) → j < m → (prep j).live ≡ true → OtherEnds b v (prep j)
    prepared_second j h k = (setting m R.E R.number R.simple e lt l rs g gain).turned j h k

    lived : (j : ℕ) → (E' j).live ≡ true → (prep j).live ≡ true
    lived j k = combine_live (map prep (upto m 0)) b v (prep j) k

    was_live : (j : ℕ) → (prep j).live ≡ true → (R.E j).live ≡ true
    was_live j k = unfold kill in left (R.E j).live _ (sym (prep_live pl (R.E j)) ∙ k)
      where
        left : (x y : Bool) → (x && y) ≡ true → x ≡ true
        left true y h = refl
        left false y h = h

    ends' : (j : ℕ) → j < m → (E' j).live ≡ true → Ends m eown' j (E' j)
    unfolding kill
    ends' j h k = go (prep_ends pl (R.E j)) (C.ends j h (sym (prep_live pl (R.E j)) ∙ lived j k))
      where
        c : ((E' j).first ≡ to b v (prep j).first) × ((E' j).second ≡ to b v (prep j).second)
        c = combine_ends (map prep (upto m 0)) b v (prep j) (prepared_second j h (lived j k)).1

        slot_to : (i x y : ℕ) → o i ≡ 2 * m + x → y ≡ to b v x → eown' i ≡ 2 * m + y
        slot_to i x y p q = eown_to i x p ∙ ap (λ (z : ℕ). 2 * m + z) (sym q)

        go : (((prep j).first ≡ (R.E j).first) × ((prep j).second ≡ (R.E j).second)) ⊎ (((prep j).second ≡ (R.E j).first) × ((prep j).first ≡ (R.E j).second)) → Ends m o j (R.E j) → Ends m eown' j (E' j)
        go (inl p) (inl q) = inl (slot_to _ _ _ q.0 (c.0 ∙ ap (to b v) p.0), slot_to _ _ _ q.1 (c.1 ∙ ap (to b v) p.1))
        go (inl p) (inr q) = inr (slot_to _ _ _ q.0 (c.1 ∙ ap (to b v) p.1), slot_to _ _ _ q.1 (c.0 ∙ ap (to b v) p.0))
        go (inr p) (inl q) = inr (slot_to _ _ _ q.0 (c.1 ∙ ap (to b v) p.0), slot_to _ _ _ q.1 (c.0 ∙ ap (to b v) p.1))
        go (inr p) (inr q) = inl (slot_to _ _ _ q.0 (c.0 ∙ ap (to b v) p.1), slot_to _ _ _ q.1 (c.1 ∙ ap (to b v) p.0))

    -- a leader's new name leads
    leads_to : (x : ℕ) → R.node x ≡ x → node' (to b v x) ≡ to b v x
    leads_to x w = ⊎_elim
        (λ z. subst (λ (y : ℕ). node' y ≡ y) (sym (to_moved b v x z)) (node_else b (λ y. ne (sym lb ∙ y)) ∙ lb))
        (λ z. subst (λ (y : ℕ). node' y ≡ y) (sym (to_else b v x z)) (node_else x (λ y. z (sym w ∙ y)) ∙ w))
        (eq_or_ne x v)

    leading' : (j : ℕ) → j < m → (E' j).live ≡ true → (node' (E' j).first ≡ (E' j).first) × (node' (E' j).second ≡ (E' j).second)
    leading' j h k = go (prep_ends pl (R.E j)) (R.leading j h (was_live j (lived j k)))
      where
        c : ((E' j).first ≡ to b v (prep j).first) × ((E' j).second ≡ to b v (prep j).second)
        c = combine_ends (map prep (upto m 0)) b v (prep j) (prepared_second j h (lived j k)).1

        end_to : (x y z : ℕ) → z ≡ to b v x → x ≡ y → R.node y ≡ y → node' z ≡ z
        end_to x y z p q w = subst (λ (i : ℕ). node' i ≡ i) (sym (p ∙ ap (to b v) q)) (leads_to y w)

        go : (((prep j).first ≡ (R.E j).first) × ((prep j).second ≡ (R.E j).second)) ⊎ (((prep j).second ≡ (R.E j).first) × ((prep j).first ≡ (R.E j).second)) → (R.node (R.E j).first ≡ (R.E j).first) × (R.node (R.E j).second ≡ (R.E j).second)
            → (node' (E' j).first ≡ (E' j).first) × (node' (E' j).second ≡ (E' j).second)
        go (inl p) w = (end_to _ _ _ c.0 p.0 w.0, end_to _ _ _ c.1 p.1 w.1)
        go (inr p) w = (end_to _ _ _ c.0 p.1 w.1, end_to _ _ _ c.1 p.0 w.0)

    stamps' : (x : ℕ) → get_or (s₆.at stamp) x 0 ≤ past + 1
    stamps' x = subst (λ (y : List ℕ). get_or y x 0 ≤ past + 1) (sym (after_stamp m b v s₄)) (stamps₄ m n gates past s t R e lt l g gain g_in s₃ G.else sound₃ x)

    -- ---- the sizes
    sizes' : (x : ℕ) → x < n → node' x ≡ x → get_or (s₆.at size) x 0 ≡ size_of (map (region_of gates node' s₆) (upto n 0)) x
    sizes' x h w =
        ap (λ (y : List ℕ). get_or y x 0) (after_size m b v s₄ ∙ ap (λ (y : List ℕ). set y b (get_or y b 0 + get_or y v 0)) size₄) ∙ sum_there (s.at size) n b v x (R.sound.lengths size) hb
        ∙ ⊎_elim grown kept (eq_or_ne x b) ∙ ap (λ (y : List Region). size_of y x) moved_regions
      where
        grown : x ≡ b → cond (eqb b x) (get_or (s.at size) b 0 + get_or (s.at size) v 0) (get_or (s.at size) x 0) ≡ size_of (map (move pl) rs) x
        grown q =
            ap (λ (y : Bool). cond y (get_or (s.at size) b 0 + get_or (s.at size) v 0) (get_or (s.at size) x 0)) (same_yes b x (sym q))
            ∙ ap (λ (y : ℕ). y + get_or (s.at size) v 0) (R.sizes b hb lb) ∙ ap (λ (y : ℕ). size_of rs b + y) (R.sizes v hv lv) ∙ sym (size_base pl (same_no b v ne) rs) ∙ ap (size_of (map (move pl) rs)) (sym q)

        kept : (x ≡ b → ⊥) → cond (eqb b x) (get_or (s.at size) b 0 + get_or (s.at size) v 0) (get_or (s.at size) x 0) ≡ size_of (map (move pl) rs) x
        kept q = ⊎_elim
            (λ r. absurd (q (sym w ∙ node_moved x r)))
            (λ r. let o : R.node x ≡ x = sym (node_else x r) ∙ w in
            ap (λ (y : Bool). cond y (get_or (s.at size) b 0 + get_or (s.at size) v 0) (get_or (s.at size) x 0)) (same_no b x (λ z. q (sym z)))
            ∙ R.sizes x h o ∙ sym (size_else pl x q (λ z. r (o ∙ z)) rs))
            (eq_or_ne (R.node x) v)

    pub rep' : Rep m n gates (past + 1) s₆ (step t e)
    rep' = record {
      E = E';
      node = node';
      rpos = pos_joined R.node R.rpos (λ x. get_or (s.at rlen) x 0) b v;
      eown = eown';
      epos = pos_joined o q len (2 * m + b) (2 * m + v);
      elens = len_joined len (2 * m + b) (2 * m + v);
      edges = edges';
      regions = regions';
      number = λ j. combine_num (map prep (upto m 0)) b v (prep j) ∙ prepare_num pl (R.E j) ∙ R.number j;
      simple = subst (λ (x : List Edge). Simple x) edges' (step_simple t e (subst (λ (x : List Edge). Simple x) (sym R.edges) R.simple));
      light = subst (λ (x : ℕ). x < 2 ^ 31) (sym (gates_move pl rs) ∙ ap gates_of moved_regions) R.light;
      sound = sound_after m b v s₄ n hb hv (sound₄ m n gates past s t R e lt l g gain g_in s₃ G.else sound₃);
      small = R.small;
      like = λ j h. like_at _ _ _ (after_edges m b v s₄ j) (like₄ m n gates past s t R e lt l g gain g_in s₃ G.else sound₃ j h);
      sizes = sizes';
      rchains = rchains';
      circled = record { echains = echains'; header = header'; lengths = lengths'; ends = ends' };
      leading = leading';
      stamps = stamps';
    }

    yes' : all (bounded 1000) (raised pl.gain rs v) ≡ true
    yes' = all_yes (region_of gates R.node s) pl.gain v 0 n
        (λ r p q w. ap (λ (z : ℤ). bounded 1000 ((region_of gates R.node s r).count +ℤ z)) (sym gain)
        ∙ (unfold region_of in sym (accepts_is (get_or (s.at count) r 0) g) ∙ (moved_count r (omega arith) w).0))

  -- ---- the whole merge
  unfoldable pub MergeIs : Option Tables → Type 0
  MergeIs none = all (bounded 1000) (raised pl.gain rs v) ≡ false
  MergeIs (some s') = (all (bounded 1000) (raised pl.gain rs v) ≡ true) × Rep m n gates (past + 1) s' (step t e) × (s'.at mark ≡ s.at mark) × (s'.at log ≡ s.at log)

  pub merge_is : (g : ℕ) → unbias g ≡ pl.gain → g ≤ 2000 → MergeIs (merged m (past + 1) e b v g s)
  unfolding MergeIs merged then handed Gives
  merge_is g gain g_in = go (walk_raise (get_or (s.at rlen) v 0) g s₂ v)
      (raise g (s.at rnext) n (get_or (s.at rlen) v 0) v s₂ (ap length count₂ ∙ R.sound.lengths count) rnext₂ (λ i p. R.rchains.inside v i hv lv p)
      (λ i j p q r. sym (R.rchains.placed v i hv lv p) ∙ ap R.rpos r ∙ R.rchains.placed v j hv lv q))
    where
      go : (o : Option Tables) → Gives g (s.at rnext) v (get_or (s.at rlen) v 0) n s₂ o → MergeIs (then o (handed m b v g))
      go none w =
          let r : ℕ = cur (s.at rnext) v w.0 in
          all_no (region_of gates R.node s) pl.gain v 0 n r (omega arith) (omega (arith, R.rchains.inside v w.0 hv lv w.1)) (unfold region_of in R.rchains.owned v w.0 hv lv w.1)
          (ap (λ (z : ℤ). bounded 1000 ((region_of gates R.node s r).count +ℤ z)) (sym gain) ∙ (unfold region_of in sym (accepts_is (get_or (s.at count) r 0) g) ∙ ap (λ (x : List ℕ). count_in_range (get_or x r 0 + g)) (sym count₂) ∙ w.2))
      go (some s₃) w = (yes' g gain g_in s₃ w, rep' g gain g_in s₃ w, mark₆ g gain g_in s₃ w, log₆ g gain g_in s₃ w)

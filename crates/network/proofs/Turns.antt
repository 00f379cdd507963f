-- `choose_base` and `turn` over plain values. Assumes nothing.
use mathlib.Core.Path.{◌≡◌, refl, sym, ap, ◌∙◌, subst}
use mathlib.Core.Bool.{Bool, true, false, ◌&&◌, cond, true≢false}
use mathlib.Core.List.{List, map}
use mathlib.Core.Option.{Option, none, some}
use Prim.Native.Nat.{ℕ, zero, suc, ◌+◌, ◌*◌, ◌-◌, ◌≤◌, ◌<◌}
use native.Mathlib.Omega.{arith}
use lib.Dec.{eqb}
use lib.IntN.{pos, neg_ℤ}
use lib.Ieee.{nan, Float, neg, binary64, div}
use lib.ListN.{get_or}
use borrow.Author.Tests.{lt-ltb, le-ltb}
use Rattle.lists.proofs.AllLaws.{mem_upto}
use Rattle.lists.proofs.SeqLaws.{map-upto-length, map-upto_at, sum_one}
use Rattle.network.specs.Book.{entry_of, entry}
use Rattle.network.specs.Network.{Edge, Region, State, Plan, Event, size_of, at, turn_if, plan, plan_for, event_of, event, step, raised, better, choose, quotient, quot, bounded, in_range, whole, popped, marks}
use Rattle.network.proofs.Choice.{Best as Heaviest, best_chosen}
use Rattle.memory.specs.Inside.Tree.{Best}
use Rattle.merge.specs.Inside.Tables.{Tables, view, HoldsTables, Sound}
use Rattle.merge.specs.Inside.Table.{mark, log, weight, bridged, first, second, enext, rnext, size, rlen}
use Rattle.merge.specs.Inside.Steps.{unbias, turned, marked_all, mark_if, entry_words, logged, merged}
use Rattle.merge.specs.Inside.Leaves.{LeavesTables, Raised, Gains, Fit}
use Rattle.network.specs.Inside.Net.{edge_of, edge_now, region_of}
use Rattle.network.specs.Inside.Log.{Logging}
use Rattle.network.specs.Inside.Rep.{Rep}
use Rattle.network.specs.Inside.Settle.{refused, number_by, merged_by, turned_by}
use Rattle.network.specs.Inside.TurnIs.{Marking, MergeLeaves, TurnLeaves, TurnIs, Chosen, PickIs}
use Rattle.network.specs.declared.network.Turned.{Turned}
use Rattle.network.specs.declared.network.Turned.TheVariants.{Merged, Ended}
use Rattle.merge.proofs.View.{weight_at_lem, read}
use Rattle.merge.proofs.Leaf.{turned_words}
use Rattle.network.proofs.TableEdges.{word_live}
use Rattle.network.proofs.Facing.{now_live, Stands, stands}
use Rattle.network.proofs.Pigeon.{two_circles}
use Rattle.network.proofs.Sums.{size_two}
use Rattle.network.proofs.Prepared.{at_upto}
use Rattle.network.proofs.StepEdges.{ends_in}
use Rattle.network.proofs.StepRep.{MergeIs, merge_is}
use Rattle.network.proofs.LogIs.{logging_is}
use Rattle.network.proofs.Marks.{Remarked, remarked, has_member, marked_if}
use Rattle.merge.proofs.MergeDoes.{raised_ok, raised_err}
use Rattle.merge.specs.declared.merge.MergeRefused.{MergeRefused}
use Rattle.merge.specs.declared.merge.Step.{Step}
use mathlib.Core.Logic.{◌⊎◌, ⊎_elim}
use Rattle.network.proofs.NumberIs.{Numbered, number_in, number_out, opposite}
use Rattle.lists.specs.Seq.{all, upto}
use Rattle.arithmetic.specs.Rounding.{real, round_even}
use Rattle.arithmetic.specs.Doubtful.{doubtful}
use Rattle.network.specs.Inside.Popped.{Takes}
use Rattle.network.specs.declared.network.PoppedEdge.{PoppedEdge}
use Rattle.std.proofs.Common.{Some, None, Result, Ok, Err}

-- the larger node is the base, the second end's at equal sizes
abbrev pub Larger : ℕ → ℕ → List ℕ → ℕ → ℕ → ℕ → Step → Type 0
Larger m n w p q g u =
    ((get_or w (8 * m + 3 * n + q) 0 < get_or w (8 * m + 3 * n + p) 0) × (u ≡ record { base = p; moved = q; gain = g }))
    ⊎ ((get_or w (8 * m + 3 * n + p) 0 ≤ get_or w (8 * m + 3 * n + q) 0) × (u ≡ record { base = q; moved = p; gain = 2000 - g }))

-- ---- the choice
choose_dead : (E : ℕ → Edge) (k n : ℕ) → ((j : ℕ) → k ≤ j → j < k + n → (E j).live ≡ false) → choose (map E (upto n k)) ≡ none
unfolding choose better upto
choose_dead E k zero h = refl
choose_dead E k (suc n) h = ap (better (E k)) (choose_dead E (suc k) n (λ j p q. h j (omega arith) (omega arith))) ∙ (rw (h k (omega arith) (omega arith)) refl)

module _ (m n : ℕ) (gates : ℕ → ℕ) (past : ℕ) (w : List ℕ) (d : List Float) (t : State) (R : Rep m n gates past (view m n w d) t) where
  abbrev s : Tables
  s = view m n w d

  module _ (e : ℕ) (B : Best m w e) where
    pub choose_none : get_or w e 0 ≡ 0 → choose t.edges ≡ none
    choose_none z = ap choose R.edges ∙ choose_dead R.E 0 m (λ j p q. dead j (omega arith))
      where
        dead : (j : ℕ) → j < m → (R.E j).live ≡ false
        dead j h = go (R.E j).live refl
          where
            go : (x : Bool) → (R.E j).live ≡ x → x ≡ false
            go false l = refl
            go true l = let ws : Stands s j (R.E j) = stands s j (R.E j) ((R.like j h).whole l) l in absurd (ws.some (omega (arith, weight_at_lem m n w d j h, (B.beats j h).heavy)))

    module _ (live : get_or w e 0 ≡ 0 → ⊥) where
      pub best_live : (R.E e).live ≡ true
      best_live = sym (R.like e B.within).live ∙ now_live s e ∙ word_live s e (λ z. live (sym (weight_at_lem m n w d e B.within) ∙ z))

      weighs : (j : ℕ) → j < m → (R.E j).live ≡ true → get_or w j 0 ≡ (R.E j).link.weight
      weighs j h l = sym (weight_at_lem m n w d j h) ∙ (stands s j (R.E j) ((R.like j h).whole l) l).weight_is

      pub choose_some : choose t.edges ≡ some (R.E e)
      choose_some = ap choose R.edges ∙ best_chosen (R.E 0) (map R.E (upto m 0)) e heaviest ∙ ap some (row e B.within)
        where
          row : (j : ℕ) → j < m → get_or (map R.E (upto m 0)) j (R.E 0) ≡ R.E j
          row j h = let z : 0 + j ≡ j = omega arith in map-upto_at R.E m 0 j (R.E 0) h ∙ ap R.E z

          lives : (j : ℕ) → j < m → (get_or (map R.E (upto m 0)) j (R.E 0)).live ≡ true → (R.E j).live ≡ true
          lives j h l = sym (ap (λ (x : Edge). x.live) (row j h)) ∙ l

          heavy : (j : ℕ) → j < m → (R.E j).live ≡ true → (get_or (map R.E (upto m 0)) j (R.E 0)).link.weight ≡ get_or w j 0
          heavy j h l = ap (λ (x : Edge). x.link.weight) (row j h) ∙ sym (weighs j h l)

          heaviest : Heaviest (R.E 0) (map R.E (upto m 0)) e
          heaviest = record {
            within = omega (arith, map-upto-length R.E m 0, B.within);
            live = ap (λ (x : Edge). x.live) (row e B.within) ∙ best_live;
            heaviest = λ j h l. let p : j < m = omega (arith, map-upto-length R.E m 0) in omega (arith, heavy j p (lives j p l), heavy e B.within best_live, (B.beats j p).heavy);
            earliest = λ j h l. let p : j < m = omega (arith, B.within) in omega (arith, heavy j p (lives j p l), heavy e B.within best_live, (B.beats j p).early h);
          }

  -- ---- the merge of a live edge
  module _ (e : ℕ) (lt : e < m) (l : (R.E e).live ≡ true) where
    abbrev rs : List Region
    rs = map (region_of gates R.node s) (upto n 0)

    found : at t.edges e ≡ some (R.E e)
    found = ap (λ (x : List Edge). at x e) R.edges ∙ at_upto R.E R.number 0 m e (omega arith) (omega arith) l

    event_is : event t e ≡ event_of rs e (some (R.E e))
    unfolding event
    event_is = ap (event_of t.regions e) found ∙ ap (λ (x : List Region). event_of x e (some (R.E e))) R.regions

    entry_is : entry t e ≡ entry_of rs (some (R.E e))
    unfolding entry
    entry_is = ap (entry_of t.regions) found ∙ ap (λ (x : List Region). entry_of x (some (R.E e))) R.regions

    range_is : in_range (event t e) ≡ (bounded 1000 (quot (R.E e).link.diff (R.E e).link.weight) && all (bounded 1000) (raised (plan rs (R.E e)).gain rs (plan rs (R.E e)).moved))
    unfolding event_of in_range
    range_is = ap in_range event_is

    -- question 9 says no to the number
    pub number_refused : bounded 1000 (quot (R.E e).link.diff (R.E e).link.weight) ≡ false → in_range (event t e) ≡ false
    number_refused h = range_is ∙ (rw h refl)

    -- the ends as the code has them
    module _ (p q : ℕ) (is-p : p ≡ (R.E e).first) (is-q : q ≡ (R.E e).second) where
      ends_words : (p ≡ (R.E e).first) × (q ≡ (R.E e).second) × ((R.E e).first < n) × ((R.E e).second < n)
      ends_words = (is-p, is-q, (ends_in m n gates past s t R e lt l).0, (ends_in m n gates past s t R e lt l).1)

      proper : (R.E e).first ≡ (R.E e).second → ⊥
      proper = R.simple.proper (R.E e) (mem_upto R.E 0 m e (omega arith) (omega arith)) l

      leads_first : R.node (R.E e).first ≡ (R.E e).first
      leads_first = (R.leading e lt l).0

      leads_second : R.node (R.E e).second ≡ (R.E e).second
      leads_second = (R.leading e lt l).1

      p_in : p < n
      p_in = omega (arith, ends_words.0, ends_words.2)

      q_in : q < n
      q_in = omega (arith, ends_words.1, ends_words.3)

      leads_p : R.node p ≡ p
      leads_p = rw is-p leads_first

      leads_q : R.node q ≡ q
      leads_q = rw is-q leads_second

      apart : p ≡ q → ⊥
      apart x = proper (sym is-p ∙ x ∙ is-q)

      fit_of : (b v : ℕ) → b < n → v < n → R.node b ≡ b → R.node v ≡ v → (b ≡ v → ⊥) → Fit n b v s
      fit_of b v hb hv lb lv ne =
          record {
            b_in = hb;
            v_in = hv;
            sizes = omega (arith, R.sizes b hb lb, R.sizes v hv lv, size_two b v ne rs, R.light);
            elens = omega (arith, R.small, R.circled.lengths b hb lb, R.circled.lengths v hv lv, two_circles (s.at enext) (2 * m + n) R.eown R.epos R.elens R.circled.echains (2 * m + b) (2 * m + v) (omega arith) (omega arith) (R.circled.header b hb lb) (R.circled.header v hv lv) (λ q. ne (omega arith)));
            rlens = omega (arith, R.small, two_circles (s.at rnext) n R.node R.rpos (λ x. get_or (s.at rlen) x 0) R.rchains b v hb hv lb lv ne);
          }

      module _ (g : ℕ) (N : Numbered (quot (R.E e).link.diff (R.E e).link.weight) g) where
        -- what `merge` asks, one way round and the other
        asks_first : Sound m n s × (Gains n p q g × (Fit n p q s × (e < m)))
        asks_first = rw (ends_words.0, ends_words.1)
            (R.sound, (record { b_in = ends_words.2; v_in = ends_words.3; apart = proper; g_in = N.most }, (fit_of (R.E e).first (R.E e).second ends_words.2 ends_words.3 leads_first leads_second proper, lt)))

        asks_second : Sound m n s × (Gains n q p (2000 - g) × (Fit n q p s × (e < m)))
        asks_second = rw (ends_words.0, ends_words.1)
            (R.sound, (record { b_in = ends_words.3; v_in = ends_words.2; apart = λ q. proper (sym q); g_in = omega arith }, (fit_of (R.E e).second (R.E e).first ends_words.3 ends_words.2 leads_second leads_first (λ q. proper (sym q)), lt)))

        size_first : get_or w (8 * m + 3 * n + p) 0 ≡ size_of rs (R.E e).first
        size_first = rw ends_words.0 (sym (read size m n w d (R.E e).first ends_words.2) ∙ R.sizes (R.E e).first ends_words.2 leads_first)

        size_second : get_or w (8 * m + 3 * n + q) 0 ≡ size_of rs (R.E e).second
        size_second = rw ends_words.1 (sym (read size m n w d (R.E e).second ends_words.3) ∙ R.sizes (R.E e).second ends_words.3 leads_second)

        -- what the merge comes to, entered in the log, the moved node's regions being marked if it is doubtful
        module _ (z : Bool) (doubt : z ≡ doubtful (quotient (R.E e).link.diff (R.E e).link.weight)) (b v g' : ℕ) (is_b : (plan rs (R.E e)).base ≡ b) (is-v : (plan rs (R.E e)).moved ≡ v)
            (is-g : unbias g' ≡ (plan rs (R.E e)).gain) (most' : g' ≤ 2000) (hb : b < n) (hv : v < n) (lv : R.node v ≡ v) (ne : b ≡ v → ⊥) (k_in : past < m) where
          abbrev s' : Tables
          s' = mark_if z v (logged past e b v g' s)

          remark : Remarked m n gates past s s' t R
          remark = remarked m n gates past s t R z e b v g'

          abbrev R' : Rep m n gates past s' t
          R' = remark.rep

          abbrev rs' : List Region
          rs' = map (region_of gates R'.node s') (upto n 0)

          same_regions : rs' ≡ rs
          same_regions = sym R'.regions ∙ R.regions

          same_plan : plan rs' (R'.E e) ≡ plan rs (R.E e)
          same_plan = ap (λ (x : List Region). plan x (R'.E e)) same_regions ∙ ap (plan rs) (remark.edge e)

          l' : (R'.E e).live ≡ true
          l' = ap (λ (x : Edge). x.live) (remark.edge e) ∙ l

          outcome : MergeIs m n gates past s' t R' e lt l' (merged m (past + 1) e b v g' s')
          outcome =
              subst (λ (x : ℕ). MergeIs m n gates past s' t R' e lt l' (merged m (past + 1) e x v g' s')) (ap (λ (p : Plan). p.base) same_plan ∙ is_b)
              (subst (λ (x : ℕ). MergeIs m n gates past s' t R' e lt l' (merged m (past + 1) e (plan rs' (R'.E e)).base x g' s')) (ap (λ (p : Plan). p.moved) same_plan ∙ is-v)
              (merge_is m n gates past s' t R' e lt l' g' (is-g ∙ sym (ap (λ (p : Plan). p.gain) same_plan)) most'))

          -- question 9 put to the counts, by either
          same_test : all (bounded 1000) (raised (plan rs' (R'.E e)).gain rs' (plan rs' (R'.E e)).moved) ≡ all (bounded 1000) (raised (plan rs (R.E e)).gain rs (plan rs (R.E e)).moved)
          same_test = ap (λ (p : Plan). all (bounded 1000) (raised p.gain rs' p.moved)) same_plan ∙ ap (λ (x : List Region). all (bounded 1000) (raised (plan rs (R.E e)).gain x (plan rs (R.E e)).moved)) same_regions

          marks_are : (x : ℕ) → x < n → marks (event t e) x ≡ (z && eqb v (R.node x))
          unfolding marks event_of
          marks_are x h = ap (λ (y : Event). marks y x) event_is ∙ (rw (← doubt, is-v, has_member gates R.node s n v x h) refl)

          -- the entry is not a mark
          same_marks : s'.at mark ≡ (mark_if z v s).at mark
          unfolding mark_if marked_all logged
          same_marks = refl

          marking : (u : Tables) → u.at mark ≡ s'.at mark → Marking n (event t e) s u
          marking u q x h = ap (λ (y : List ℕ). get_or y x 0) (q ∙ same_marks) ∙ marked_if m n gates past s t R v hv lv z x h ∙ sym (ap (λ (y : Bool). cond y 1 (get_or (s.at mark) x 0)) (marks_are x h))

          logging : (u : Tables) → u.at log ≡ s'.at log → Logging past (entry t e) s u
          unfolding mark_if logged entry_words
          logging u q =
              logging_is m past s u b v (get_or (s.at weight) e 0) (get_or (s.at bridged) e 0) g' (get_or (s.at size) v 0) q (R.sound.lengths log) k_in
              (omega (arith, R.small)) (omega (arith, R.small)) (omega (arith, sum_one (s.at weight) e, R.sound.light)) (omega (arith, sum_one (s.at bridged) e, R.sound.spanned)) most'
              (omega (arith, R.sizes v hv lv, size_two b v ne rs, R.light)) (entry t e) (words_are ∙ sym entry_is)
            where
              words_are : record { base = b; moved = v; weight = get_or (s.at weight) e 0; bridged = get_or (s.at bridged) e 0; folds = unbias g'; gates = get_or (s.at size) v 0 } ≡ entry_of rs (some (R.E e))
              words_are = let S = stands s e (R.E e) ((R.like e lt).whole l) l in unfold entry_of in λ i. record {
                base = sym is_b i;
                moved = sym is-v i;
                weight = S.weight_is i;
                bridged = S.bridged_is i;
                folds = is-g i;
                gates = (R.sizes v hv lv ∙ sym (ap (size_of rs) is-v)) i;
              }

          merged_yes : (w' : List ℕ) (d' : List Float) → Raised m n w' d' (merged m (past + 1) e b v g' s') (Ok tt) → PickIs m n gates past s t e w' d' (Ok Merged)
          unfolding MergeIs merged_by
          merged_yes w' d' h =
              let r : (u : Tables) × (merged m (past + 1) e b v g' s' ≡ some u) × LeavesTables m n w' d' u = raised_ok m n w' d' _ h in
              let o : (all (bounded 1000) (raised (plan rs' (R'.E e)).gain rs' (plan rs' (R'.E e)).moved) ≡ true) × Rep m n gates (past + 1) r.0 (step t e) × (r.0.at mark ≡ s'.at mark) × (r.0.at log ≡ s'.at log) = subst (MergeIs m n gates past s' t R' e lt l') r.1 outcome in
              let in_range_lem : in_range (event t e) ≡ true = range_is ∙ (rw (N.bound, ← same_test, o.0) refl) in
              let left : MergeLeaves m n gates past s t e w' d' = record {
                rep = subst (λ (u : Tables). Rep m n gates (past + 1) u (step t e)) (sym r.2.tables) o.1;
                tree = r.2.tree;
                marking = subst (Marking n (event t e) s) (sym r.2.tables) (marking r.0 o.2);
                logging = subst (Logging past (entry t e) s) (sym r.2.tables) (logging r.0 o.3);
              } in
              record { answer = sym (ap merged_by in_range_lem); leaves = λ q. left }

          merged_no : (w' : List ℕ) (d' : List Float) (why : MergeRefused) → Raised m n w' d' (merged m (past + 1) e b v g' s') (Err why) → (w'' : List ℕ) (d'' : List Float) → PickIs m n gates past s t e w'' d'' refused
          unfolding MergeIs merged_by
          merged_no w' d' why h w'' d'' =
              let o : all (bounded 1000) (raised (plan rs' (R'.E e)).gain rs' (plan rs' (R'.E e)).moved) ≡ false = subst (MergeIs m n gates past s' t R' e lt l') (raised_err m n w' d' _ why h) outcome in
              let out : in_range (event t e) ≡ false = range_is ∙ (rw (N.bound, ← same_test, o) refl) in
              record { answer = sym (ap merged_by out); leaves = λ h. absurd (true≢false (sym h ∙ out)) }

        -- the first end is the base
        module _ (k_in : past < m) (more : get_or w (8 * m + 3 * n + q) 0 < get_or w (8 * m + 3 * n + p) 0) where
          plan_first : plan rs (R.E e) ≡ plan_for true (R.E e)
          unfolding plan
          plan_first = ap (λ (x : Bool). plan_for x (R.E e)) (lt-ltb (size_of rs (R.E e).second) (size_of rs (R.E e).first) (omega (arith, size_first, size_second)))

          base₁ : (plan rs (R.E e)).base ≡ p
          unfolding plan_for
          base₁ = ap (λ (x : Plan). x.base) plan_first ∙ sym ends_words.0

          moved₁ : (plan rs (R.E e)).moved ≡ q
          unfolding plan_for
          moved₁ = ap (λ (x : Plan). x.moved) plan_first ∙ sym ends_words.1

          gain₁ : unbias g ≡ (plan rs (R.E e)).gain
          unfolding plan_for
          gain₁ = N.means ∙ sym (ap (λ (x : Plan). x.gain) plan_first)

          first_yes : (z : Bool) → z ≡ doubtful (quotient (R.E e).link.diff (R.E e).link.weight) → (w' : List ℕ) (d' : List Float) → Raised m n w' d' (merged m (past + 1) e p q g (mark_if z q (logged past e p q g s))) (Ok tt) → PickIs m n gates past s t e w' d' (Ok Merged)
          first_yes z doubt = merged_yes z doubt p q g base₁ moved₁ gain₁ N.most p_in q_in leads_q apart k_in

          first_no_lem : (z : Bool) → z ≡ doubtful (quotient (R.E e).link.diff (R.E e).link.weight) → (w' : List ℕ) (d' : List Float) (why : MergeRefused) → Raised m n w' d' (merged m (past + 1) e p q g (mark_if z q (logged past e p q g s))) (Err why) → (w'' : List ℕ) (d'' : List Float) → PickIs m n gates past s t e w'' d'' refused
          first_no_lem z doubt = merged_no z doubt p q g base₁ moved₁ gain₁ N.most p_in q_in leads_q apart k_in

        -- the second end is
        module _ (k_in : past < m) (less : get_or w (8 * m + 3 * n + p) 0 ≤ get_or w (8 * m + 3 * n + q) 0) where
          plan_second : plan rs (R.E e) ≡ plan_for false (R.E e)
          unfolding plan
          plan_second = ap (λ (x : Bool). plan_for x (R.E e)) (le-ltb (size_of rs (R.E e).second) (size_of rs (R.E e).first) (omega (arith, size_first, size_second)))

          base₂ : (plan rs (R.E e)).base ≡ q
          unfolding plan_for
          base₂ = ap (λ (x : Plan). x.base) plan_second ∙ sym ends_words.1

          moved₂ : (plan rs (R.E e)).moved ≡ p
          unfolding plan_for
          moved₂ = ap (λ (x : Plan). x.moved) plan_second ∙ sym ends_words.0

          gain₂ : unbias (2000 - g) ≡ (plan rs (R.E e)).gain
          unfolding plan_for
          gain₂ = opposite g N.most ∙ ap neg_ℤ N.means ∙ sym (ap (λ (x : Plan). x.gain) plan_second)

          second_yes : (z : Bool) → z ≡ doubtful (quotient (R.E e).link.diff (R.E e).link.weight) → (w' : List ℕ) (d' : List Float) → Raised m n w' d' (merged m (past + 1) e q p (2000 - g) (mark_if z p (logged past e q p (2000 - g) s))) (Ok tt) → PickIs m n gates past s t e w' d' (Ok Merged)
          second_yes z doubt = merged_yes z doubt q p (2000 - g) base₂ moved₂ gain₂ (omega arith) q_in p_in leads_p (λ x. apart (sym x)) k_in

          second_no : (z : Bool) → z ≡ doubtful (quotient (R.E e).link.diff (R.E e).link.weight) → (w' : List ℕ) (d' : List Float) (why : MergeRefused) → Raised m n w' d' (merged m (past + 1) e q p (2000 - g) (mark_if z p (logged past e q p (2000 - g) s))) (Err why) → (w'' : List ℕ) (d'' : List Float) → PickIs m n gates past s t e w'' d'' refused
          second_no z doubt = merged_no z doubt q p (2000 - g) base₂ moved₂ gain₂ (omega arith) q_in p_in leads_p (λ x. apart (sym x)) k_in

  -- ---- from what the code knows of the chosen edge
  module _ (e p q g : ℕ) (z : Bool) (c : Chosen m s e p q g z) where
    chosen_live : (R.E e).live ≡ true
    chosen_live = sym (R.like e c.e_in).live ∙ now_live s e ∙ word_live s e c.live

    chosen_is : edge_now s e ≡ R.E e
    chosen_is = (R.like e c.e_in).whole chosen_live

    chosen_ends : (p ≡ (R.E e).first) × (q ≡ (R.E e).second)
    chosen_ends = (c.first ∙ ap (λ (x : Edge). x.first) chosen_is, c.second ∙ ap (λ (x : Edge). x.second) chosen_is)

    chosen_number : Numbered (quot (R.E e).link.diff (R.E e).link.weight) g
    chosen_number = number_in (quot (R.E e).link.diff (R.E e).link.weight) g
        (c.number ∙ ap (λ (x : Edge). number_by (quot x.link.diff (get_or (s.at weight) e 0))) chosen_is ∙ ap (λ (x : ℕ). number_by (quot (R.E e).link.diff x)) (stands s e (R.E e) chosen_is chosen_live).weight_is)

    chosen_doubt : z ≡ doubtful (quotient (R.E e).link.diff (R.E e).link.weight)
    chosen_doubt = c.doubt ∙ ap (λ (x : Edge). doubtful (quotient x.link.diff (get_or (s.at weight) e 0))) chosen_is ∙ ap (λ (x : ℕ). doubtful (quotient (R.E e).link.diff x)) (stands s e (R.E e) chosen_is chosen_live).weight_is

    pub chosen_in : (p < n) × (q < n)
    chosen_in =
        let u = ends_words e c.e_in chosen_live p q chosen_ends.0 chosen_ends.1 in
        (omega (arith, u.0, u.2), omega (arith, u.1, u.3))

    first_asks : Sound m n s × (Gains n p q g × (Fit n p q s × (e < m)))
    first_asks = asks_first e c.e_in chosen_live p q chosen_ends.0 chosen_ends.1 g chosen_number

    second_asks : Sound m n s × (Gains n q p (2000 - g) × (Fit n q p s × (e < m)))
    second_asks = asks_second e c.e_in chosen_live p q chosen_ends.0 chosen_ends.1 g chosen_number

    -- the merge by its answer, once it is entered in the log, which gave w₁
    module _ (u : Step) (larger : Larger m n w p q g u) where
      pub pick_asks : Sound m n s × (Gains n u.base u.moved u.gain × (Fit n u.base u.moved s × (e < m)))
      pick_asks = ⊎_elim (λ x. rw x.1 first_asks) (λ x. rw x.1 second_asks) larger

      module _ (k_in : past < m) (w₁ w' : List ℕ) (d' : List Float) (h : LeavesTables m n w₁ d (logged past e u.base u.moved u.gain s)) where
        abbrev Answered : Result (Unit {0}) MergeRefused → Type 0
        Answered y = Raised m n w' d' (merged m (past + 1) e u.base u.moved u.gain (mark_if z u.moved (view m n w₁ d))) y

        noted : (y : Result (Unit {0}) MergeRefused) → Answered y → Raised m n w' d' (merged m (past + 1) e u.base u.moved u.gain (mark_if z u.moved (logged past e u.base u.moved u.gain s))) y
        noted y r = subst (λ (v : Tables). Raised m n w' d' (merged m (past + 1) e u.base u.moved u.gain (mark_if z u.moved v)) y) h.tables r

        pub pick_merged : Answered (Ok tt) → PickIs m n gates past s t e w' d' (Ok Merged)
        pick_merged r = ⊎_elim
            (λ x. first_yes e c.e_in chosen_live p q chosen_ends.0 chosen_ends.1 g chosen_number k_in x.0 z chosen_doubt w' d' (rw x.1 at (noted (Ok tt) r)))
            (λ x. second_yes e c.e_in chosen_live p q chosen_ends.0 chosen_ends.1 g chosen_number k_in x.0 z chosen_doubt w' d' (rw x.1 at (noted (Ok tt) r)))
            larger

        pub pick_refused : (why : MergeRefused) → Answered (Err why) → (w'' : List ℕ) (d'' : List Float) → PickIs m n gates past s t e w'' d'' refused
        pick_refused why r = ⊎_elim
            (λ x. first_no_lem e c.e_in chosen_live p q chosen_ends.0 chosen_ends.1 g chosen_number k_in x.0 z chosen_doubt w' d' why (rw x.1 at (noted (Err why) r)))
            (λ x. second_no e c.e_in chosen_live p q chosen_ends.0 chosen_ends.1 g chosen_number k_in x.0 z chosen_doubt w' d' why (rw x.1 at (noted (Err why) r)))
            larger

  -- ---- the answer of choosing
  pub pop_none : (e : ℕ) → Best m w e → get_or w e 0 ≡ 0 → None ≡ popped (choose t.edges)
  unfolding popped
  pop_none e B z = sym (ap popped (choose_none e B z))

  pop_is : (p : PoppedEdge) → Takes m n w d p → Some p ≡ popped (choose t.edges)
  unfolding popped
  pop_is p k =
      let e : ℕ = p.edge_number in
      let l : (R.E e).live ≡ true = best_live e k.best k.live in
      let is : edge_now s e ≡ R.E e = (R.like e k.best.within).whole l in
      let a : p.node1 ≡ (R.E e).first = k.first ∙ ap (λ (x : Edge). x.first) is in
      let b : p.node2 ≡ (R.E e).second = k.second ∙ ap (λ (x : Edge). x.second) is in
      let x : p.diff ≡ div binary64 (R.E e).link.diff (real (pos (R.E e).link.weight)) = k.diff ∙ ap (λ (z : Edge). div binary64 z.link.diff (real (pos (get_or w e 0)))) is ∙ ap (λ (z : ℕ). div binary64 (R.E e).link.diff (real (pos z))) (weighs e k.best k.live e k.best.within l) in
      (λ i. Some (record { node1 = a i; node2 = b i; diff = x i; doubtful = (k.doubtful ∙ ap doubtful x) i; edge_number = sym (R.number e) i }))
      ∙ sym (ap popped (choose_some e k.best k.live))

  -- ---- a turn
  module _ (e : ℕ) (B : Best m w e) where
    pub turn_ended : get_or w e 0 ≡ 0 → TurnIs m n gates past s t w d (Ok Ended)
    unfolding TurnLeaves turned_by
    turn_ended z = let c = choose_none e B z in record { answer = sym (ap (turned_by t) c); leaves = subst (λ (o : Option Edge). TurnLeaves m n gates past s t o w d) (sym c) refl }

    module _ (live : get_or w e 0 ≡ 0 → ⊥) where
      l : (R.E e).live ≡ true
      l = best_live e B live

      num : (R.E e).num ≡ e
      num = R.number e

      pub turn_picked : (w' : List ℕ) (d' : List Float) (r : Result Turned MergeRefused) → PickIs m n gates past s t e w' d' r → TurnIs m n gates past s t w' d' r
      unfolding TurnLeaves turned_by
      turn_picked w' d' r h =
          let c = choose_some e B live in
          let leaves : TurnLeaves m n gates past s t (some (R.E e)) w' d' = subst (λ (i : ℕ). in_range (event t i) ≡ true → MergeLeaves m n gates past s t i w' d') (sym num) h.leaves in
          record {
            answer = h.answer ∙ ap (λ (i : ℕ). merged_by (in_range (event t i))) (sym num) ∙ sym (ap (turned_by t) c);
            leaves = subst (λ (o : Option Edge). TurnLeaves m n gates past s t o w' d') (sym c) leaves;
          }

      pub turn_refused : (x : MergeRefused) → Err x ≡ number_by (quot (edge_now s e).link.diff (get_or w e 0)) → (w' : List ℕ) (d' : List Float) → TurnIs m n gates past s t w' d' refused
      unfolding merged_by
      turn_refused x o w' d' =
          let is : edge_now s e ≡ R.E e = (R.like e B.within).whole l in
          let out = number_refused e B.within l (number_out (quot (R.E e).link.diff (R.E e).link.weight) x
          (o ∙ ap (λ (y : Edge). number_by (quot y.link.diff (get_or w e 0))) is ∙ ap (λ (y : ℕ). number_by (quot (R.E e).link.diff y)) (weighs e B live e B.within l))) in
          turn_picked w' d' refused (record { answer = sym (ap merged_by out); leaves = λ h. absurd (true≢false (sym h ∙ out)) })

-- ---- what `pop_edge` leaves where an edge is live
module _ (m n : ℕ) (w : List ℕ) (d : List Float) (r : HoldsTables m n w d) (h : Sound m n (view m n w d)) (e : ℕ) (B : Best m w e) (live : get_or w e 0 ≡ 0 → ⊥) where
  abbrev x : ℕ
  x = get_or w (3 * m + e) 0

  abbrev y : ℕ
  y = get_or w (4 * m + e) 0

  abbrev Answer : PoppedEdge → Type 0
  Answer p = Takes m n w d p × ((gates : ℕ → ℕ) (k : ℕ) (t : State) → Rep m n gates k (view m n w d) t → Some p ≡ popped (choose t.edges))

  answer : (p : PoppedEdge) → Takes m n w d p → Answer p
  answer p k = (k, λ gates past t R. pop_is m n gates past w d t R p k)

  pub pop_turned : get_or w (8 * m + 2 * n + x) 0 < get_or w (8 * m + 2 * n + y) 0
      → (z : Bool) → z ≡ doubtful (quotient (neg (get_or d e nan)) (get_or w e 0)) → Answer (record { node1 = y; node2 = x; diff = quotient (neg (get_or d e nan)) (get_or w e 0); doubtful = z; edge_number = e })
  unfolding edge_now turn_if edge_of view
  pop_turned lt z doubt =
      let yes : turned (view m n w d) e ≡ true = turned_words m n w d r e B.within h ∙ lt-ltb (get_or w (8 * m + 2 * n + x) 0) (get_or w (8 * m + 2 * n + y) 0) lt in
      answer _ (record { best = B; live = live; first = rw yes (sym (read second m n w d e B.within)); second = rw yes (sym (read first m n w d e B.within)); diff = rw yes refl; doubtful = doubt })

  pub pop_straight : get_or w (8 * m + 2 * n + y) 0 ≤ get_or w (8 * m + 2 * n + x) 0
      → (z : Bool) → z ≡ doubtful (quotient (get_or d e nan) (get_or w e 0)) → Answer (record { node1 = x; node2 = y; diff = quotient (get_or d e nan) (get_or w e 0); doubtful = z; edge_number = e })
  unfolding edge_now turn_if edge_of view
  pop_straight le z doubt =
      let no : turned (view m n w d) e ≡ false = turned_words m n w d r e B.within h ∙ le-ltb (get_or w (8 * m + 2 * n + x) 0) (get_or w (8 * m + 2 * n + y) 0) le in
      answer _ (record { best = B; live = live; first = rw no (sym (read first m n w d e B.within)); second = rw no (sym (read second m n w d e B.within)); diff = rw no refl; doubtful = doubt })

-- what is known of the edge chosen
module _ (m n : ℕ) (w : List ℕ) (d : List Float) (p : PoppedEdge) (k : Takes m n w d p) (r : Result ℕ MergeRefused) (i : r ≡ number_by (whole (round_even p.diff))) where
  abbrev e : ℕ
  e = p.edge_number

  pub taken_number : r ≡ number_by (quot (edge_now (view m n w d) e).link.diff (get_or w e 0))
  unfolding quot
  taken_number = i ∙ ap (λ (x : Float). number_by (whole (round_even x))) k.diff

  pub turn_chosen : (g : ℕ) → r ≡ Ok g → Chosen m (view m n w d) e p.node1 p.node2 g p.doubtful
  turn_chosen g o = record {
    e_in = k.best.within;
    live = λ z. k.live (sym (weight_at_lem m n w d e k.best.within) ∙ z);
    first = k.first;
    second = k.second;
    number = sym o ∙ taken_number ∙ ap (λ (x : ℕ). number_by (quot (edge_now (view m n w d) e).link.diff x)) (sym (weight_at_lem m n w d e k.best.within));
    doubt = k.doubtful ∙ ap doubtful k.diff ∙ ap (λ (x : ℕ). doubtful (quotient (edge_now (view m n w d) e).link.diff x)) (sym (weight_at_lem m n w d e k.best.within));
  }

-- The marks of a sweep's gates, and what a mark means. Assumes nothing.
use Prim.Native.Nat.{ℕ, zero, suc, ◌≤◌, ◌<◌}
use native.Mathlib.Omega.{arith}
use mathlib.Core.Path.{◌≡◌, refl, sym, ◌∙◌, subst}
use mathlib.Core.Logic.{◌⊎◌, inl, inr}
use mathlib.Core.Bool.{Bool, true, false, not, ◌&&◌, ◌||◌, cond, true≢false}
use mathlib.Core.List.{List, [], ◌∷◌}
use mathlib.Core.Option.{Option, none, some}
use lib.Dec.{eqb}
use lib.ListN.{length, get_or, get_or-eq_default}
use lib.Ieee.{Float}
use borrow.Author.Tests.{eqb-true, eqb-false, eq-eqb, ne_eqb}
use Rattle.lists.specs.Seq.{All, Member}
use Rattle.lists.proofs.AllLaws.{and_left, and_right, tab_all}
use Rattle.lists.proofs.SeqLaws.{eqb_refl}
use Rattle.network.specs.Network.{Region, Edge, State, Event, gather, members, plan, event_of, event, step, trace, merges, has, marks, marked, mark_of, start, network_by}
use Rattle.network.specs.Network as Network
use Rattle.network.proofs.FewRegions.{no_mark}
use Rattle.sweep.specs.Sweep.{Sweep, Unfolded, regions_of, network_of, early, ended, finished, sizes, unfolded_by, unfolded}
use Rattle.locality.specs.Demand3.{label_at, first, mark_at}
use Rattle.locality.specs.Theorems.{Doubted}
use Rattle.locality.proofs.RegionsEcho.{regions_valid}
use Rattle.locality.proofs.GateCounts.{Numbered, step_numbered, alone_numbered}

-- a mark is 1 where a region is marked, and a gate of label 0 has none
mark_one : (vs : List Event) (l : ℕ) → mark_of vs l ≡ 1 → (0 < l) × (marked vs l ≡ true)
unfolding mark_of
mark_one vs l h = go (eqb l 0) refl (marked vs l) refl h
  where
    go : (a : Bool) → eqb l 0 ≡ a → (b : Bool) → marked vs l ≡ b → ◌≡◌ {A = ℕ} (cond (not a && b) 1 0) 1 → (0 < l) × (b ≡ true)
    go true e b f w = absurd (omega arith)
    go false e true f w = (omega (arith, eqb-false l 0 e), refl)
    go false e false f w = absurd (omega arith)

one_mark : (vs : List Event) (l : ℕ) → 0 < l → marked vs l ≡ true → mark_of vs l ≡ 1
unfolding mark_of
one_mark vs l h k = rw (ne_eqb l 0 (λ e. omega arith), k) refl

zero_mark : (vs : List Event) (l : ℕ) → l ≡ 0 → mark_of vs l ≡ 0
unfolding mark_of
zero_mark vs l h = rw (eq-eqb l 0 h) refl

pub mark_byte : (vs : List Event) (l : ℕ) → (mark_of vs l ≡ 0) ⊎ (mark_of vs l ≡ 1)
unfolding mark_of
mark_byte vs l = go (not (eqb l 0) && marked vs l)
  where
    go : (b : Bool) → (◌≡◌ {A = ℕ} (cond b 1 0) 0) ⊎ (◌≡◌ {A = ℕ} (cond b 1 0) 1)
    go true = inr refl
    go false = inl refl

-- ---- a region is marked exactly if some merge marks it

or_right : (a b : Bool) → b ≡ true → (a || b) ≡ true
or_right true b h = refl
or_right false b h = h

has_mem : (a : ℕ) (l : List ℕ) → has a l ≡ true → Member a l
unfolding has
has_mem a [] h = absurd (true≢false (sym h))
has_mem a (x ∷ l) h = go (eqb a x) refl h (has_mem a l)
  where
    go : (b : Bool) → eqb a x ≡ b → (b || has a l) ≡ true → (has a l ≡ true → Member a l) → Member a (x ∷ l)
    go true e w ih = inl (sym (eqb-true a x e))
    go false e w ih = inr (ih w)

mem_has : (a : ℕ) (l : List ℕ) → Member a l → has a l ≡ true
unfolding has
mem_has a [] h = absurd h
mem_has a (x ∷ l) (inl e) = rw (e, eqb_refl a) refl
mem_has a (x ∷ l) (inr h) = or_right (eqb a x) (has a l) (mem_has a l h)

marked_some : (vs : List Event) (l : ℕ) → marked vs l ≡ true → Doubted vs l
unfolding marked marks
marked_some [] l h = absurd (true≢false (sym h))
marked_some (v ∷ vs) l h = go (v.doubtful && has l v.moved) refl h (marked_some vs l)
  where
    go : (b : Bool) → (v.doubtful && has l v.moved) ≡ b → (b || marked vs l) ≡ true → (marked vs l ≡ true → Doubted vs l) → Doubted (v ∷ vs) l
    go true e w ih = record { event = v; done = inl refl; doubtful = and_left v.doubtful (has l v.moved) e; moved = has_mem l v.moved (and_right v.doubtful (has l v.moved) e) }
    go false e w ih = let m : Doubted vs l = ih w in record { event = m.event; done = inr m.done; doubtful = m.doubtful; moved = m.moved }

some_marked : (vs : List Event) (l : ℕ) (v : Event) → Member v vs → v.doubtful ≡ true → Member l v.moved → marked vs l ≡ true
unfolding marked marks
some_marked [] l v m d h = absurd m
some_marked (u ∷ vs) l v (inl e) d h = rw (e, d, mem_has l v.moved h) refl
some_marked (u ∷ vs) l v (inr m) d h = or_right (u.doubtful && has l u.moved) (marked vs l) (some_marked vs l v m d h)

-- ---- label 0 is in no node

gather_numbered : (rs : List Region) (a : ℕ) → All Numbered rs → All (λ x. eqb 0 x ≡ false) (gather (λ r. r.label) rs a)
unfolding gather
gather_numbered [] a t = tt
gather_numbered (r ∷ rs) a t = go (eqb a r.node) (gather_numbered rs a t.1)
  where
    go : (b : Bool) → All (λ x. eqb 0 x ≡ false) (gather (λ r. r.label) rs a) → All (λ x. eqb 0 x ≡ false) (cond b (r.label ∷ gather (λ r. r.label) rs a) (gather (λ r. r.label) rs a))
    go true u = (t.0, u)
    go false u = u

event_numbered : (n : State) (i : ℕ) → All Numbered n.regions → All (λ x. eqb 0 x ≡ false) (event n i).moved
unfolding event event_of members
event_numbered n i t = go (Network.at n.edges i)
  where
    go : (o : Option Edge) → All (λ x. eqb 0 x ≡ false) (event_of n.regions i o).moved
    go none = tt
    go (some e) = gather_numbered n.regions (plan n.regions e).moved t

mem_numbered : (l : List ℕ) (a : ℕ) → All (λ x. eqb 0 x ≡ false) l → Member a l → 0 < a
mem_numbered [] a t h = absurd h
mem_numbered (x ∷ l) a t (inl e) = omega (arith, eqb-false 0 x t.0, e)
mem_numbered (x ∷ l) a t (inr h) = mem_numbered l a t.1 h

moved_numbered : (l : List ℕ) (n : State) → All Numbered n.regions → (v : Event) → Member v (trace n l) → (a : ℕ) → Member a v.moved → 0 < a
unfolding trace
moved_numbered [] n t v m a h = absurd m
moved_numbered (i ∷ l) n t v (inl e) a h = mem_numbered (event n i).moved a (event_numbered n i t) (subst (λ (u : Event). Member a u.moved) (sym e) h)
moved_numbered (i ∷ l) n t v (inr m) a h = moved_numbered l (step n i) (step_numbered n i t) v m a h

-- ---- a sweep's gates

module _ (s : Sweep) (limits : List Float) where
  abbrev ends : Bool → Unfolded
  ends b = elim b [ true ↦ ended s (regions_of s limits) | false ↦ finished s (regions_of s limits) (first s limits) ]

  -- a gate with a region is valid
  valid_label : (g : ℕ) → 0 < label_at s limits g → eqb (get_or s.mask g 0) 1 ≡ true
  unfolding regions_of
  valid_label g h = regions_valid s.shape.gates s.vel s.mask limits g h

  past_label : (g : ℕ) → length s.mask ≤ g → label_at s limits g ≡ 0
  past_label g h = go (label_at s limits g) refl
    where
      go : (l : ℕ) → label_at s limits g ≡ l → l ≡ 0
      go zero e = refl
      go (suc l) e =
          let m : eqb (get_or s.mask g 0) 1 ≡ true = valid_label g (omega arith) in
          let z : get_or s.mask g 0 ≡ 0 = get_or-eq_default s.mask 0 h in
          absurd (omega (arith, eqb-true (get_or s.mask g 0) 1 m))

  -- the mark of a gate is its region's by the sweep's own run
  pub gate_marks : (g : ℕ) → get_or (unfolded s limits).doubtful g 0 ≡ mark_at s limits (trace (first s limits) (unfolded s limits).merges) g
  unfolding unfolded unfolded_by mark_at
  gate_marks g = go (early s (regions_of s limits))
    where
      go : (b : Bool) → get_or (ends b).doubtful g 0 ≡ mark_of (trace (first s limits) (ends b).merges) (label_at s limits g)
      go true = unfold ended trace in tab_all (λ g. 0) (length s.mask) g 0 (λ h. refl) ∙ sym (no_mark (label_at s limits g))
      go false = unfold finished in tab_all (λ g. mark_of (trace (first s limits) (merges (first s limits))) (label_at s limits g)) (length s.mask) g 0 (λ h. zero_mark _ _ (past_label g h))

  -- what the mark of gate g means
  module _ (g : ℕ) where
    abbrev own : List Event
    own = trace (first s limits) (unfolded s limits).merges

    pub mark_some : mark_at s limits own g ≡ 1 → Doubted own (label_at s limits g)
    unfolding mark_at
    mark_some h = marked_some own (label_at s limits g) (mark_one own (label_at s limits g) h).1

    pub some_mark : Doubted own (label_at s limits g) → mark_at s limits own g ≡ 1
    unfolding mark_at network_of network_by start sizes
    some_mark m =
        one_mark own (label_at s limits g)
        (moved_numbered (unfolded s limits).merges (first s limits) (alone_numbered 0 (sizes (regions_of s limits))) m.event m.done (label_at s limits g) m.moved)
        (some_marked own (label_at s limits g) m.event m.done m.doubtful m.moved)

    pub mark_labelled : mark_at s limits own g ≡ 1 → 0 < label_at s limits g
    unfolding mark_at
    mark_labelled h = (mark_one own (label_at s limits g) h).0

    pub mark_valid : mark_at s limits own g ≡ 1 → get_or s.mask g 0 ≡ 1
    mark_valid h = eqb-true (get_or s.mask g 0) 1 (valid_label g (mark_labelled h))

-- Marks: a region's are those of the merges on its side, so an echo's are its own, and every merge list marks the same. Assumes nothing.
use Prim.Native.Nat.{ℕ}
use mathlib.Core.Path.{◌≡◌, refl, sym, ap, ◌∙◌}
use mathlib.Core.Bool.{Bool, true, false, not, ◌&&◌, ◌||◌, cond}
use mathlib.Core.List.{List, [], ◌∷◌, map}
use mathlib.Core.Option.{Option, none, some}
use lib.Dec.{ltb, eqb}
use lib.ListN.{length}
use lib.Ieee.{Float}
use borrow.Author.Tests.{eqb-true}
use Rattle.lists.specs.Seq.{keep, All}
use Rattle.lists.proofs.SeqLaws.{eqb_renamed}
use Rattle.edges.specs.Edges.{used}
use Rattle.network.specs.Network.{Edge, Region, State, Event, size_of, gather, members, plan, plan_for, step, event_of, event, trace, merges, has, marks, marked, mark_of}
use Rattle.network.specs.Network as Network
use Rattle.network.proofs.Lists.{apart, at_all}
use Rattle.network.proofs.Restrict.{OkE, OkR, Closed, closed_step, event_in, event_edge}
use Rattle.sweep.specs.Sweep.{Sweep, regions_of, pairs_of, network_of}
use Rattle.locality.specs.Demand3.{first, mark_at}
use Rattle.locality.proofs.Rename.{ren_v}
use Rattle.locality.proofs.Embed.{Embedding, merges_image, trace_image}
use Rattle.locality.proofs.Spot.{spot, shift, flag, shift_inj, flag_shift}
use Rattle.locality.proofs.RootsEcho.{at}
use Rattle.locality.proofs.LabelEcho.{Parts}
use Rattle.locality.proofs.EdgesEcho.{record_in}
use Rattle.locality.proofs.StartEcho.{edge_side}
use Rattle.locality.proofs.Echo.{only, flags, ApartBy, labels_follow, network_embeds}

-- ---- a merge on the other side moves no region of this one

module _ (p q : ℕ → Bool) (a : ℕ) (pa : p a ≡ true) where
  gather_out : (m : ℕ) → p m ≡ false → (rs : List Region) → All (OkR p q) rs → has a (gather (λ r. r.label) rs m) ≡ false
  unfolding has gather
  gather_out m pm [] t = refl
  gather_out m pm (r ∷ rs) t = go (eqb m r.node) refl (gather_out m pm rs t.1)
    where
      go : (b : Bool) → eqb m r.node ≡ b → has a (gather (λ r. r.label) rs m) ≡ false → has a (cond b (r.label ∷ gather (λ r. r.label) rs m) (gather (λ r. r.label) rs m)) ≡ false
      go true e ih = rw (apart p a r.label pa (sym t.0 ∙ ap p (sym (eqb-true m r.node e)) ∙ pm), ih) refl
      go false e ih = ih

  moved_out : (rs : List Region) (e : Edge) → OkE p q e → q e.num ≡ false → p (plan rs e).moved ≡ false
  unfolding plan plan_for
  moved_out rs e t h = go (ltb (size_of rs e.second) (size_of rs e.first))
    where
      go : (b : Bool) → p (cond b e.second e.first) ≡ false
      go true = t.1 ∙ h
      go false = t.0 ∙ h

  event_out : (s : State) → Closed p q s → (i : ℕ) → q i ≡ false → has a (event s i).moved ≡ false
  unfolding event event_of members
  event_out s c i h = go (Network.at s.edges i) refl
    where
      go : (o : Option Edge) → Network.at s.edges i ≡ o → has a (event_of s.regions i o).moved ≡ false
      go none w = unfold has in refl
      go (some e) w =
          let t : (e.num ≡ i) × OkE p q e = at_all (OkE p q) i s.edges c.edges_ok e w in
          gather_out (plan s.regions e).moved (moved_out s.regions e t.1 (ap q t.0 ∙ h)) s.regions c.regions_ok

  -- only the merges on a region's side mark it
  marked_in : (l : List ℕ) (s : State) → Closed p q s → marked (trace s l) a ≡ marked (keep (event_in p q) (trace s l)) a
  unfolding marked marks trace keep event_in
  marked_in [] s c = refl
  marked_in (i ∷ l) s c = go (q (event s i).edge) (ap q (sym (event_edge p q s i))) (marked_in l (step s i) (closed_step p q s c i))
    where
      dull : (b : Bool) → ((b && false) || marked (trace (step s i) l) a) ≡ marked (trace (step s i) l) a
      dull true = refl
      dull false = refl

      go : (b : Bool) → q i ≡ b → marked (trace (step s i) l) a ≡ marked (keep (event_in p q) (trace (step s i) l)) a
          → (((event s i).doubtful && has a (event s i).moved) || marked (trace (step s i) l) a)
          ≡ marked (cond (q (event s i).edge) (event s i ∷ keep (event_in p q) (trace (step s i) l)) (keep (event_in p q) (trace (step s i) l))) a
      go true h ih = let w : q (event s i).edge ≡ true = ap q (event_edge p q s i) ∙ h in rw w (ap (λ (b : Bool). ((event s i).doubtful && has a (event s i).moved) || b) ih)
      go false h ih = let w : q (event s i).edge ≡ false = ap q (event_edge p q s i) ∙ h in rw (w, event_out s c i h) (dull (event s i).doubtful ∙ ih)

-- ---- renaming

module _ (ρ σ : ℕ → ℕ) (inj : (a b : ℕ) → ρ a ≡ ρ b → a ≡ b) where
  has_ren : (a : ℕ) (l : List ℕ) → has (ρ a) (map ρ l) ≡ has a l
  unfolding has
  has_ren a [] = refl
  has_ren a (x ∷ l) = rw (eqb_renamed ρ inj a x, has_ren a l) refl

  marked_ren : (vs : List Event) (a : ℕ) → marked (map (ren_v ρ σ) vs) (ρ a) ≡ marked vs a
  unfolding marked marks ren_v
  marked_ren [] a = refl
  marked_ren (v ∷ vs) a = rw (has_ren a v.moved, marked_ren vs a) refl

-- a part's own run marks what the whole's does there
marked_image : (ρ σ : ℕ → ℕ) (p q : ℕ → Bool) (t s : State) → Embedding ρ σ p q t s → (a : ℕ) → p (ρ a) ≡ true → marked (trace s (merges s)) (ρ a) ≡ marked (trace t (merges t)) a
marked_image ρ σ p q t s m a h =
    marked_in p q (ρ a) h (merges s) s m.closed
    ∙ ap (λ (vs : List Event). marked vs (ρ a)) (trace_image ρ σ p q t s m (merges s) (merges t) (merges_image ρ σ p q t s m))
    ∙ marked_ren ρ σ m.ρ_inj (trace t (merges t)) a

-- ---- sweeps

-- the mark of gate g by the network's own run
abbrev pub own_mark : Sweep → List Float → ℕ → ℕ
own_mark s limits g = mark_at s limits (trace (first s limits) (merges (first s limits))) g

-- the mark of the whole at a gate of the echo is that of the echo alone
pub own_marks : (E : ℕ → Bool) (s : Sweep) (limits : List Float) → ApartBy E s limits → (g : ℕ) → E g ≡ true → own_mark s limits g ≡ own_mark (only E s) limits g
unfolding mark_at mark_of
own_marks E s limits A g h =
    ap (λ (l : ℕ). mark_of (trace (first s limits) (merges (first s limits))) l) (P.within g h) ∙ (unfold mark_of in rw (zero_same, image) refl)
  where
    bs : List Bool
    bs = flags E s limits

    P : Parts E (flags E s limits) (regions_of s limits) (regions_of (only E s) limits)
    P = labels_follow E s limits A

    a : ℕ
    a = at (regions_of (only E s) limits).labels g

    zero_same : eqb (shift (flags E s limits) (at (regions_of (only E s) limits).labels g)) 0 ≡ eqb (at (regions_of (only E s) limits).labels g) 0
    zero_same = unfold shift in eqb_renamed (shift (flags E s limits)) (shift_inj (flags E s limits)) (at (regions_of (only E s) limits).labels g) 0

    image : marked (trace (first s limits) (merges (first s limits))) (shift (flags E s limits) (at (regions_of (only E s) limits).labels g))
        ≡ marked (trace (first (only E s) limits) (merges (first (only E s) limits))) (at (regions_of (only E s) limits).labels g)
    image = marked_image (shift (flags E s limits)) (spot (map (record_in (flag (flags E s limits))) (used (length (flags E s limits)) (pairs_of s (regions_of s limits)))))
        (flag (flags E s limits)) (edge_side (flag (flags E s limits)) (used (length (flags E s limits)) (pairs_of s (regions_of s limits)))) (network_of (only E s) (regions_of (only E s) limits)) (network_of s (regions_of s limits))
        (network_embeds E s limits A (flags E s limits) P) (at (regions_of (only E s) limits).labels g) (flag_shift (flags E s limits) (at (regions_of (only E s) limits).labels g) (P.bound' g))

-- ---- merge lists

or_swap : (a b c : Bool) → (a || (b || c)) ≡ (b || (a || c))
or_swap true true c = refl
or_swap true false c = refl
or_swap false b c = refl

or_assoc : (a b c : Bool) → (a || (b || c)) ≡ ((a || b) || c)
or_assoc true b c = refl
or_assoc false b c = refl

-- what one side marks and what the other does
marked_sides : (f : Event → Bool) (vs : List Event) (x : ℕ) → marked vs x ≡ (marked (keep f vs) x || marked (keep (λ v. not (f v)) vs) x)
unfolding marked keep
marked_sides f [] x = refl
marked_sides f (v ∷ vs) x = go (f v) (marked_sides f vs x)
  where
    go : (b : Bool) → marked vs x ≡ (marked (keep f vs) x || marked (keep (λ v. not (f v)) vs) x)
        → (marks v x || marked vs x) ≡ (marked (cond b (v ∷ keep f vs) (keep f vs)) x || marked (cond (not b) (v ∷ keep (λ v. not (f v)) vs) (keep (λ v. not (f v)) vs)) x)
    go true ih = ap (λ (b : Bool). marks v x || b) ih ∙ or_assoc (marks v x) (marked (keep f vs) x) (marked (keep (λ v. not (f v)) vs) x)
    go false ih = ap (λ (b : Bool). marks v x || b) ih ∙ or_swap (marks v x) (marked (keep f vs) x) (marked (keep (λ v. not (f v)) vs) x)

-- two lists of events with the same on each side mark the same
pub sides_mark : (f : Event → Bool) (vs us : List Event) → keep f vs ≡ keep f us → keep (λ v. not (f v)) vs ≡ keep (λ v. not (f v)) us → (l : ℕ) → mark_of vs l ≡ mark_of us l
unfolding mark_of
sides_mark f vs us h k l = ap (λ (b : Bool). cond (not (eqb l 0) && b) 1 0) (marked_sides f vs l ∙ (rw (h, k) (sym (marked_sides f us l))))

-- Question 9 of a network that falls into two parts: it gets a yes at every merge exactly if it does in either part's own run. Assumes nothing.
use Prim.Native.Nat.{ℕ, suc, ◌+◌, ◌<◌}
use native.Mathlib.Omega.{arith}
use mathlib.Core.Path.{◌≡◌, refl, sym, ap, ◌∙◌}
use mathlib.Core.Logic.{◌↔◌}
use mathlib.Core.Bool.{Bool, true, false, not, ◌&&◌, true≢false}
use mathlib.Core.List.{List, [], ◌∷◌, map}
use lib.ListN.{length}
use lib.Ieee.{Float}
use Rattle.lists.specs.Seq.{keep, all, All}
use Rattle.locality.proofs.Spot.{zero_plus, one_plus, next_place}
use Rattle.edges.specs.declared.edges.EdgeRecord.{EdgeRecord}
use Rattle.network.specs.Network.{State, Event, in_range, merges, merges_in_range, trace, edge_of, numbered, alone, start}
use Rattle.network.proofs.Restrict.{edge_in, region_in, restrict, Closed}
use Rattle.locality.proofs.Rename.{ren_s, ren_v, merges_ren, trace_ren}
use Rattle.locality.proofs.Locality.{other}
use Rattle.locality.proofs.Embed.{Embedding}
use Rattle.locality.proofs.Accept.{Accepted, accepted_sides}
use Rattle.locality.proofs.EdgesEcho.{record_in}
use Rattle.locality.proofs.StartEcho.{edge_side}

abbrev Ok : Event → Type 0
Ok v = in_range v ≡ true

all_All : (l : List Event) → all in_range l ≡ true → All Ok l
unfolding all
all_All [] h = tt
all_All (v ∷ l) h = go (in_range v) refl h (all_All l)
  where
    go : (b : Bool) → in_range v ≡ b → (b && all in_range l) ≡ true → (all in_range l ≡ true → All Ok l) → Ok v × All Ok l
    go true e h ih = (e, ih h)
    go false e h ih = absurd (true≢false (sym h))

All_all : (l : List Event) → All Ok l → all in_range l ≡ true
unfolding all
All_all [] t = refl
All_all (v ∷ l) t = rw t.0 (All_all l t.1)

range_ren : (ρ σ : ℕ → ℕ) (l : List Event) → all in_range (map (ren_v ρ σ) l) ≡ all in_range l
unfolding all ren_v in_range
range_ren ρ σ [] = refl
range_ren ρ σ (v ∷ l) = ap (λ (b : Bool). in_range v && b) (range_ren ρ σ l)

-- a part's own run asks the same
pub range_image : (ρ σ : ℕ → ℕ) (p q : ℕ → Bool) (t s : State) → Embedding ρ σ p q t s → merges_in_range (restrict p q s) ≡ merges_in_range t
unfolding merges_in_range
range_image ρ σ p q t s m =
    ap (λ (u : State). all in_range (trace u (merges u))) (sym m.image)
    ∙ ap (λ (l : List ℕ). all in_range (trace (ren_s ρ σ t) l)) (merges_ren ρ σ m.ρ_inj m.σ_inj t)
    ∙ ap (all in_range) (trace_ren ρ σ m.ρ_inj m.σ_inj (merges t) t)
    ∙ range_ren ρ σ (trace t (merges t))

pub range_sides : (p q : ℕ → Bool) (s : State) → Closed p q s → (merges_in_range s ≡ true) ↔ ((merges_in_range (restrict p q s) ≡ true) × (merges_in_range (restrict (other p) (other q) s) ≡ true))
unfolding merges_in_range Accepted
range_sides p q s c = (
  (λ h. let w : Accepted Ok (restrict p q s) × Accepted Ok (restrict (other p) (other q) s) = (accepted_sides Ok p q s c).0 (all_All _ h) in (All_all _ w.0, All_all _ w.1)),
  (λ h. All_all _ ((accepted_sides Ok p q s c).1 (all_All _ h.0, all_All _ h.1))),
)

-- ---- the other side, by tests that say the contrary of every edge and region there is

keep_like : {A : Type 0} (f g : A → Bool) (l : List A) → All (λ x. f x ≡ g x) l → keep f l ≡ keep g l
unfolding keep
keep_like f g [] t = refl
keep_like f g (x ∷ l) t = rw (t.0, keep_like f g l t.1) refl

module _ (p p' : ℕ → Bool) where
  contrary : (q q' : ℕ → Bool) (w : Float) (k : ℕ) (rs : List EdgeRecord) → ((i : ℕ) → q (k + i) ≡ edge_side p rs i) → ((i : ℕ) → q' (k + i) ≡ edge_side p' rs i)
      → All (λ r. record_in p' r ≡ not (record_in p r)) rs → All (λ e. edge_in p' q' e ≡ edge_in (other p) (other q) e) (numbered w k rs)
  unfolding numbered edge_of edge_side edge_in other
  contrary q q' w k [] h h' t = tt
  contrary q q' w k (r ∷ rs) h h' t =
      let z : k + 0 ≡ k = omega arith in
      let a : q k ≡ record_in p r = rw z at (h 0) in
      let b : q' k ≡ record_in p' r = rw z at (h' 0) in
      (b ∙ t.0 ∙ ap not (sym a), contrary q q' w (suc k) rs (λ i. ap q (next_place k i) ∙ h (suc i)) (λ i. ap q' (next_place k i) ∙ h' (suc i)) t.1)

  contrary_regions : (q q' : ℕ → Bool) (k : ℕ) (ns : List ℕ) → ((i : ℕ) → i < length ns → p' (k + i) ≡ not (p (k + i))) → All (λ r. region_in p' q' r ≡ region_in (other p) (other q) r) (alone k ns)
  unfolding alone region_in other
  contrary_regions q q' k [] h = tt
  contrary_regions q q' k (n ∷ ns) h =
      let z : k + 0 ≡ k = omega arith in
      let a : p' k ≡ not (p k) = rw z at (h 0 (omega arith)) in
      (a, contrary_regions q q' (suc k) ns (λ i v. ap p' (next_place k i) ∙ h (suc i) (omega arith) ∙ ap (λ (n : ℕ). not (p n)) (sym (next_place k i))))

  pub restrict_other : (w : Float) (rs : List EdgeRecord) (ns : List ℕ) → All (λ r. record_in p' r ≡ not (record_in p r)) rs → ((i : ℕ) → i < length ns → p' (suc i) ≡ not (p (suc i)))
      → restrict p' (edge_side p' rs) (start w rs ns) ≡ restrict (other p) (other (edge_side p rs)) (start w rs ns)
  unfolding restrict start
  restrict_other w rs ns t h = λ i. record {
    edges = keep_like _ _ (numbered w 0 rs) (contrary (edge_side p rs) (edge_side p' rs) w 0 rs (λ i. ap (edge_side p rs) (zero_plus i)) (λ i. ap (edge_side p' rs) (zero_plus i)) t) i;
    regions = keep_like _ _ (alone 1 ns) (contrary_regions (edge_side p rs) (edge_side p' rs) 1 ns (λ i v. ap p' (one_plus i) ∙ h i v ∙ ap (λ (n : ℕ). not (p n)) (sym (one_plus i)))) i;
  }

-- A network that lies in another as a closed part: the part's own run is what the whole's run does there.
-- Assumes nothing.
use Prim.Native.Nat.{ℕ}
use mathlib.Core.Path.{◌≡◌, refl, sym, ap, ◌∙◌}
use mathlib.Core.Bool.{Bool, true, false, cond}
use mathlib.Core.List.{List, [], ◌∷◌, map}
use lib.Dec.{eqb}
use Rattle.lists.specs.Seq.{keep}
use Rattle.lists.proofs.SeqLaws.{eqb_renamed}
use Rattle.network.specs.Network.{Region, State, count_of, merges, replay, trace}
use Rattle.network.proofs.Lists.{apart}
use Rattle.network.proofs.Restrict.{region_in, restrict, Closed, event_in, replay_in, trace_in}
use Rattle.network.proofs.Own.{merges_in}
use Rattle.locality.proofs.Rename.{ren_r, ren_s, ren_v, merges_ren, replay_ren, trace_ren}

-- a region on the side has its count there
count_in : (p q : ℕ → Bool) (a : ℕ) → p a ≡ true → (rs : List Region) → count_of (keep (region_in p q) rs) a ≡ count_of rs a
unfolding count_of keep region_in
count_in p q a pa [] = refl
count_in p q a pa (r ∷ rs) = go (p r.label) refl (count_in p q a pa rs)
  where
    go : (b : Bool) → p r.label ≡ b → count_of (keep (region_in p q) rs) a ≡ count_of rs a
        → count_of (cond b (r ∷ keep (region_in p q) rs) (keep (region_in p q) rs)) a ≡ cond (eqb a r.label) r.count (count_of rs a)
    go true h ih = rw ih refl
    go false h ih = rw (apart p a r.label pa h) ih

-- The part `t`, renamed by ρ and σ, is what the whole `s` has on the side p, q, and no edge of `s` joins the sides.
pub record Embedding (ρ σ : ℕ → ℕ) (p q : ℕ → Bool) (t s : State) : Type 0 where
  pub closed : Closed p q s
  pub image : ren_s ρ σ t ≡ restrict p q s
  pub ρ_inj : (a b : ℕ) → ρ a ≡ ρ b → a ≡ b
  pub σ_inj : (a b : ℕ) → σ a ≡ σ b → a ≡ b

module _ (ρ σ : ℕ → ℕ) (p q : ℕ → Bool) (t s : State) (m : Embedding ρ σ p q t s) where
  -- the whole's merges inside are the part's, in order
  pub merges_image : keep q (merges s) ≡ map σ (merges t)
  merges_image = merges_in p q s m.closed ∙ ap merges (sym m.image) ∙ merges_ren ρ σ m.ρ_inj m.σ_inj t

  -- a list of merges, with whatever merges outside, does inside what the part's list does
  replay_image : (l k : List ℕ) → keep q l ≡ map σ k → restrict p q (replay s l) ≡ ren_s ρ σ (replay t k)
  replay_image l k h = replay_in p q l s m.closed ∙ (rw (h, ← m.image) (replay_ren ρ σ m.ρ_inj m.σ_inj k t))

  pub trace_image : (l k : List ℕ) → keep q l ≡ map σ k → keep (event_in p q) (trace s l) ≡ map (ren_v ρ σ) (trace t k)
  trace_image l k h = trace_in p q l s m.closed ∙ (rw (h, ← m.image) (trace_ren ρ σ m.ρ_inj m.σ_inj k t))

  count_ren : (rs : List Region) (a : ℕ) → count_of (map (ren_r ρ σ) rs) (ρ a) ≡ count_of rs a
  unfolding count_of ren_r
  count_ren [] a = refl
  count_ren (r ∷ rs) a = rw (eqb_renamed ρ m.ρ_inj a r.label, count_ren rs a) refl

  -- the counts of the whole's last state are the part's
  pub counts_image : (a : ℕ) → p (ρ a) ≡ true → count_of (replay s (merges s)).regions (ρ a) ≡ count_of (replay t (merges t)).regions a
  unfolding restrict ren_s
  counts_image a h =
      sym (count_in p q (ρ a) h (replay s (merges s)).regions)
      ∙ ap (λ (u : State). count_of u.regions (ρ a)) (replay_image (merges s) (merges t) merges_image)
      ∙ count_ren (replay t (merges t)).regions a

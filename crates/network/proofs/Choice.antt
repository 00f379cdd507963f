-- What code on arrays needs: the choice by its properties; a node's size after a merge.
-- Assumes nothing.
use Prim.Native.Nat.{ℕ, zero, suc, ◌+◌, ◌≤◌, ◌<◌}
use native.Mathlib.Omega.{arith}
use mathlib.Core.Path.{◌≡◌, refl, sym, ap, ◌∙◌}
use mathlib.Core.Bool.{Bool, true, false, ◌&&◌, cond}
use mathlib.Core.List.{List, [], ◌∷◌, map}
use mathlib.Core.Option.{Option, none, some, none-ne-some, some-injective}
use lib.Dec.{leb, eqb}
use lib.ListN.{length, get_or}
use borrow.Author.Tests.{le-leb, lt-leb, eqb-true}
use Rattle.lists.proofs.SeqLaws.{eqb_refl}
use Rattle.lists.proofs.AllLaws.{and_left}
use Rattle.network.specs.Network.{Edge, Region, Plan, size_of, move, better, choose}

-- Edge i is the heaviest live one, and heavier than every live one before it.
pub record Best (d : Edge) (es : List Edge) (i : ℕ) : Type 0 where
  pub within : i < length es
  pub live : (get_or es i d).live ≡ true
  pub heaviest : (j : ℕ) → j < length es → (get_or es j d).live ≡ true → (get_or es j d).link.weight ≤ (get_or es i d).link.weight
  pub earliest : (j : ℕ) → j < i → (get_or es j d).live ≡ true → (get_or es j d).link.weight < (get_or es i d).link.weight

choose_place : (d : Edge) (es : List Edge) (g : Edge) → choose es ≡ some g → (j : ℕ) × (j < length es) × (get_or es j d ≡ g) × (g.live ≡ true)
unfolding choose better
choose_place d [] g h = absurd (none-ne-some g h)
choose_place d (e ∷ es) g h = go (choose es) refl h (choose_place d es)
  where
    here : e.live ≡ true → e ≡ g → (j : ℕ) × (j < suc (length es)) × (get_or (e ∷ es) j d ≡ g) × (g.live ≡ true)
    here l w = (0, omega arith, w, ap (λ (x : Edge). x.live) (sym w) ∙ l)

    go₀ : (b : Bool) → e.live ≡ b → cond b (some e) none ≡ some g → (j : ℕ) × (j < suc (length es)) × (get_or (e ∷ es) j d ≡ g) × (g.live ≡ true)
    go₀ true l r = here l (some-injective e g r)
    go₀ false l r = absurd (none-ne-some g r)

    go₁ : (f : Edge) (b : Bool) → (e.live && leb f.link.weight e.link.weight) ≡ b → cond b (some e) (some f) ≡ some g
        → (f ≡ g → (j : ℕ) × (j < length es) × (get_or es j d ≡ g) × (g.live ≡ true)) → (j : ℕ) × (j < suc (length es)) × (get_or (e ∷ es) j d ≡ g) × (g.live ≡ true)
    go₁ f true l r ih = here (and_left e.live _ l) (some-injective e g r)
    go₁ f false l r ih = let w : (j : ℕ) × (j < length es) × (get_or es j d ≡ g) × (g.live ≡ true) = ih (some-injective f g r) in (suc w.0, omega (arith, w.1), w.2, w.3)

    go : (o : Option Edge) → choose es ≡ o → better e o ≡ some g → ((f : Edge) → choose es ≡ some f → (j : ℕ) × (j < length es) × (get_or es j d ≡ f) × (f.live ≡ true))
        → (j : ℕ) × (j < suc (length es)) × (get_or (e ∷ es) j d ≡ g) × (g.live ≡ true)
    go none c r ih = go₀ e.live refl r
    go (some f) c r ih = go₁ f (e.live && leb f.link.weight e.link.weight) refl r (λ w. ih g (c ∙ ap some w))

pub best_chosen : (d : Edge) (es : List Edge) (i : ℕ) → Best d es i → choose es ≡ some (get_or es i d)
unfolding choose better
best_chosen d [] i h = absurd (omega (arith, h.within))
best_chosen d (e ∷ es) zero h = go (choose es) refl
  where
    go : (o : Option Edge) → choose es ≡ o → better e o ≡ some e
    go none c = rw h.live refl
    go (some g) c =
        let w : (j : ℕ) × (j < length es) × (get_or es j d ≡ g) × (g.live ≡ true) = choose_place d es g c in
        let le : (get_or es w.0 d).link.weight ≤ e.link.weight = h.heaviest (suc w.0) (omega (arith, w.1)) (ap (λ (x : Edge). x.live) w.2 ∙ w.3) in
        let le' : g.link.weight ≤ e.link.weight = rw w.2 at le in
        rw (h.live, le-leb g.link.weight e.link.weight le') refl
best_chosen d (e ∷ es) (suc i) h = rw (best_chosen d es i (record {
  within = omega (arith, h.within);
  live = h.live;
  heaviest = λ j w l. h.heaviest (suc j) (omega arith) l;
  earliest = λ j w l. h.earliest (suc j) (omega arith) l;
})) (go e.live refl)
  where
    go : (b : Bool) → e.live ≡ b → cond (b && leb (get_or es i d).link.weight e.link.weight) (some e) (some (get_or es i d)) ≡ some (get_or es i d)
    go true l = rw (lt-leb (get_or es i d).link.weight e.link.weight (h.earliest 0 (omega arith) l)) refl
    go false l = refl

-- The base's size after a merge
pub size_base : (pl : Plan) → eqb pl.base pl.moved ≡ false → (rs : List Region) → size_of (map (move pl) rs) pl.base ≡ size_of rs pl.base + size_of rs pl.moved
unfolding size_of move
size_base pl n [] = refl
size_base pl n (r ∷ rs) = go (eqb pl.moved r.node) refl (size_base pl n rs)
  where
    go : (x : Bool) → eqb pl.moved r.node ≡ x → size_of (map (move pl) rs) pl.base ≡ size_of rs pl.base + size_of rs pl.moved
        → cond (eqb pl.base (cond x pl.base r.node)) r.size 0 + size_of (map (move pl) rs) pl.base
        ≡ (cond (eqb pl.base r.node) r.size 0 + size_of rs pl.base) + (cond x r.size 0 + size_of rs pl.moved)
    go true h ih =
        let w : eqb pl.base r.node ≡ false = ap (eqb pl.base) (sym (eqb-true pl.moved r.node h)) ∙ n in
        rw (eqb_refl pl.base, w) (omega arith)
    go false h ih = omega arith

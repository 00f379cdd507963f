-- The chains of slots: in other tables, and the slots of an edge on them. Assumes nothing.
use mathlib.Core.Path.{◌≡◌, sym, ap, ◌∙◌, subst}
use mathlib.Core.Logic.{◌⊎◌, inl, inr}
use mathlib.Core.Bool.{true}
use mathlib.Core.List.{List}
use Prim.Native.Nat.{ℕ, suc, ◌+◌, ◌*◌, ◌-◌, ◌/◌, ◌≤◌, ◌<◌}
use native.Mathlib.Omega.{arith}
use lib.ListN.{get_or}
use Rattle.network.specs.Network.{Edge}
use Rattle.merge.specs.Inside.Tables.{Tables}
use Rattle.merge.specs.Inside.Table.{enext, elen}
use Rattle.merge.specs.Inside.Chain.{cur, Chains}
use Rattle.network.specs.Inside.Rep.{Circled, Ends}
use Rattle.network.proofs.Circles.{later}

-- the same chains in other tables
pub circled_by : (m n : ℕ) (node : ℕ → ℕ) (E : ℕ → Edge) (s s' : Tables) (o q l : ℕ → ℕ) → s'.at enext ≡ s.at enext → s'.at elen ≡ s.at elen → Circled m n node E s o q l → Circled m n node E s' o q l
circled_by m n node E s s' o q l e f C = record {
  echains = subst (λ (N : List ℕ). Chains N (2 * m + n) o q l) (sym e) C.echains;
  header = C.header;
  lengths = λ x h w. C.lengths x h w ∙ ap (λ (y : List ℕ). get_or y x 0) (sym f);
  ends = C.ends;
}

-- fewer live edges
pub circled_less : (m n : ℕ) (node : ℕ → ℕ) (E K : ℕ → Edge) (s : Tables) (o q l : ℕ → ℕ) → ((j : ℕ) → (K j).live ≡ true → ((E j).live ≡ true) × (K j ≡ E j)) → Circled m n node E s o q l → Circled m n node K s o q l
circled_less m n node E K s o q l w C = record {
  echains = C.echains;
  header = C.header;
  lengths = C.lengths;
  ends = λ j h k. subst (Ends m o j) (sym (w j k).1) (C.ends j h (w j k).0);
}

-- a slot of edge j in the chain of node x
pub record At (m : ℕ) (o : ℕ → ℕ) (j x : ℕ) : Type 0 where
  pub slot : ℕ
  pub slot_in : slot < 2 * m
  pub slot_of : slot / 2 ≡ j
  pub owner : o slot ≡ 2 * m + x

pub at_end : (m : ℕ) (o : ℕ → ℕ) (j : ℕ) (e : Edge) (x : ℕ) → j < m → Ends m o j e → (e.first ≡ x) ⊎ (e.second ≡ x) → At m o j x
at_end m o j e x h = go
  where
    even : o (2 * j) ≡ 2 * m + x → At m o j x
    even w = record { slot = 2 * j; slot_in = omega arith; slot_of = omega arith; owner = w }

    odd : o (2 * j + 1) ≡ 2 * m + x → At m o j x
    odd w = record { slot = 2 * j + 1; slot_in = omega arith; slot_of = omega arith; owner = w }

    go : Ends m o j e → (e.first ≡ x) ⊎ (e.second ≡ x) → At m o j x
    go (inl p) (inl q) = even (p.0 ∙ ap (λ (y : ℕ). 2 * m + y) q)
    go (inl p) (inr q) = odd (p.1 ∙ ap (λ (y : ℕ). 2 * m + y) q)
    go (inr p) (inl q) = odd (p.1 ∙ ap (λ (y : ℕ). 2 * m + y) q)
    go (inr p) (inr q) = even (p.0 ∙ ap (λ (y : ℕ). 2 * m + y) q)

-- a slot of node x's chain is met on the walk along it
pub met : (m n : ℕ) (node : ℕ → ℕ) (K : ℕ → Edge) (s : Tables) (o q l : ℕ → ℕ) → Circled m n node K s o q l → (j x : ℕ) → x < n → node x ≡ x → At m o j x
    → (i : ℕ) × (i < get_or (s.at elen) x 0 - 1) × (cur (s.at enext) (get_or (s.at enext) (2 * m + x) 0) i / 2 ≡ j)
unfolding cur
met m n node K s o q l C j x h w a =
    let sl : ℕ = a.slot in
    let inside : sl < 2 * m + n = omega (arith, a.slot_in) in
    let p : 1 ≤ q sl = later (s.at enext) (2 * m + n) o q l C.echains sl inside (λ e. omega (arith, a.owner, a.slot_in)) in
    let k : suc (q sl - 1) ≡ q sl = omega arith in (
      q sl - 1,
      omega (arith, C.echains.here sl inside, ap l a.owner, C.lengths x h w),
      ap (λ (y : ℕ). cur (s.at enext) (2 * m + x) y / 2) k ∙ ap (λ (y : ℕ). cur (s.at enext) y (q sl) / 2) (sym a.owner) ∙ ap (λ (y : ℕ). y / 2) (C.echains.at sl inside) ∙ a.slot_of,
    )

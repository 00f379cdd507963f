-- The labels of a sweep whose limits never fall: paths and order, in the words of RegionMap. Assumes nothing.
use Prim.Native.Nat.{ℕ, suc, ◌<◌}
use native.Mathlib.Omega.{arith}
use mathlib.Core.Path.{◌≡◌, refl, sym, ◌∙◌}
use mathlib.Core.Logic.{inl, inr, ⊎_elim}
use mathlib.Core.List.{List, [], ◌∷◌}
use lib.ListN.{length, get_or, get_or-eq_default}
use lib.Ieee.{nan}
use Rattle.lists.specs.Seq.{All}
use Rattle.lists.proofs.SegLaws.{lt_or_le}
use Rattle.arithmetic.specs.Inside.Asked.{Rising}
use Rattle.labels.specs.Regions.{regions}
use Rattle.labels.specs.Inside.Bands.{window}
use Rattle.labels.proofs.JointLaws.{mod_pos}
use Rattle.labels.proofs.OwnLaws.{within_is, within_valid, within_from, within_to}
use Rattle.labels.proofs.RegionLaws.{one_label_joined, lies_labelled, beside_one_label}
use Rattle.labels.proofs.Ways.{Beside, Way, rest, later, earlier, Lies}
use Rattle.labels.proofs.Order as Order
use Rattle.sweep.specs.Sweep.{Sweep}
use Rattle.sweep.specs.Questions.{own_limits}
use Rattle.locality.specs.RegionMap.{Next, along, across, Touch, Inside, Steps, end}

-- ---- neighbours
next_beside : (gates g h : ℕ) → Next gates g h → Beside gates g h
next_beside gates g h (along e n) = inr (n, omega arith)
next_beside gates g h (across e) = inl (omega arith, omega arith)

beside_next : (gates g h : ℕ) → Beside gates g h → Next gates g h
beside_next gates g h (inl p) = across (omega (arith, p.0, p.1))
beside_next gates g h (inr p) = along (omega (arith, p.1, mod_pos h gates p.0)) p.0

module _ (s : Sweep) (rising : Rising (own_limits s)) where
  abbrev gates : ℕ
  gates = s.shape.gates

  abbrev label_of : ℕ → ℕ
  label_of g = get_or (regions s.shape.gates s.vel s.mask (own_limits s)).labels g 0

  -- ---- inside an interval, as region finding says it
  inside_lies : (j g : ℕ) → Inside s j g → Lies s.vel s.mask (own_limits s) j g
  unfolding window
  inside_lies j g p = within_is (window (own_limits s) j) (get_or s.vel g nan) (get_or s.mask g 0) p.valid p.above ∙ p.below

  at : (j g : ℕ) → Inside s j g → Order.At gates s.vel s.mask (own_limits s) rising j g
  at j g p = record { here = p.here; interval = p.interval; lies = inside_lies j g p }

  valid_here : (g : ℕ) → get_or s.mask g 0 ≡ 1 → g < length s.mask
  valid_here g e = ⊎_elim (λ h. h) (λ h. absurd (none (get_or-eq_default s.mask 0 h))) (lt_or_le g (length s.mask))
    where
      none : get_or s.mask g 0 ≡ 0 → ⊥
      none z = omega arith

  lies_inside : (j g : ℕ) → suc j < length (own_limits s) → Lies s.vel s.mask (own_limits s) j g → Inside s j g
  unfolding window
  lies_inside j g h p =
      let v = within_valid (window (own_limits s) j) (get_or s.vel g nan) (get_or s.mask g 0) p in
      record {
        here = valid_here g v;
        valid = v;
        interval = h;
        above = within_from (window (own_limits s) j) (get_or s.vel g nan) (get_or s.mask g 0) p;
        below = within_to (window (own_limits s) j) (get_or s.vel g nan) (get_or s.mask g 0) p;
      }

  -- ---- along a path the label stays
  beside_same : (j g h : ℕ) → Inside s j g → Inside s j h → Beside gates g h → label_of g ≡ label_of h
  beside_same j g h p q b = (beside_one_label gates s.vel s.mask (own_limits s) rising g h j p.here q.here p.interval (inside_lies j g p) (inside_lies j h q) b).1

  touch_same : (j g h : ℕ) → Inside s j g → Inside s j h → Touch gates g h → label_of g ≡ label_of h
  touch_same j g h p q t = ⊎_elim (λ n. beside_same j g h p q (next_beside gates g h n)) (λ n. sym (beside_same j h g q p (next_beside gates h g n))) t

  pub path_same : (j g : ℕ) (hs : List ℕ) → Steps gates g hs → All (Inside s j) (g ∷ hs) → label_of g ≡ label_of (end g hs)
  path_same j g [] t p = refl
  path_same j g (h ∷ hs) t p = touch_same j g h p.0 p.1.0 t.0 ∙ path_same j h hs t.1 p.1

  pub inside_labelled : (j g : ℕ) → Inside s j g → 0 < label_of g
  inside_labelled j g p = lies_labelled gates s.vel s.mask (own_limits s) rising g j p.here p.interval (inside_lies j g p)

  -- ---- and gates of one label have a path
  pub record Walk (j g h : ℕ) : Type 0 where
    pub through : List ℕ
    pub steps : Steps gates g through
    pub ends : end g through ≡ h
    pub inside : All (Inside s j) (g ∷ through)

  step : (j g h k : ℕ) → Inside s j g → Touch gates g h → Walk j h k → Walk j g k
  step j g h k p t w = record { through = h ∷ w.through; steps = (t, w.steps); ends = w.ends; inside = (p, w.inside) }

  way_walk : (j g h : ℕ) → suc j < length (own_limits s) → Way gates (Lies s.vel s.mask (own_limits s) j) g h → Walk j g h
  way_walk j g h l (rest k p) = record { through = []; steps = tt; ends = refl; inside = (lies_inside j k l p, tt) }
  way_walk j g h l (later {a = a} {b = b} p t w) = step j a b h (lies_inside j a l p) (inl (beside_next gates a b t)) (way_walk j b h l w)
  way_walk j g h l (earlier {a = a} {b = b} p t w) = step j a b h (lies_inside j a l p) (inr (beside_next gates b a t)) (way_walk j b h l w)

  pub walk : (g h : ℕ) → 0 < label_of g → label_of g ≡ label_of h → (j : ℕ) × Walk j g h
  walk g h p e =
      let w = one_label_joined gates s.vel s.mask (own_limits s) rising g h p (sym e) in
      (w.0, way_walk w.0 g h w.1 w.2)

  -- ---- order
  pub by_interval : (i j g h : ℕ) → Inside s i g → Inside s j h → i < j → label_of g < label_of h
  by_interval i j g h p q = Order.by_interval gates s.vel s.mask (own_limits s) rising i j g h (at i g p) (at j h q)

  pub by_first : (j g h : ℕ) → Inside s j g → Inside s j h → ((i : ℕ) → i < g → label_of i ≡ label_of g → ⊥) → ((i : ℕ) → i < h → label_of i ≡ label_of h → ⊥) → g < h → label_of g < label_of h
  by_first j g h p q = Order.by_first gates s.vel s.mask (own_limits s) rising j g h (at j g p) (at j h q)

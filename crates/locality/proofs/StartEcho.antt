-- The first network of a sweep: closed where no record joins the sides; and the network of an echo alone lies in it. Assumes nothing.
use Prim.Native.Nat.{ℕ, zero, suc, ◌+◌, ◌≤◌, ◌<◌}
use native.Mathlib.Omega.{arith}
use mathlib.Core.Path.{◌≡◌, refl, sym, ap, ◌∙◌}
use mathlib.Core.Bool.{Bool, true, false, cond, ◌&&◌}
use mathlib.Core.List.{List, [], ◌∷◌, map, head-eq_of_cons-eq, tail-eq_of_cons-eq, nil≢cons, cons≢nil, map-map}
use lib.ListN.{length, get_or}
use lib.Ieee.{Float}
use lib.IntN.{pos}
use Rattle.lists.specs.Seq.{upto, keep, All}
use Rattle.lists.proofs.SeqLaws.{keep_of_map, keep_same, map-upto_same}
use Rattle.locality.proofs.Spot.{spot, trues, shift, flag, spot_rises, rising_inj, shift_inj, shifts_kept, zero_plus, next_place}
use Rattle.edges.specs.Edges.{difference}
use Rattle.edges.specs.declared.edges.EdgeRecord.{EdgeRecord}
use Rattle.network.specs.Network.{Region, merges, edge_of, numbered, alone, start}
use Rattle.network.proofs.Restrict.{edge_in, region_in, restrict, OkE, OkR, Closed}
use Rattle.locality.proofs.Rename.{ren_e, ren_r, ren_s}
use Rattle.locality.proofs.Embed.{Embedding}
use Rattle.locality.proofs.Locality.{SameSides, Agrees, lists_agree}
use Rattle.locality.proofs.EdgesEcho.{record_in, ren_q}

-- whether edge i lies on the side: both labels of its record do
unfoldable pub edge_side : (ℕ → Bool) → List EdgeRecord → ℕ → Bool
edge_side p rs i = get_or (map (record_in p) rs) i false

-- no record joins the sides
abbrev pub Unjoined : (ℕ → Bool) → List EdgeRecord → Type 0
Unjoined p rs = All (λ r. p r.one ≡ p r.two) rs

module _ (p : ℕ → Bool) (w : Float) where
  and_same : (a b : Bool) → a ≡ b → (a ≡ (a && b)) × (b ≡ (a && b))
  and_same true b h = (h, refl)
  and_same false b h = (refl, sym h)

  numbered_ok : (q : ℕ → Bool) (k : ℕ) (rs : List EdgeRecord) → ((i : ℕ) → q (k + i) ≡ edge_side p rs i) → Unjoined p rs → All (OkE p q) (numbered w k rs)
  unfolding numbered edge_of edge_side record_in
  numbered_ok q k [] h t = tt
  numbered_ok q k (r ∷ rs) h t =
      let z : k + 0 ≡ k = omega arith in
      let v : q k ≡ (p r.one && p r.two) = rw z at (h 0) in
      let both : (p r.one ≡ (p r.one && p r.two)) × (p r.two ≡ (p r.one && p r.two)) = and_same (p r.one) (p r.two) t.0 in
      ((both.0 ∙ sym v, both.1 ∙ sym v), numbered_ok q (suc k) rs (λ i. ap q (next_place k i) ∙ h (suc i)) t.1)

  alone_ok : (q : ℕ → Bool) (k : ℕ) (ns : List ℕ) → All (OkR p q) (alone k ns)
  unfolding alone
  alone_ok q k [] = tt
  alone_ok q k (n ∷ ns) = (refl, alone_ok q (suc k) ns)

  closed_start : (rs : List EdgeRecord) (ns : List ℕ) → Unjoined p rs → Closed p (edge_side p rs) (start w rs ns)
  unfolding start
  closed_start rs ns t = record { edges_ok = numbered_ok (edge_side p rs) 0 rs (λ i. ap (edge_side p rs) (zero_plus i)) t; regions_ok = alone_ok (edge_side p rs) 1 ns }

  -- Merge lists: every one does what the run does
  pub every_merge_list : (rs : List EdgeRecord) (ns : List ℕ) → Unjoined p rs → (l : List ℕ) → SameSides p (edge_side p rs) l (merges (start w rs ns)) → Agrees p (edge_side p rs) (start w rs ns) l
  every_merge_list rs ns t l h = lists_agree p (edge_side p rs) (start w rs ns) (closed_start rs ns t) l h

-- ---- the echo's network in the sweep's

module _ (bs : List Bool) (w : Float) where
  abbrev ρ : ℕ → ℕ
  ρ = shift bs

  abbrev T : EdgeRecord → Bool
  T = record_in (flag bs)

  numbered_ren : (q : ℕ → Bool) (σ : ℕ → ℕ) (rs rs' : List EdgeRecord) (k m : ℕ) → keep T rs ≡ map (ren_q ρ) rs' → ((i : ℕ) → q (k + i) ≡ edge_side (flag bs) rs i)
      → ((i : ℕ) → σ (m + i) ≡ k + spot (map T rs) i) → keep (edge_in (flag bs) q) (numbered w k rs) ≡ map (ren_e ρ σ) (numbered w m rs')
  unfolding numbered keep spot edge_side edge_of difference edge_in ren_e ren_q
  numbered_ren q σ [] [] k m e h r = refl
  numbered_ren q σ [] (x ∷ rs') k m e h r = absurd (nil≢cons e)
  numbered_ren q σ (x ∷ rs) rs' k m e h r = go (T x) refl rs' e r (numbered_ren q σ rs)
    where
      z : k + 0 ≡ k
      z = omega arith

      inside : (b : Bool) → T x ≡ b → edge_in (flag bs) q (edge_of w k x) ≡ b
      inside b t = ap q (sym z) ∙ h 0 ∙ t

      go : (b : Bool) → T x ≡ b → (rs' : List EdgeRecord) → cond b (x ∷ keep T rs) (keep T rs) ≡ map (ren_q ρ) rs' → ((i : ℕ) → σ (m + i) ≡ k + spot (b ∷ map T rs) i)
          → ((rs' : List EdgeRecord) (k m : ℕ) → keep T rs ≡ map (ren_q ρ) rs' → ((i : ℕ) → q (k + i) ≡ edge_side (flag bs) rs i)
          → ((i : ℕ) → σ (m + i) ≡ k + spot (map T rs) i) → keep (edge_in (flag bs) q) (numbered w k rs) ≡ map (ren_e ρ σ) (numbered w m rs'))
          → cond (edge_in (flag bs) q (edge_of w k x)) (edge_of w k x ∷ keep (edge_in (flag bs) q) (numbered w (suc k) rs)) (keep (edge_in (flag bs) q) (numbered w (suc k) rs)) ≡ map (ren_e ρ σ) (numbered w m rs')
      go false t rs' e r ih = rw (inside false t) (ih rs' (suc k) m e (λ i. ap q (next_place k i) ∙ h (suc i)) (λ i. r i ∙ omega arith))
      go true t [] e r ih = absurd (cons≢nil e)
      go true t (y ∷ ys) e r ih =
          let tail : keep (edge_in (flag bs) q) (numbered w (suc k) rs) ≡ map (ren_e ρ σ) (numbered w (suc m) ys)
          = ih ys (suc k) (suc m) (tail-eq_of_cons-eq e) (λ i. ap q (next_place k i) ∙ h (suc i)) (λ i. ap σ (next_place m i) ∙ r (suc i) ∙ omega arith) in
          let y0 : m + 0 ≡ m = omega arith in
          let here : σ m ≡ k = ap σ (sym y0) ∙ r 0 ∙ z in
          let head : edge_of w k x ≡ ren_e ρ σ (edge_of w m y) = rw (head-eq_of_cons-eq e, here) refl in
          rw (inside true t, tail, head) refl

  -- one region
  lone : (ℕ → ℕ) → ℕ → Region
  lone h l = record { label = l; size = h l; node = l; count = pos 0 }

  alone_map : (h : ℕ → ℕ) (n k : ℕ) → alone k (map h (upto n k)) ≡ map (lone h) (upto n k)
  unfolding alone upto lone
  alone_map h zero k = refl
  alone_map h (suc n) k = rw (alone_map h n (suc k)) refl

  regions_ren : (q : ℕ → Bool) (σ h h' : ℕ → ℕ) → ((l : ℕ) → 0 < l → l ≤ trues bs → h (ρ l) ≡ h' l)
      → keep (region_in (flag bs) q) (alone 1 (map h (upto (length bs) 1))) ≡ map (ren_r ρ σ) (alone 1 (map h' (upto (trues bs) 1)))
  unfolding region_in lone ren_r
  regions_ren q σ h h' e =
      ap (keep (region_in (flag bs) q)) (alone_map h (length bs) 1)
      ∙ keep_of_map (lone h) (region_in (flag bs) q) (upto (length bs) 1)
      ∙ ap (map (lone h)) (keep_same _ (flag bs) (upto (length bs) 1) (λ l. refl) ∙ shifts_kept bs)
      ∙ map-map (lone h) ρ (upto (trues bs) 1)
      ∙ map-upto_same (λ l. lone h (ρ l)) (λ l. ren_r ρ σ (lone h' l)) (trues bs) 1 (λ l a b. same_size_lem l (e l a (omega arith)))
      ∙ sym (map-map (ren_r ρ σ) (lone h') (upto (trues bs) 1))
      ∙ ap (map (ren_r ρ σ)) (sym (alone_map h' (trues bs) 1))
    where
      same_size_lem : (l : ℕ) → h (ρ l) ≡ h' l → lone h (ρ l) ≡ ren_r ρ σ (lone h' l)
      same_size_lem l q = rw q refl

  -- the echo's network, renamed, is what the sweep's has on the echo's side
  pub start_embeds : (rs rs' : List EdgeRecord) (h h' : ℕ → ℕ) → Unjoined (flag bs) rs → keep T rs ≡ map (ren_q ρ) rs' → ((l : ℕ) → 0 < l → l ≤ trues bs → h (ρ l) ≡ h' l)
      → Embedding ρ (spot (map T rs)) (flag bs) (edge_side (flag bs) rs) (start w rs' (map h' (upto (trues bs) 1))) (start w rs (map h (upto (length bs) 1)))
  unfolding start ren_s restrict
  start_embeds rs rs' h h' t e s = record {
    closed = closed_start (flag bs) w rs (map h (upto (length bs) 1)) t;
    image = λ i. record {
      edges = sym (numbered_ren (edge_side (flag bs) rs) (spot (map T rs)) rs rs' 0 0 e (λ i. ap (edge_side (flag bs) rs) (zero_plus i)) (λ i. ap (spot (map T rs)) (zero_plus i) ∙ sym (zero_plus (spot (map T rs) i)))) i;
      regions = sym (regions_ren (edge_side (flag bs) rs) (spot (map T rs)) h h' s) i;
    };
    ρ_inj = shift_inj bs;
    σ_inj = rising_inj (spot (map T rs)) (spot_rises (map T rs));
  }

-- The tables that finding the edges and counting the sizes leave stand for the network of the definition. Assumes nothing.
use Prim.Native.Nat.{ℕ, zero, suc, ◌+◌, ◌*◌, ◌≤◌, ◌<◌, ◌^◌}
use native.Mathlib.Omega.{arith}
use mathlib.Core.Path.{◌≡◌, refl, sym, ap, ◌∙◌, subst}
use mathlib.Core.Logic.{inl, inr, ⊎_elim}
use mathlib.Core.Bool.{Bool, true, false, not, cond}
use mathlib.Core.List.{List, [], ◌∷◌, map}
use lib.Dec.{T, eqb}
use lib.IntN.{pos}
use lib.ListN.{length, get_or}
use lib.Ieee.{Float, nan, inf, fin, binary32, fits}
use lib.Ieee.Fits.{round-fits, nan-fits, inf-fits}
use borrow.Author.Tests.{ne_eqb, eqb-true}
use Rattle.lists.proofs.AllLaws.{upto_mem}
use Rattle.lists.specs.Seq.{tabulate, keep, sum, upto}
use Rattle.lists.specs.Inside.Seg.{seg}
use Rattle.arithmetic.specs.Rounding.{narrowed}
use Rattle.lists.proofs.SeqLaws.{tab_at, map-upto_same, map_at}
use Rattle.lists.proofs.SegLaws.{lt_or_le, get_or-seg}
use Rattle.edges.specs.declared.edges.EdgeRecord.{EdgeRecord}
use Rattle.edges.specs.Edges.{difference, used}
use Rattle.edges.specs.declared.edges.Pair.{Pair}
use Rattle.network.proofs.SimpleLaws.{joined_back}
use Rattle.network.specs.Network as Network
use Rattle.network.specs.Network.{Edge, Region, numbered, size_in, gates_of}
use Rattle.network.specs.Inside.Simple.{Simple, Joined}
use Rattle.merge.specs.Inside.Tables.{Tables}
use Rattle.merge.specs.Inside.Table.{weight, first, second, bridged, size}
use Rattle.network.specs.Inside.Net.{edge_of}
use Rattle.network.specs.Inside.Begin.{Raw, raw_region}
use Rattle.edges.proofs.RecordLaws.{Good, used_rise, used_good, all_place, rise_place}

abbrev pub blank : EdgeRecord
blank = record { one = 0; two = 0; count = 0; sum1 = nan; sum2 = nan; bridged = 0 }

-- the tables of m edges, from records of k regions, and of the sizes of labels 0 to k
pub record Filled (two_nyquist : Float) (k m : ℕ) (L : List ℕ) (rs : List EdgeRecord) (s : Tables) : Type 0 where
  pub count : m ≡ length rs
  pub weight : s.at weight ≡ map (λ r. r.count) rs
  pub first : s.at first ≡ map (λ r. r.one) rs
  pub second : s.at second ≡ map (λ r. r.two) rs
  pub bridged : s.at bridged ≡ map (λ r. r.bridged) rs
  pub diff : seg s.diff 0 m ≡ map (difference two_nyquist) rs
  pub size : s.at size ≡ tabulate (k + 1) (size_in L)

-- ---- an edge of the tables is the record's

narrowed_fits : (x : Float) → T (fits binary32 (narrowed x))
unfolding narrowed
narrowed_fits nan = nan-fits binary32
narrowed_fits (inf s) = inf-fits binary32 s
narrowed_fits (fin s m e) = round-fits binary32 s _ _

upto_numbered : (two_nyquist : Float) (f : ℕ → Edge) (rs : List EdgeRecord) (k : ℕ) → ((j : ℕ) → j < length rs → f (k + j) ≡ Network.edge_of two_nyquist (k + j) (get_or rs j blank)) → map f (upto (length rs) k) ≡ numbered two_nyquist k rs
unfolding upto numbered
upto_numbered two_nyquist f [] k h = refl
upto_numbered two_nyquist f (r ∷ rs) k h =
    let z : k + 0 ≡ k = omega arith in
    let a : f k ≡ Network.edge_of two_nyquist k r = subst (λ (i : ℕ). f i ≡ Network.edge_of two_nyquist i r) z (h 0 (omega arith)) in
    rw (a, upto_numbered two_nyquist f rs (suc k) (λ j l. let y : suc k + j ≡ k + suc j = omega arith in subst (λ (i : ℕ). f i ≡ Network.edge_of two_nyquist i (get_or rs j blank)) (sym y) (h (suc j) (omega arith)))) refl

-- ---- the gates of labels i to i + n - 1

unfoldable pub gates_from : List ℕ → ℕ → ℕ → ℕ
gates_from L i zero = 0
gates_from L i (suc n) = size_in L i + gates_from L (suc i) n

none_from : (i n : ℕ) → gates_from [] i n ≡ 0
unfolding gates_from size_in keep
none_from i zero = refl
none_from i (suc n) = omega (arith, none_from (suc i) n)

-- how many of the labels i to i + n - 1 are x
hits : ℕ → ℕ → ℕ → ℕ
hits x i zero = 0
hits x i (suc n) = cond (eqb i x) 1 0 + hits x (suc i) n

hits_past : (x i n : ℕ) → x < i → hits x i n ≡ 0
unfolding hits
hits_past x i zero h = refl
hits_past x i (suc n) h = rw (ne_eqb i x (λ e. omega arith)) (omega (arith, hits_past x (suc i) n (omega arith)))

hits_most : (x i n : ℕ) → hits x i n ≤ 1
unfolding hits
hits_most x i zero = omega arith
hits_most x i (suc n) = go (eqb i x) refl (hits_most x (suc i) n)
  where
    go : (b : Bool) → eqb i x ≡ b → hits x (suc i) n ≤ 1 → cond b 1 0 + hits x (suc i) n ≤ 1
    go true e ih = omega (arith, hits_past x (suc i) n (omega (arith, eqb-true i x e)))
    go false e ih = omega arith

size_cons : (x : ℕ) (L : List ℕ) (l : ℕ) → size_in (x ∷ L) l ≡ cond (eqb l x) 1 0 + size_in L l
unfolding size_in keep
size_cons x L l = go (eqb l x)
  where
    go : (b : Bool) → length (cond b (x ∷ keep (eqb l) L) (keep (eqb l) L)) ≡ cond b 1 0 + length (keep (eqb l) L)
    go true = omega arith
    go false = omega arith

more_from : (x : ℕ) (L : List ℕ) (i n : ℕ) → gates_from (x ∷ L) i n ≡ hits x i n + gates_from L i n
unfolding gates_from hits
more_from x L i zero = refl
more_from x L i (suc n) = omega (arith, size_cons x L i, more_from x L (suc i) n)

-- no gate is counted twice
pub gates_most : (L : List ℕ) (i n : ℕ) → gates_from L i n ≤ length L
gates_most [] i n = omega (arith, none_from i n)
gates_most (x ∷ L) i n = omega (arith, more_from x L i n, hits_most x i n, gates_most L i n)

module _ (two_nyquist : Float) (k m : ℕ) (L : List ℕ) (ps : List Pair) (s : Tables) (F : Filled two_nyquist k m L (used k ps) s) where
  abbrev at : ℕ → EdgeRecord
  at j = get_or (used k ps) j blank

  in_rs : (j : ℕ) → j < m → j < length (used k ps)
  in_rs j h = omega (arith, F.count)

  pub good : (j : ℕ) → j < m → Good k ps (get_or (used k ps) j blank)
  good j h = all_place (Good k ps) (used k ps) blank (used_good k ps) j (in_rs j h)

  weight_of : (j : ℕ) → j < m → get_or (s.at weight) j 0 ≡ (get_or (used k ps) j blank).count
  weight_of j h = ap (λ (l : List ℕ). get_or l j 0) F.weight ∙ map_at (λ (r : EdgeRecord). r.count) (used k ps) j blank 0 (in_rs j h)

  pub first_of : (j : ℕ) → j < m → get_or (s.at first) j 0 ≡ (get_or (used k ps) j blank).one
  first_of j h = ap (λ (l : List ℕ). get_or l j 0) F.first ∙ map_at (λ (r : EdgeRecord). r.one) (used k ps) j blank 0 (in_rs j h)

  pub second_of : (j : ℕ) → j < m → get_or (s.at second) j 0 ≡ (get_or (used k ps) j blank).two
  second_of j h = ap (λ (l : List ℕ). get_or l j 0) F.second ∙ map_at (λ (r : EdgeRecord). r.two) (used k ps) j blank 0 (in_rs j h)

  bridged_of : (j : ℕ) → j < m → get_or (s.at bridged) j 0 ≡ (get_or (used k ps) j blank).bridged
  bridged_of j h = ap (λ (l : List ℕ). get_or l j 0) F.bridged ∙ map_at (λ (r : EdgeRecord). r.bridged) (used k ps) j blank 0 (in_rs j h)

  diff_of : (j : ℕ) → j < m → get_or s.diff j nan ≡ difference two_nyquist (get_or (used k ps) j blank)
  diff_of j h =
      sym (get_or-seg s.diff 0 m j nan h ∙ ap (λ (i : ℕ). get_or s.diff i nan) (omega arith))
      ∙ ap (λ (l : List Float). get_or l j nan) F.diff ∙ map_at (difference two_nyquist) (used k ps) j blank nan (in_rs j h)

  edge_of_lem : (j : ℕ) → j < m → edge_of s j ≡ Network.edge_of two_nyquist j (get_or (used k ps) j blank)
  unfolding edge_of Network.edge_of
  edge_of_lem j h =
      let live : not (eqb (get_or (s.at weight) j 0) 0) ≡ true = ap (λ (b : Bool). not b) (ne_eqb (get_or (s.at weight) j 0) 0 (λ e. omega (arith, weight_of j h, (good j h).some))) in
      λ i. record { num = j; live = live i; first = first_of j h i; second = second_of j h i; link = record { weight = weight_of j h i; diff = diff_of j h i; bridged = bridged_of j h i } }

  pub edges_are : map (edge_of s) (upto m 0) ≡ numbered two_nyquist 0 (used k ps)
  edges_are =
      ap (λ (x : ℕ). map (edge_of s) (upto x 0)) F.count
      ∙ upto_numbered two_nyquist (edge_of s) (used k ps) 0 (λ j h. let z : 0 + j ≡ j = omega arith in subst (λ (i : ℕ). edge_of s i ≡ Network.edge_of two_nyquist i (get_or (used k ps) j blank)) (sym z) (edge_of_lem j (omega (arith, F.count))))

  -- ---- the network is simple

  not_joined : (i j : ℕ) → i < j → j < m → Joined (edge_of s i) (edge_of s j) → ⊥
  unfolding edge_of
  not_joined i j h l (inl e) = ⊎_elim
      (λ b. omega (arith, b, e.1, second_of i (omega arith), second_of j l))
      (λ b. omega (arith, b.1, e.0, first_of i (omega arith), first_of j l))
      (rise_place (used k ps) blank (used_rise k ps) i j h (in_rs j l))
  not_joined i j h l (inr e) = omega (arith, e.0, e.1, first_of i (omega arith), first_of j l, second_of i (omega arith), second_of j l, (good i (omega arith)).less, (good j l).less)

  one_joined : (i j : ℕ) → i < m → j < m → Joined (edge_of s i) (edge_of s j) → i ≡ j
  one_joined i j a b e = ⊎_elim
      (λ h. absurd (not_joined i j h b e))
      (λ h. ⊎_elim (λ g. absurd (not_joined j i g a (joined_back (edge_of s i) (edge_of s j) e))) (λ g. omega arith) (lt_or_le j i))
      (lt_or_le i j)

  tables_simple : Simple (map (edge_of s) (upto m 0))
  tables_simple = record {
    proper = λ e x l r.
        let w : (i : ℕ) × (0 ≤ i) × (i < 0 + m) × (edge_of s i ≡ e) = upto_mem (edge_of s) 0 m e x in
        own w.0 (omega (arith, w.2)) (ap (λ (f : Edge). f.first) w.3 ∙ r ∙ sym (ap (λ (f : Edge). f.second) w.3));
    single = λ e f x y l₁ l₂ j.
        let w : (i : ℕ) × (0 ≤ i) × (i < 0 + m) × (edge_of s i ≡ e) = upto_mem (edge_of s) 0 m e x in
        let v : (i : ℕ) × (0 ≤ i) × (i < 0 + m) × (edge_of s i ≡ f) = upto_mem (edge_of s) 0 m f y in
        let q : Joined (edge_of s w.0) (edge_of s v.0) = rw (w.3, v.3) j in
        sym (ap (λ (z : Edge). z.num) w.3) ∙ number_is w.0 v.0 (one_joined w.0 v.0 (omega (arith, w.2)) (omega (arith, v.2)) q) ∙ ap (λ (z : Edge). z.num) v.3;
  }
    where
      own : (i : ℕ) → i < m → (edge_of s i).first ≡ (edge_of s i).second → ⊥
      own i h e = unfold edge_of in omega (arith, e, first_of i h, second_of i h, (good i h).less)

      number_is : (i j : ℕ) → i ≡ j → (edge_of s i).num ≡ (edge_of s j).num
      number_is i j e = unfold edge_of in e

  -- ---- what merging asks

  size_of : (l : ℕ) → l < k + 1 → get_or (s.at size) l 0 ≡ size_in L l
  size_of l h = ap (λ (x : List ℕ). get_or x l 0) F.size ∙ tab_at (size_in L) (k + 1) l 0 h

  -- the regions 0 to k of the tables
  unfoldable pub region : ℕ → Region
  region l = record { label = l; size = size_in L l; node = l; count = pos 0 }

  pub regions_are : map (raw_region s) (upto (k + 1) 0) ≡ map region (upto (k + 1) 0)
  unfolding raw_region region
  regions_are = map-upto_same (raw_region s) region (k + 1) 0 (λ l a b. λ i. record { label = l; size = size_of l (omega arith) i; node = l; count = pos 0 })

  gates_few : (i n : ℕ) → gates_of (map region (upto n i)) ≡ gates_from L i n
  unfolding gates_of upto region gates_from
  gates_few i zero = refl
  gates_few i (suc n) = ap (λ (x : ℕ). size_in L i + x) (gates_few (suc i) n)

  pub raw : (n : ℕ) → sum (map (λ r. r.count) (used k ps)) ≤ 4 * n → sum (map (λ r. r.bridged) (used k ps)) ≤ 4 * n → 4 * n < 2 ^ 31 → length L ≡ n → Raw m (k + 1) s
  raw n light spans small long = record {
    first_in = λ j h. omega (arith, first_of j h, (good j h).high);
    second_in = λ j h. omega (arith, second_of j h, (good j h).high, (good j h).less);
    single = λ j h. subst (λ (x : Float). T (fits binary32 x)) (sym (diff_of j h)) (unfold difference in narrowed_fits _);
    light = omega (arith, ap sum F.weight);
    spanned = omega (arith, ap sum F.bridged);
    gates = omega (arith, ap gates_of regions_are, gates_few 0 (k + 1), gates_most L 0 (k + 1));
    simple = tables_simple;
  }

-- The tables that are set up stand for the network of their edges and sizes. Assumes nothing.
use mathlib.Core.Path.{◌≡◌, refl, sym, ap, ◌∙◌, subst, fun_ext}
use mathlib.Core.Logic.{inl, ⊎_elim}
use mathlib.Core.Bool.{Bool, true, false, cond}
use mathlib.Core.List.{List, map}
use Prim.Native.Nat.{ℕ, zero, suc, ◌+◌, ◌*◌, ◌-◌, ◌≤◌, ◌<◌, ◌^◌}
use native.Mathlib.Omega.{arith}
use lib.Dec.{eqb}
use lib.IntN.{pos}
use lib.Ieee.{nan, Float}
use lib.ListN.{length, get_or, get_or-eq_default}
use borrow.Author.Tests.{lt-ltb, le-ltb}
use Rattle.network.specs.Network.{Edge, Region, State, size_of, gates_of}
use Rattle.lists.specs.Seq.{upto, sum}
use Rattle.lists.specs.Inside.Seg.{put}
use Rattle.lists.proofs.SeqLaws.{upto_at, map-upto_same}
use Rattle.memory.specs.Inside.Tree.{Weighed}
use Rattle.merge.specs.Inside.Tables.{Tables, view, HoldsTables, Sound}
use Rattle.merge.specs.Inside.Table.{Table, long, weight, first, second, bridged, enext, rnext, stamp, size, elen, rlen, count, mark}
use Rattle.merge.specs.Inside.Steps.{unbias, turned}
use Rattle.merge.specs.Inside.Leaves.{LeavesTables}
use Rattle.network.specs.Inside.Net.{edge_of, region_of, state_of}
use Rattle.network.specs.Inside.Rep.{Rep, Circled}
use Rattle.network.specs.Inside.TurnIs.{gates_in, first_of, Unmarked, RunIs}
use Rattle.network.specs.Inside.Begin.{slots, regions_from, link_from, raw_region, raw_net, Space, Raw, Begun, Linkable, AllIs}
use Rattle.std.proofs.Common.{Result}
use Rattle.merge.specs.declared.merge.MergeRefused.{MergeRefused}
use Rattle.merge.proofs.View.{view_lengths, view_weighed}
use Rattle.merge.proofs.Leaf.{room_of}
use Rattle.merge.proofs.Bias.{lt_or_le, unbias_up}
use Rattle.merge.proofs.SoundSet.{eq_or_ne, within_all}
use Rattle.merge.proofs.Frames.{Same}
use Rattle.network.proofs.TableEdges.{like_of}
use Rattle.network.proofs.Facing.{now_straight}
use Rattle.network.proofs.Moved.{same_no, same_yes}
use Rattle.network.specs.Inside.Simple.{Simple}
use Rattle.network.proofs.BeginDoes.{slots_does}
use Rattle.network.proofs.StartLinks.{Given, given_then, given_same, given_slots, slots_long, Regions, given_regions, regions_are, ones, next_in, lens, Linked, range_of_lem, linked_all, linked_long}

-- ---- sizes of single regions
size_none : (f : ℕ → Region) → ((r : ℕ) → (f r).node ≡ r) → (k n x : ℕ) → x < k → size_of (map f (upto n k)) x ≡ 0
unfolding size_of upto
size_none f e k zero x h = refl
size_none f e k (suc n) x h =
    let no : eqb x (f k).node ≡ false = ap (eqb x) (e k) ∙ same_no x k (λ q. omega arith) in
    let ih : size_of (map f (upto n (suc k))) x ≡ 0 = size_none f e (suc k) n x (omega arith) in
    ap (λ (b : Bool). cond b (f k).size 0 + size_of (map f (upto n (suc k))) x) no ∙ omega arith

size_one : (f : ℕ → Region) → ((r : ℕ) → (f r).node ≡ r) → (k n x : ℕ) → k ≤ x → x < k + n → size_of (map f (upto n k)) x ≡ (f x).size
unfolding size_of upto
size_one f e k zero x p q = absurd (omega arith)
size_one f e k (suc n) x p q = ⊎_elim
    (λ w. let yes : eqb x (f k).node ≡ true = same_yes x (f k).node (w ∙ sym (e k)) in
    let z : size_of (map f (upto n (suc k))) x ≡ 0 = size_none f e (suc k) n x (omega arith) in
    let zx : (f x).size ≡ (f k).size = ap (λ (y : ℕ). (f y).size) w in
    ap (λ (b : Bool). cond b (f k).size 0 + size_of (map f (upto n (suc k))) x) yes ∙ omega arith)
    (λ w. let no : eqb x (f k).node ≡ false = ap (eqb x) (e k) ∙ same_no x k w in
    let z : size_of (map f (upto n (suc k))) x ≡ (f x).size = size_one f e (suc k) n x (omega arith) (omega arith) in
    ap (λ (b : Bool). cond b (f k).size 0 + size_of (map f (upto n (suc k))) x) no ∙ omega arith)
    (eq_or_ne x k)

-- ---- the lengths of the tables in the words
pub record Lengths (m n : ℕ) (s : Tables) : Type 0 where
  pub lengths : (u : Table) → length (s.at u) ≡ long u m n
  pub l_diff : m ≤ length s.diff

-- ---- all together
module _ (m n : ℕ) (s : Tables) (lens₀ : Lengths m n s) (raw : Raw m n s) (small : 2 * m + n < 2 ^ 31) where
  abbrev s₁ : Tables
  s₁ = slots m n s

  abbrev s₂ : Tables
  s₂ = regions_from n s₁ 0

  abbrev s₃ : Tables
  s₃ = link_from m m s₂ 0

  long₁ : (u : Table) → length (s₁.at u) ≡ long u m n
  long₁ u = slots_long m n s (lens₀.lengths enext) u ∙ lens₀.lengths u

  G : Regions s₁ s₂ 0 n
  G = regions_are n n s₁ 0 (omega arith) (long₁ rnext) (long₁ elen) (long₁ rlen) (long₁ count) (long₁ stamp) (long₁ mark)

  given₂ : Given s₂ s
  given₂ = given_then s₂ s₁ s (given_regions s₁ s₂ 0 n G) (given_slots m n s)

  enext₂ : (x : ℕ) → x < 2 * m + n → get_or (s₂.at enext) x 0 ≡ x
  unfolding slots
  enext₂ x h = ap (λ (l : List ℕ). get_or l x 0) (G.tables.at enext) ∙ upto_at (2 * m + n) 0 x h ∙ omega arith

  linkable : Linkable m n 0 s₂
  linkable = record {
    first_in = (range_of_lem m n s₂ s given₂ (raw.first_in, raw.second_in)).0;
    second_in = (range_of_lem m n s₂ s given₂ (raw.first_in, raw.second_in)).1;
    lengths = λ a h. omega (arith, (G.own a (omega arith) (omega arith)).1);
  }

  start : Linked m n (2 * 0) s₂
  start = record {
    own = λ x. x;
    pos' = λ x. 0;
    l_enext = ap length (G.tables.at enext) ∙ long₁ enext;
    l_elen = G.long elen ∙ long₁ elen;
    chains = ones (s₂.at enext) (2 * m + n) (lens m s₂) enext₂ (λ x h. ⊎_elim
        (λ p. ap (λ (b : Bool). cond b 1 (get_or (s₂.at elen) (x - 2 * m) 0)) (lt-ltb x (2 * m) p))
        (λ p. ap (λ (b : Bool). cond b 1 (get_or (s₂.at elen) (x - 2 * m) 0)) (le-ltb x (2 * m) p) ∙ (G.own (x - 2 * m) (omega arith) (omega arith)).1)
        (lt_or_le x (2 * m)));
    even = λ j h. absurd (omega arith);
    odd = λ j h. absurd (omega arith);
    todo = λ i p q. refl;
    heads = λ x p. refl;
  }

  all₃ : Linked m n (2 * (0 + m)) s₃ × Same s₃ s₂
  all₃ = linked_all m n m s₂ 0 start (omega arith) (range_of_lem m n s₂ s given₂ (raw.first_in, raw.second_in))

  I : Linked m n (2 * (0 + m)) s₃
  I = all₃.0

  given₃ : Given s₃ s
  given₃ = given_then s₃ s₂ s (given_same s₃ s₂ all₃.1) given₂

  own_even : (j : ℕ) → j < m → I.own (2 * j) ≡ 2 * m + get_or (s₃.at first) j 0
  own_even j h = I.even j (omega arith)

  own_odd : (j : ℕ) → j < m → I.own (2 * j + 1) ≡ 2 * m + get_or (s₃.at second) j 0
  own_odd j h = I.odd j (omega arith)

  circled₃ : Circled m n (λ x. x) (edge_of s₃) s₃ I.own I.pos' (lens m s₃)
  circled₃ = record {
    echains = I.chains;
    header = λ x h e. I.heads x h;
    lengths = λ x h e. let z : 2 * m + x - 2 * m ≡ x = omega arith in ap (λ (b : Bool). cond b 1 (get_or (s₃.at elen) (2 * m + x - 2 * m) 0)) (le-ltb (2 * m + x) (2 * m) (omega arith)) ∙ ap (λ (y : ℕ). get_or (s₃.at elen) y 0) z;
    ends = λ j h l. inl (unfold edge_of in own_even j h, unfold edge_of in own_odd j h);
  }

  rnext₃ : (x : ℕ) → x < n → get_or (s₃.at rnext) x 0 ≡ x
  rnext₃ x h = ap (λ (l : List ℕ). get_or l x 0) (all₃.1.beside.at rnext) ∙ (G.own x (omega arith) (omega arith)).0

  rlen₃ : (x : ℕ) → x < n → get_or (s₃.at rlen) x 0 ≡ 1
  rlen₃ x h = ap (λ (l : List ℕ). get_or l x 0) (all₃.1.beside.at rlen) ∙ (G.own x (omega arith) (omega arith)).2

  count₃ : (x : ℕ) → x < n → get_or (s₃.at count) x 0 ≡ 1000
  count₃ x h = ap (λ (l : List ℕ). get_or l x 0) (all₃.1.beside.at count) ∙ (G.own x (omega arith) (omega arith)).3

  stamp₃ : (x : ℕ) → x < n → get_or (s₃.at stamp) x 0 ≡ 0
  stamp₃ x h = ap (λ (l : List ℕ). get_or l x 0) (all₃.1.beside.at stamp) ∙ (G.own x (omega arith) (omega arith)).4

  mark₃ : Unmarked n s₃
  mark₃ x h = ap (λ (l : List ℕ). get_or l x 0) (all₃.1.beside.at mark) ∙ (G.own x (omega arith) (omega arith)).5

  edge₃ : (j : ℕ) → edge_of s₃ j ≡ edge_of s j
  unfolding edge_of
  edge₃ j = rw (given₃.tables.at weight, given₃.tables.at first, given₃.tables.at second, given₃.tables.at bridged, given₃.diff) refl

  edges₃ : map (edge_of s₃) (upto m 0) ≡ map (edge_of s) (upto m 0)
  edges₃ = map-upto_same (edge_of s₃) (edge_of s) m 0 (λ j p q. edge₃ j)

  region₃ : (r : ℕ) → r < n → region_of (gates_in s₃) (λ x. x) s₃ r ≡ raw_region s r
  unfolding region_of raw_region gates_in
  region₃ r h =
      let c : unbias (get_or (s₃.at count) r 0) ≡ pos 0 = ap unbias (count₃ r h) ∙ unbias_up 1000 (omega arith) in
      λ i. record { label = r; size = ap (λ (l : List ℕ). get_or l r 0) (given₃.tables.at size) i; node = r; count = c i }

  regions₃ : map (region_of (gates_in s₃) (λ x. x) s₃) (upto n 0) ≡ map (raw_region s) (upto n 0)
  regions₃ = map-upto_same (region_of (gates_in s₃) (λ x. x) s₃) (raw_region s) n 0 (λ r p q. region₃ r (omega arith))

  net₃ : first_of m n s₃ ≡ raw_net m n s
  unfolding first_of state_of raw_net
  net₃ = λ i. record { edges = edges₃ i; regions = regions₃ i }

  gates₃ : gates_in s₃ ≡ gates_in s
  unfolding gates_in
  gates₃ = fun_ext (λ r. ap (λ (l : List ℕ). get_or l r 0) (given₃.tables.at size))

  sound₃ : Sound m n s₃
  sound₃ = record {
    lengths = λ u. linked_long m m s₂ 0 u ∙ G.long u ∙ long₁ u;
    l_diff = subst (λ (l : List Float). m ≤ length l) (sym given₃.diff) lens₀.l_diff;
    within = within_all m n s₃ (range_of_lem m n s₃ s given₃ (raw.first_in, raw.second_in)).0 (range_of_lem m n s₃ s given₃ (raw.first_in, raw.second_in)).1
        (λ j h. next_in (s₃.at enext) (2 * m + n) I.own I.pos' (lens m s₃) I.chains j h)
        (λ j h. omega (arith, rnext₃ j h))
        (λ j h. omega (arith, count₃ j h));
    single = subst (λ (l : List Float). (j : ℕ) → j < m → lib.Dec.T (lib.Ieee.fits lib.Ieee.binary32 (get_or l j nan))) (sym given₃.diff) raw.single;
    light = subst (λ (l : List ℕ). sum l < 2 ^ 31) (sym (given₃.tables.at weight)) raw.light;
    spanned = subst (λ (l : List ℕ). sum l < 2 ^ 31) (sym (given₃.tables.at bridged)) raw.spanned;
  }

  rep₃ : Rep m n (gates_in s₃) 0 s₃ (first_of m n s₃)
  unfolding first_of state_of
  rep₃ = record {
    E = edge_of s₃;
    node = λ x. x;
    rpos = λ x. 0;
    eown = I.own;
    epos = I.pos';
    elens = lens m s₃;
    edges = refl;
    regions = refl;
    number = λ j. unfold edge_of in refl;
    simple = subst (λ (l : List Edge). Simple l) (sym edges₃) raw.simple;
    light = subst (λ (l : List Region). gates_of l < 2 ^ 31) (sym regions₃) raw.gates;
    sound = sound₃;
    small = small;
    like = λ j h. like_of _ _ (now_straight s₃ j (straight j h));
    sizes = λ x h e. sym (size_one (region_of (gates_in s₃) (λ y. y) s₃) (λ r. unfold region_of in refl) 0 n x (omega arith) (omega arith) ∙ (unfold region_of gates_in in refl));
    rchains = ones (s₃.at rnext) n (λ x. get_or (s₃.at rlen) x 0) rnext₃ rlen₃;
    circled = circled₃;
    leading = λ j h l. (refl, refl);
    stamps = λ x. ⊎_elim (λ h. omega (arith, stamp₃ x h)) (λ h. omega (arith, get_or-eq_default (s₃.at stamp) 0 {n = x} (omega (arith, sound₃.lengths stamp)))) (lt_or_le x n);
  }
    where
      -- no edge is turned where no node was a base
      straight : (j : ℕ) → j < m → turned s₃ j ≡ false
      straight j h = unfold turned in rw (stamp₃ (get_or (s₃.at first) j 0) (sound₃.within first j h), stamp₃ (get_or (s₃.at second) j 0) (sound₃.within second j h)) (le-ltb 0 0 (omega arith))

-- ---- begin
module _ (m n : ℕ) (w : List ℕ) (d : List Float) (sp : Space m n w d) (raw : Raw m n (view m n w d)) (w₁ : List ℕ) (D₁ : Weighed m w w₁) where
  abbrev s₀ : Tables
  s₀ = view m n w d

  l₀ : Lengths m n s₀
  l₀ = record { lengths = view_lengths m n w d sp.words; l_diff = unfold view in sp.diffs }

  tables₁ : view m n w₁ d ≡ s₀
  tables₁ = view_weighed m n w w₁ d D₁

  room₁ : HoldsTables m n w₁ d
  room₁ = record { words = omega (arith, sp.words, D₁.long); diffs = sp.diffs; small = sp.small; tree = D₁.tree }

  module _ (w₂ : List ℕ) (lw₂ : length w₂ ≡ length w₁) (e₂ : w₂ ≡ put w₁ (6 * m) (upto (2 * m + n) 0)) where
    D₂ : LeavesTables m n w₂ d (slots m n (view m n w₁ d))
    D₂ = slots_does m n w₁ w₂ d room₁ e₂

    pub begin_regions : HoldsTables m n w₂ d
    begin_regions = room_of m n w₁ w₂ d d room₁ lw₂ refl D₂.tree

    module _ (w₃ : List ℕ) (d₃ : List Float) (lw₃ : length w₃ ≡ length w₂) (ld₃ : length d₃ ≡ length d) (D₃ : LeavesTables m n w₃ d₃ (regions_from n (view m n w₂ d) 0)) where
      tables₃ : view m n w₃ d₃ ≡ regions_from n (slots m n s₀) 0
      tables₃ = D₃.tables ∙ ap (λ (u : Tables). regions_from n u 0) (D₂.tables ∙ ap (slots m n) tables₁)

      room₃ : HoldsTables m n w₃ d₃
      room₃ = room_of m n w₂ w₃ d d₃ begin_regions lw₃ ld₃ D₃.tree

      pub begin_link : HoldsTables m n w₃ d₃ × Linkable m n 0 (view m n w₃ d₃)
      begin_link = (room₃, subst (Linkable m n 0) (sym tables₃) (linkable m n s₀ l₀ raw sp.small))

      pub begin_done : (w₄ : List ℕ) (d₄ : List Float) → length w₄ ≡ length w₃ → length d₄ ≡ length d₃ → LeavesTables m n w₄ d₄ (link_from m m (view m n w₃ d₃) 0) → Begun m n s₀ w₄ d₄
      begin_done w₄ d₄ lw₄ ld₄ D₄ =
          let e : link_from m m (regions_from n (slots m n s₀) 0) 0 ≡ view m n w₄ d₄ = sym (D₄.tables ∙ ap (λ (u : Tables). link_from m m u 0) tables₃) in
          record {
            room = room_of m n w₃ w₄ d₃ d₄ room₃ lw₄ ld₄ D₄.tree;
            rep = subst (λ (u : Tables). Rep m n (gates_in u) 0 u (first_of m n u)) e (rep₃ m n s₀ l₀ raw sp.small);
            net = ap (first_of m n) (sym e) ∙ net₃ m n s₀ l₀ raw sp.small;
            sizes = ap gates_in (sym e) ∙ gates₃ m n s₀ l₀ raw sp.small;
            unmarked = subst (Unmarked n) e (mark₃ m n s₀ l₀ raw sp.small);
          }

-- ---- merge_all
pub all_is : (m n : ℕ) (s : Tables) (w : List ℕ) (d : List Float) (w' : List ℕ) (d' : List Float) (r : Result ℕ MergeRefused) → Begun m n s w d → RunIs m n (gates_in (view m n w d)) (first_of m n (view m n w d)) w' d' r → AllIs m n s w' d' r
unfolding AllIs
all_is m n s w d w' d' r b h = subst (λ (g : ℕ → ℕ). RunIs m n g (raw_net m n s) w' d' r) b.sizes (subst (λ (t : State). RunIs m n (gates_in (view m n w d)) t w' d' r) b.net h)

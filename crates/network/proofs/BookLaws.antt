-- The theorems of specs/BookTheorems: what the merge book of a network of labelled gates says, and how long it can be. Assumes nothing.
use Prim.Native.Nat.{ℕ, zero, suc, ◌+◌, ◌≤◌, ◌<◌}
use native.Mathlib.Omega.{arith}
use mathlib.Core.Path.{◌≡◌, refl, sym, ap, ◌∙◌, subst}
use mathlib.Core.Logic.{inl, inr, ⊎_elim}
use mathlib.Core.Bool.{Bool, true, false, cond}
use mathlib.Core.List.{List, [], ◌∷◌, ◌++◌, map, head-eq_of_cons-eq, tail-eq_of_cons-eq, nil≢cons}
use mathlib.Core.Option.{Option, none, some}
use lib.Dec.{eqb}
use lib.ListN.{length}
use lib.IntN.{pos}
use lib.Ieee.{Float}
use borrow.Author.Tests.{eqb-true, eqb-false, eq-eqb, ne_eqb}
use Rattle.lists.specs.Seq.{All, Member, upto, keep}
use Rattle.edges.specs.Edges.{pairs, used}
use Rattle.edges.specs.declared.edges.Shape.{Shape}
use Rattle.edges.specs.declared.edges.EdgeRecord.{EdgeRecord}
use Rattle.edges.proofs.RecordLaws.{Before, Rise, Good, used_rise, used_good}
use Rattle.network.specs.Network.{Edge, Region, State, size_of, at, plan, step, choose, follow, run, merges, replay, count_of, edge_of, numbered, alone, size_in, start, network_by}
use Rattle.network.specs.Book.{Entry, entry_of, entry, book, Stand, enter, entered, replayed}
use Rattle.network.specs.BookTheorems.{BookReplays, Stands, BookHolds, BookCounts, MergesLess}
use Rattle.network.specs.Inside.Simple.{Joined}
use Rattle.network.proofs.Bridged.{bridged_within}
use Rattle.network.proofs.Ends.{choose_at}
use Rattle.network.proofs.Lists.{at_all}
use Rattle.network.proofs.SimpleLaws.{joined_back}
use Rattle.network.proofs.Standing.{Root, Sound, placed, Standing, chosen, roots_joined, ends_differ, stepped, roots_most, run_less}
use Rattle.merge.proofs.Bias.{lt_or_le}
use Rattle.merge.proofs.SoundSet.{eq_or_ne}

-- ---- the first network

-- a label at first
abbrev own : ℕ → Stand
own l = record { node = l; count = pos 0 }

module _ (w : Float) where
  -- an edge of numbered records is that of one of them
  numbered_mem : (P : EdgeRecord → Type 0) (j : ℕ) (rs : List EdgeRecord) → All P rs → (e : Edge) → Member e (numbered w j rs) → (i : ℕ) × (r : EdgeRecord) × P r × (edge_of w i r ≡ e)
  unfolding numbered
  numbered_mem P j [] h e m = absurd m
  numbered_mem P j (r ∷ rs) h e (inl q) = (j, r, h.0, q)
  numbered_mem P j (r ∷ rs) h e (inr m) = numbered_mem P (suc j) rs h.1 e m

  module _ (Fine : EdgeRecord → Type 0) (less : (r : EdgeRecord) → Fine r → r.two < r.one) where
    -- records of which one comes before the other join other labels
    not_joined : (i j : ℕ) (r q : EdgeRecord) → Fine r → Fine q → Before r q → Joined (edge_of w i r) (edge_of w j q) → ⊥
    unfolding edge_of
    not_joined i j r q a c (inl b) (inl t) = omega (arith, t.1)
    not_joined i j r q a c (inl b) (inr t) = omega (arith, t.0, t.1, less r a, less q c)
    not_joined i j r q a c (inr b) (inl t) = omega (arith, t.0)
    not_joined i j r q a c (inr b) (inr t) = omega (arith, t.0, t.1, less r a, less q c)

    head_apart : (i : ℕ) (r : EdgeRecord) → Fine r → (j : ℕ) (rs : List EdgeRecord) → All Fine rs → All (Before r) rs → (e : Edge) → Member e (numbered w j rs) → Joined (edge_of w i r) e → ⊥
    unfolding numbered
    head_apart i r a j [] h b e m t = absurd m
    head_apart i r a j (q ∷ rs) h b e (inl c) t = not_joined i j r q a h.0 b.0 (subst (λ (x : Edge). Joined (edge_of w i r) x) (sym c) t)
    head_apart i r a j (q ∷ rs) h b e (inr m) t = head_apart i r a (suc j) rs h.1 b.1 e m t

    single : (j : ℕ) (rs : List EdgeRecord) → Rise rs → All Fine rs → (e f : Edge) → Member e (numbered w j rs) → Member f (numbered w j rs) → Joined e f → e.num ≡ f.num
    unfolding numbered
    single j [] a h e f m n t = absurd m
    single j (r ∷ rs) a h e f (inl p) (inl q) t = ap (λ (x : Edge). x.num) (sym p ∙ q)
    single j (r ∷ rs) a h e f (inl p) (inr n) t = absurd (head_apart j r h.0 (suc j) rs h.1 a.0 f n (subst (λ (x : Edge). Joined x f) (sym p) t))
    single j (r ∷ rs) a h e f (inr m) (inl q) t = absurd (head_apart j r h.0 (suc j) rs h.1 a.0 e m (subst (λ (x : Edge). Joined x e) (sym q) (joined_back e f t)))
    single j (r ∷ rs) a h e f (inr m) (inr n) t = single (suc j) rs a.1 h.1 e f m n t

module _ (two_nyquist : Float) (shape : Shape) (k : ℕ) (labels : List ℕ) (vel : List Float) where
  abbrev rs : List EdgeRecord
  rs = used k (pairs shape labels vel)

  abbrev Fine : EdgeRecord → Type 0
  Fine = Good k (pairs shape labels vel)

  regions_from_lem : (i n : ℕ) → alone i (map (size_in labels) (upto n i)) ≡ map (placed labels own) (upto n i)
  unfolding upto alone placed
  regions_from_lem i zero = refl
  regions_from_lem i (suc n) = ap (λ (l : List Region). record { label = i; size = size_in labels i; node = i; count = pos 0 } ∷ l) (regions_from_lem (suc i) n)

  sound_first : (i : ℕ) (r : EdgeRecord) → Fine r → Sound k own (edge_of two_nyquist i r)
  unfolding edge_of
  sound_first i r g = record {
    first = record { least = omega (arith, g.low, g.less); most = g.high; own = refl };
    second = record { least = omega (arith, g.low); most = omega (arith, g.less, g.high); own = refl };
    weight = omega (arith, g.some);
  }

  proper_first : (i : ℕ) (r : EdgeRecord) → Fine r → (edge_of two_nyquist i r).first ≡ (edge_of two_nyquist i r).second → ⊥
  unfolding edge_of
  proper_first i r g e = omega (arith, g.less)

  -- the labels of the first network stand for themselves
  begun : Standing k labels own (network_by two_nyquist shape k labels vel)
  unfolding network_by start
  begun = record {
    regions = regions_from_lem 1 k;
    simple = record {
      proper = λ e m l.
          let v = numbered_mem two_nyquist Fine 0 rs (used_good k (pairs shape labels vel)) e m in
          subst (λ (x : Edge). x.first ≡ x.second → ⊥) v.3 (proper_first v.0 v.1 v.2);
      single = λ e f m n l₁ l₂ j. single two_nyquist Fine (λ r g. g.less) 0 rs (used_rise k (pairs shape labels vel)) (used_good k (pairs shape labels vel)) e f m n j;
    };
    sound = λ e m l.
        let v = numbered_mem two_nyquist Fine 0 rs (used_good k (pairs shape labels vel)) e m in
        subst (λ (x : Edge). Sound k own x) v.3 (sound_first v.0 v.1 v.2);
    within = bridged_within two_nyquist shape k labels vel;
    outside = λ l n. refl;
  }

-- ---- how long it can be

pub merges_less : MergesLess
unfolding merges
merges_less two_nyquist shape k labels vel = omega (arith, run_less k labels (length (network_by two_nyquist shape k labels vel).edges) own (network_by two_nyquist shape k labels vel) (begun two_nyquist shape k labels vel), roots_most own 1 k)

book_long : (l : List ℕ) (s : State) → length (book s l) ≡ length l
unfolding book
book_long [] s = refl
book_long (i ∷ l) s = ap suc (book_long l (step s i))

pub book_counts : BookCounts
book_counts s = book_long (merges s) s

-- ---- what replaying it gives

-- a label's count is where it stands, 0 outside the regions
count_placed : (labels : List ℕ) (f : ℕ → Stand) (l i n : ℕ) → ((i ≤ l → l < i + n → ⊥) → (f l).count ≡ pos 0) → count_of (map (placed labels f) (upto n i)) l ≡ (f l).count
unfolding count_of placed upto
count_placed labels f l i zero h = sym (h (λ a b. omega arith))
count_placed labels f l i (suc n) h = go (eqb l i) refl (count_placed labels f l (suc i) n)
  where
    go : (b : Bool) → eqb l i ≡ b → (((suc i ≤ l → l < suc i + n → ⊥) → (f l).count ≡ pos 0) → count_of (map (placed labels f) (upto n (suc i))) l ≡ (f l).count)
        → cond b (f i).count (count_of (map (placed labels f) (upto n (suc i))) l) ≡ (f l).count
    go true e ih = ap (λ (x : ℕ). (f x).count) (sym (eqb-true l i e))
    go false e ih = ih (λ out. h (λ a b. let z : l ≡ i → ⊥ = eqb-false l i e in out (omega arith) (omega arith)))

count_standing : (k : ℕ) (labels : List ℕ) (f : ℕ → Stand) (s : State) → Standing k labels f s → (l : ℕ) → (f l).count ≡ count_of s.regions l
count_standing k labels f s h l = sym (ap (λ (rs : List Region). count_of rs l) h.regions ∙ count_placed labels f l 1 k (λ out. ap (λ (x : Stand). x.count) (h.outside l (λ a b. out a (omega arith)))))

entered_run : (k : ℕ) (labels : List ℕ) (l n : ℕ) (f : ℕ → Stand) (s : State) → Standing k labels f s → (entered (book s (run n s)) (f l)).count ≡ count_of (replay s (run n s)).regions l
unfolding run follow book entered replay
entered_run k labels l zero f s h = count_standing k labels f s h l
entered_run k labels l (suc n) f s h = go (choose s.edges) refl (entered_run k labels l n)
  where
    go : (o : Option Edge) → choose s.edges ≡ o → ((g : ℕ → Stand) (t : State) → Standing k labels g t → (entered (book t (run n t)) (g l)).count ≡ count_of (replay t (run n t)).regions l)
        → (entered (book s (follow o s (run n))) (f l)).count ≡ count_of (replay s (follow o s (run n))).regions l
    go none r ih = count_standing k labels f s h l
    go (some e) r ih =
        let w : (c : Edge) × (at s.edges e.num ≡ some c) = choose_at s.edges e r in
        ih (λ x. enter (entry s e.num) (f x)) (step s e.num) (stepped k labels f s h e.num w.0 w.1)

pub book_replays : BookReplays
unfolding merges replayed
book_replays two_nyquist shape k labels vel l = entered_run k labels l (length (network_by two_nyquist shape k labels vel).edges) own (network_by two_nyquist shape k labels vel) (begun two_nyquist shape k labels vel)

-- ---- a node's gates

-- the gates of one more label
size_here : (L : List ℕ) (x : ℕ) → size_in (x ∷ L) x ≡ suc (size_in L x)
unfolding size_in keep
size_here L x = rw (eq-eqb x x refl) refl

size_there : (L : List ℕ) (x l : ℕ) → (l ≡ x → ⊥) → size_in (x ∷ L) l ≡ size_in L l
unfolding size_in keep
size_there L x l n = rw (ne_eqb l x n) refl

module _ (f : ℕ → Stand) (a : ℕ) where
  -- the gates of node a, of the n regions from i on
  abbrev node_gates : List ℕ → ℕ → ℕ → ℕ
  node_gates L i n = size_of (map (placed L f) (upto n i)) a

  gates_none : (i n : ℕ) → node_gates [] i n ≡ 0
  unfolding size_of placed upto
  gates_none i zero = refl
  gates_none i (suc n) = go (eqb a (f i).node) (gates_none (suc i) n)
    where
      go : (b : Bool) → node_gates [] (suc i) n ≡ 0 → cond b (size_in [] i) 0 + node_gates [] (suc i) n ≡ 0
      go true h = unfold size_in keep in omega arith
      go false h = omega arith

  gates_past : (L : List ℕ) (x i n : ℕ) → (i ≤ x → x < i + n → ⊥) → node_gates (x ∷ L) i n ≡ node_gates L i n
  unfolding size_of placed upto
  gates_past L x i zero h = refl
  gates_past L x i (suc n) h = rw (size_there L x i (λ e. h (omega arith) (omega arith)), gates_past L x (suc i) n (λ p q. h (omega arith) (omega arith))) refl

  gates_more : (L : List ℕ) (x i n : ℕ) → i ≤ x → x < i + n → node_gates (x ∷ L) i n ≡ cond (eqb a (f x).node) 1 0 + node_gates L i n
  unfolding size_of placed upto
  gates_more L x i zero p q = absurd (omega arith)
  gates_more L x i (suc n) p q = ⊎_elim
      (λ e. subst (λ (j : ℕ). node_gates (x ∷ L) j (suc n) ≡ cond (eqb a (f x).node) 1 0 + node_gates L j (suc n)) (sym e) here)
      (λ e. there e (gates_more L x (suc i) n (omega arith) (omega arith)))
      (eq_or_ne i x)
    where
      here : cond (eqb a (f x).node) (size_in (x ∷ L) x) 0 + node_gates (x ∷ L) (suc x) n ≡ cond (eqb a (f x).node) 1 0 + (cond (eqb a (f x).node) (size_in L x) 0 + node_gates L (suc x) n)
      here = rw (size_here L x, gates_past L x (suc x) n (λ p q. omega arith)) (go (eqb a (f x).node))
        where
          go : (b : Bool) → cond b (suc (size_in L x)) 0 + node_gates L (suc x) n ≡ cond b 1 0 + (cond b (size_in L x) 0 + node_gates L (suc x) n)
          go true = omega arith
          go false = omega arith

      there : (i ≡ x → ⊥) → node_gates (x ∷ L) (suc i) n ≡ cond (eqb a (f x).node) 1 0 + node_gates L (suc i) n
          → cond (eqb a (f i).node) (size_in (x ∷ L) i) 0 + node_gates (x ∷ L) (suc i) n ≡ cond (eqb a (f x).node) 1 0 + (cond (eqb a (f i).node) (size_in L i) 0 + node_gates L (suc i) n)
      there e ih = rw (size_there L x i e, ih) (omega arith)

  gates_are : (k : ℕ) → ((l : ℕ) → (1 ≤ l → l ≤ k → ⊥) → eqb a (f l).node ≡ false) → (L : List ℕ) → node_gates L 1 k ≡ length (keep (λ l. eqb a (f l).node) L)
  unfolding keep
  gates_are k out [] = gates_none 1 k
  gates_are k out (x ∷ L) = ⊎_elim
      (λ lt. outside (λ p q. omega arith) (gates_are k out L))
      (λ le. ⊎_elim (λ gt. outside (λ p q. omega arith) (gates_are k out L)) (λ ge. gates_more L x 1 k le (omega arith) ∙ one (eqb a (f x).node) (gates_are k out L)) (lt_or_le k x))
      (lt_or_le x 1)
    where
      one : (b : Bool) → node_gates L 1 k ≡ length (keep (λ l. eqb a (f l).node) L) → cond b 1 0 + node_gates L 1 k ≡ length (cond b (x ∷ keep (λ l. eqb a (f l).node) L) (keep (λ l. eqb a (f l).node) L))
      one true ih = omega arith
      one false ih = omega arith

      outside : (1 ≤ x → x ≤ k → ⊥) → node_gates L 1 k ≡ length (keep (λ l. eqb a (f l).node) L) → node_gates (x ∷ L) 1 k ≡ length (cond (eqb a (f x).node) (x ∷ keep (λ l. eqb a (f l).node) L) (keep (λ l. eqb a (f l).node) L))
      outside n ih = rw (out x n) (gates_past L x 1 k (λ p q. n p (omega arith)) ∙ ih)

-- ---- what holds of each entry

-- what holds of an entry where the labels stand so
record Held (k : ℕ) (labels : List ℕ) (f : ℕ → Stand) (v : Entry) : Type 0 where
  base : Root k f v.base
  moved : Root k f v.moved
  apart : v.base ≡ v.moved → ⊥
  weight : 1 ≤ v.weight
  bridged : v.bridged ≤ v.weight
  gates : v.gates ≡ length (keep (λ l. eqb v.moved (f l).node) labels)

held : (k : ℕ) (labels : List ℕ) (f : ℕ → Stand) (s : State) → Standing k labels f s → (i : ℕ) (c : Edge) → at s.edges i ≡ some c → Held k labels f (entry s i)
unfolding entry
held k labels f s h i c found = subst (λ (o : Option Edge). Held k labels f (entry_of s.regions o)) (sym found) (unfold entry_of in record {
  base = (roots_joined k labels f s h i c found).0;
  moved = moved;
  apart = ends_differ k labels f s h i c found;
  weight = (chosen k labels f s h i c found).weight;
  bridged = (at_all (λ e. e.link.bridged ≤ e.link.weight) i s.edges (unfold replay in h.within []) c found).1;
  gates = ap (λ (rs : List Region). size_of rs a) h.regions ∙ gates_are f a k (λ l n. ne_eqb a (f l).node (λ e. let z : a ≡ l = e ∙ ap (λ (x : Stand). x.node) (h.outside l n) in n (omega (arith, moved.least)) (omega (arith, moved.most)))) labels;
})
  where
    a : ℕ
    a = (plan s.regions c).moved

    moved : Root k f (plan s.regions c).moved
    moved = (roots_joined k labels f s h i c found).1

no_entry : (before : List Entry) (v : Entry) (after : List Entry) → [] ≡ before ++ (v ∷ after) → ⊥
no_entry [] v after e = nil≢cons e
no_entry (w ∷ before) v after e = nil≢cons e

held_run : (k : ℕ) (labels : List ℕ) (n : ℕ) (f : ℕ → Stand) (s : State) → Standing k labels f s → (before : List Entry) (v : Entry) (after : List Entry) → book s (run n s) ≡ before ++ (v ∷ after)
    → Held k labels (λ l. entered before (f l)) v
unfolding run follow book entered
held_run k labels zero f s h before v after e = absurd (no_entry before v after e)
held_run k labels (suc n) f s h before v after e = go (choose s.edges) refl before e (held_run k labels n)
  where
    go : (o : Option Edge) → choose s.edges ≡ o → (before : List Entry) → book s (follow o s (run n)) ≡ before ++ (v ∷ after)
        → ((g : ℕ → Stand) (t : State) → Standing k labels g t → (before : List Entry) (v : Entry) (after : List Entry) → book t (run n t) ≡ before ++ (v ∷ after) → Held k labels (λ l. entered before (g l)) v)
        → Held k labels (λ l. entered before (f l)) v
    go none r before e ih = absurd (no_entry before v after e)
    go (some d) r [] e ih =
        let w : (c : Edge) × (at s.edges d.num ≡ some c) = choose_at s.edges d r in
        subst (λ (x : Entry). Held k labels f x) (head-eq_of_cons-eq e) (held k labels f s h d.num w.0 w.1)
    go (some d) r (u ∷ before) e ih =
        let w : (c : Edge) × (at s.edges d.num ≡ some c) = choose_at s.edges d r in
        subst (λ (x : Entry). Held k labels (λ l. entered before (enter x (f l))) v) (head-eq_of_cons-eq e)
        (ih (λ l. enter (entry s d.num) (f l)) (step s d.num) (stepped k labels f s h d.num w.0 w.1) before v after (tail-eq_of_cons-eq e))

pub book_holds_lem : BookHolds
unfolding merges replayed
book_holds_lem two_nyquist shape k labels vel before v after e =
    let h : Held k labels (λ l. entered before (own l)) v = held_run k labels (length (network_by two_nyquist shape k labels vel).edges) own (network_by two_nyquist shape k labels vel) (begun two_nyquist shape k labels vel) before v after e in
    record { base = stands v.base h.base; moved = stands v.moved h.moved; apart = h.apart; weight = h.weight; bridged = h.bridged; gates = h.gates }
  where
    stands : (a : ℕ) → Root k (λ l. entered before (own l)) a → Stands k before a
    stands a r = unfold replayed in record { least = r.least; most = r.most; own = r.own }

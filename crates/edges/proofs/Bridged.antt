-- The theorems of specs/Theorems: bridged pairs of records. Assumes nothing.
use Rattle.std.proofs.Common.{◌≡◌, ℕ, zero, suc, ◌+◌, ◌≤◌, Bool, true, false, cond, not, eqb, List, [], ◌∷◌, length, get_or, sym, refl, ap, ◌∙◌, arith, eqb-true}
use mathlib.Core.List.{foldl}
use mathlib.Core.Option.{Option, none, some, none-ne-some}
use lib.Ieee.{Float, nan}
use Rattle.lists.specs.Seq.{upto, keep, each, All}
use Rattle.lists.proofs.AllLaws.{all_each, all_keep}
use Rattle.lists.proofs.SeqLaws.{keep_each, each_same, keep_swap}
use Rattle.edges.specs.Edges.{Direction, Left, Right, Top, Bottom, next, skip, look, sees, bridges, Pair, pair_to, pairs_at, pairs, plus_one_if, begun, plus, gathered, first_is, second_is, records_of, records}
use Rattle.edges.specs.Theorems.{BridgedFew, one_step, NearPairs, between, BridgedRest}
use Rattle.edges.specs.declared.edges.Shape.{Shape}
use Rattle.edges.specs.declared.edges.EdgeRecord.{EdgeRecord}
use Rattle.edges.proofs.Runs.{all_kept, plus_one, plus_two}

-- a pair whose look took one step
near : Pair → Bool
near p = not p.bridged

-- ---- a record's count: its bridged pairs and the others

-- what a pair adds to the number of bridged pairs, and to that of the others
adds : (p : Pair) (ps : List Pair) (n : ℕ) → plus_one_if p.bridged n + length (keep near (p ∷ ps)) ≡ suc n + length (keep near ps)
unfolding keep near
adds p ps n = go p.bridged
  where
    go : (x : Bool) → plus_one_if x n + length (cond (not x) (p ∷ keep near ps) (keep near ps)) ≡ suc n + length (keep near ps)
    go true = unfold plus_one_if in omega arith
    go false = unfold plus_one_if in omega arith

fold_counts : (ps : List Pair) (r : EdgeRecord) → (foldl plus r ps).count + r.bridged ≡ r.count + (foldl plus r ps).bridged + length (keep near ps)
unfolding plus
fold_counts [] r = unfold keep in omega arith
fold_counts (p ∷ ps) r = omega (arith, fold_counts ps (plus r p), adds p ps r.bridged)

all_counts : (p : Pair) (ps : List Pair) → (foldl plus (begun p) ps).count ≡ (foldl plus (begun p) ps).bridged + length (keep near (p ∷ ps))
unfolding begun
all_counts p ps = omega (arith, fold_counts ps (begun p), adds p ps 0)

-- what holds of the record of each two labels holds of all records
records_all : (P : EdgeRecord → Type 0) (n : ℕ) (ps : List Pair) → ((a b : ℕ) → All P (gathered (between a b ps))) → All P (records n ps)
unfolding records records_of
records_all P n ps h = all_each P (λ b. records_of n (keep (second_is b) ps)) (upto n 1) (λ b. all_each P (λ a. gathered (between a b ps)) (upto n 1) (λ a. h a b))

pub bridged_few : BridgedFew
unfolding gathered
bridged_few n ps = records_all (λ r. r.bridged ≤ r.count) n ps (λ a b. of (between a b ps))
  where
    of : (qs : List Pair) → All (λ (r : EdgeRecord). r.bridged ≤ r.count) (gathered qs)
    of [] = tt
    of (q ∷ qs) = (omega (arith, all_counts q qs), tt)

-- ---- looks of one step

step_same : (s : Shape) (d : Direction) (g : ℕ) → next (one_step s) d g ≡ next s d g
unfolding next one_step
step_same s Left g = refl
step_same s Right g = refl
step_same s Top g = refl
step_same s Bottom g = refl

skip_none : (s : Shape) (d : Direction) → skip (one_step s) d ≡ 0
unfolding skip one_step
skip_none s Left = refl
skip_none s Right = refl
skip_none s Top = refl
skip_none s Bottom = refl

module _ (s : Shape) (d : Direction) (L : List ℕ) (g : ℕ) where
  one_look : look (one_step s) d L 1 g ≡ look s d L 1 g
  unfolding look
  one_look = rw (step_same s d g, look) refl

  sees_one : sees (one_step s) L d g ≡ look s d L 1 g
  unfolding sees
  sees_one = ap (λ (k : ℕ). look (one_step s) d L (suc k) g) (skip_none s d) ∙ one_look

  -- what a look of one step sees, a longer one sees
  pub look_on : (k h : ℕ) → look s d L 1 g ≡ some h → look s d L (suc k) g ≡ some h
  unfolding look
  look_on k h = go (next s d g)
    where
      at : (j x : ℕ) → ◌≡◌ {A = Option ℕ} (elim x [ zero ↦ none | suc l ↦ some j ]) (some h) → ◌≡◌ {A = Option ℕ} (elim x [ zero ↦ look s d L k j | suc l ↦ some j ]) (some h)
      at j zero e = absurd (none-ne-some h e)
      at j (suc x) e = e

      go : (o : Option ℕ) → ◌≡◌ {A = Option ℕ} (elim o [ none ↦ none | some j ↦ elim (get_or L j 0) [ zero ↦ none | suc l ↦ some j ] ]) (some h)
          → ◌≡◌ {A = Option ℕ} (elim o [ none ↦ none | some j ↦ elim (get_or L j 0) [ zero ↦ look s d L k j | suc l ↦ some j ] ]) (some h)
      go none e = absurd (none-ne-some h e)
      go (some j) e = at j (get_or L j 0) e

  module _ (vel : List Float) where
    dropped : (o : Option ℕ) → keep near (pair_to L vel g true o) ≡ []
    unfolding pair_to keep near
    dropped none = refl
    dropped (some h) = go (eqb (get_or L g 0) (get_or L h 0))
      where
        pair : Pair
        pair = record { one = get_or L g 0; two = get_or L h 0; vel1 = get_or vel g nan; vel2 = get_or vel h nan; bridged = true }

        go : (b : Bool) → keep near (cond b [] (pair ∷ [])) ≡ []
        go true = refl
        go false = refl

    kept : (o : Option ℕ) → keep near (pair_to L vel g false o) ≡ pair_to L vel g false o
    unfolding pair_to keep near
    kept none = refl
    kept (some h) = go (eqb (get_or L g 0) (get_or L h 0))
      where
        pair : Pair
        pair = record { one = get_or L g 0; two = get_or L h 0; vel1 = get_or vel g nan; vel2 = get_or vel h nan; bridged = false }

        go : (b : Bool) → keep near (cond b [] (pair ∷ [])) ≡ cond b [] (pair ∷ [])
        go true = refl
        go false = refl

    one_way : keep near (pair_to L vel g (bridges s L d g) (sees s L d g)) ≡ pair_to L vel g (bridges (one_step s) L d g) (sees (one_step s) L d g)
    unfolding bridges
    one_way = rw (sees_one, one_look, bridges) (go (look s d L 1 g) refl)
      where
        go : (o : Option ℕ) → look s d L 1 g ≡ o → keep near (pair_to L vel g (elim o [ none ↦ true | some h ↦ false ]) (sees s L d g)) ≡ pair_to L vel g (elim o [ none ↦ true | some h ↦ false ]) o
        go none e = dropped (sees s L d g) ∙ (unfold pair_to in refl)
        go (some h) e = kept (sees s L d g) ∙ ap (pair_to L vel g false) (unfold sees in look_on (skip s d) h e)

pub near_pairs : NearPairs
unfolding pairs near
near_pairs s L vel = keep_each near (pairs_at s L vel) (upto (length L) 0) ∙ each_same (λ g. keep near (pairs_at s L vel g)) (pairs_at (one_step s) L vel) (upto (length L) 0) at
  where
    dirs : List Direction
    dirs = Left ∷ Right ∷ Top ∷ Bottom ∷ []

    to : Shape → ℕ → Direction → List Pair
    to t g d = pair_to L vel g (bridges t L d g) (sees t L d g)

    none_near : keep near [] ≡ []
    none_near = unfold keep in refl

    go : (g : ℕ) (b : Bool) → keep near (cond b [] (each (to s g) dirs)) ≡ cond b [] (each (to (one_step s) g) dirs)
    go g true = none_near
    go g false = keep_each near (to s g) dirs ∙ each_same (λ d. keep near (to s g d)) (to (one_step s) g) dirs (λ d. one_way s d L g vel)

    at : (g : ℕ) → keep near (pairs_at s L vel g) ≡ pairs_at (one_step s) L vel g
    at g = unfold pairs_at in go g (eqb (get_or L g 0) 0)

module _ (s : Shape) (L : List ℕ) (vel : List Float) where
  abbrev Q : List Pair
  Q = pairs (one_step s) L vel

  -- the near pairs of two labels
  near_between : (a b : ℕ) → keep near (between a b (pairs s L vel)) ≡ between a b Q
  unfolding near
  near_between a b =
      keep_swap near (first_is a) (keep (second_is b) (pairs s L vel)) ∙ ap (keep (first_is a)) (keep_swap near (second_is b) (pairs s L vel)) ∙ ap (between a b) (near_pairs s L vel)

  ones : (a b : ℕ) → All (λ p. p.one ≡ a) (between a b (pairs s L vel))
  unfolding first_is
  ones a b = all_kept (λ p. p.one ≡ a) (λ p. eqb p.one a) (keep (second_is b) (pairs s L vel)) (λ p h. eqb-true p.one a h)

  twos : (a b : ℕ) → All (λ p. p.two ≡ b) (between a b (pairs s L vel))
  unfolding second_is
  twos a b = all_keep (λ p. p.two ≡ b) (first_is a) (keep (λ p. eqb p.two b) (pairs s L vel)) (all_kept (λ p. p.two ≡ b) (λ p. eqb p.two b) (pairs s L vel) (λ p h. eqb-true p.two b h))

  rest_of : (a b : ℕ) (qs : List Pair) → keep near qs ≡ between a b Q → All (λ p. p.one ≡ a) qs → All (λ p. p.two ≡ b) qs
      → All (λ r. r.count ≡ r.bridged + length (between r.one r.two Q)) (gathered qs)
  unfolding gathered begun
  rest_of a b [] k o t = tt
  rest_of a b (q ∷ qs) k o t =
      let r : EdgeRecord = foldl plus (begun q) qs in
      let x : r.one ≡ a = plus_one qs (begun q) ∙ o.0 in
      let y : r.two ≡ b = plus_two qs (begun q) ∙ t.0 in
      (all_counts q qs ∙ ap (λ (l : List Pair). r.bridged + length l) (k ∙ sym (λ i. between (x i) (y i) Q)), tt)

pub bridged_rest : BridgedRest
bridged_rest n s L vel =
    records_all (λ r. r.count ≡ r.bridged + length (between r.one r.two (pairs (one_step s) L vel))) n (pairs s L vel)
    (λ a b. rest_of s L vel a b (between a b (pairs s L vel)) (near_between s L vel a b) (ones s L vel a b) (twos s L vel a b))

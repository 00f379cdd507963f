-- Runs of sorted pairs are the definition's records. Assumes nothing.
use Rattle.std.proofs.Common.{◌≡◌, ℕ, zero, suc, ◌<◌, ◌≤◌, Bool, true, false, cond, ◌&&◌, eqb, ltb, List, [], ◌∷◌, ◌++◌, sym, refl, ap, ◌∙◌, arith, eq-eqb, ne_eqb, eqb-true}
use mathlib.Core.List.{foldl}
use Rattle.lists.specs.Seq.{upto, keep, each, All}
use Rattle.lists.proofs.AllLaws.{all_append, all_weaker, all_keep, keep_all}
use Rattle.lists.proofs.SeqLaws.{keep_each, each_same, keep_swap}
use Rattle.edges.specs.Edges.{Pair, begun, plus, gathered, first_is, second_is, records_of, records, greater_first, used}
use Rattle.edges.specs.Inside.GatePairs.{greater}
use Rattle.edges.specs.Inside.Order.{ordered, alike, runs_from, runs}
use Rattle.edges.specs.declared.edges.EdgeRecord.{EdgeRecord}

-- ---- what holds of each

module _ {A : Type 0} (P : A → Type 0) where
  -- of those that pass a test, what the test says
  pub all_kept : (t : A → Bool) (l : List A) → ((x : A) → t x ≡ true → P x) → All P (keep t l)
  unfolding keep
  all_kept t [] h = tt
  all_kept t (x ∷ xs) h = go (t x) refl (all_kept t xs h)
    where
      go : (b : Bool) → t x ≡ b → All P (keep t xs) → All P (cond b (x ∷ keep t xs) (keep t xs))
      go true e r = (h x e, r)
      go false e r = r

  all_each : (f : ℕ → List A) (k i : ℕ) → ((x : ℕ) → i ≤ x → All P (f x)) → All P (each f (upto k i))
  unfolding each upto
  all_each f zero i h = tt
  all_each f (suc k) i h = all_append P (f i) (each f (upto k (suc i))) (h i (omega arith)) (all_each f k (suc i) (λ x g. h x (omega arith)))

-- ---- runs of what is apart

pub plus_one : (ps : List Pair) (r : EdgeRecord) → (foldl plus r ps).one ≡ r.one
unfolding plus
plus_one [] r = refl
plus_one (p ∷ ps) r = plus_one ps (plus r p)

pub plus_two : (ps : List Pair) (r : EdgeRecord) → (foldl plus r ps).two ≡ r.two
unfolding plus
plus_two [] r = refl
plus_two (p ∷ ps) r = plus_two ps (plus r p)

and_right : (b : Bool) → (b && false) ≡ false
and_right true = refl
and_right false = refl

-- a label of pairs and that of records
pub record Key : Type 0 where
  pub of_pair : Pair → ℕ
  pub of_record : EdgeRecord → ℕ
  pub starts : (p : Pair) → of_record (begun p) ≡ of_pair p
  pub stays : (r : EdgeRecord) (p : Pair) → of_record (plus r p) ≡ of_record r
  pub differs : (r : EdgeRecord) (p : Pair) → (of_record r ≡ of_pair p → ⊥) → alike r p ≡ false

first : Key
unfolding begun plus alike
first = record { of_pair = λ p. p.one; of_record = λ r. r.one; starts = λ p. refl; stays = λ r p. refl; differs = λ r p h. rw (ne_eqb r.one p.one h) refl }

second : Key
unfolding begun plus alike
second = record { of_pair = λ p. p.two; of_record = λ r. r.two; starts = λ p. refl; stays = λ r p. refl; differs = λ r p h. rw (ne_eqb r.two p.two h) (and_right (eqb r.one p.one)) }

module _ (K : Key) (v : ℕ) where
  cut : (r : EdgeRecord) (Y : List Pair) → K.of_record r ≡ v → All (λ p. v < K.of_pair p) Y → runs_from r Y ≡ r ∷ runs Y
  unfolding runs_from runs
  cut r [] e h = refl
  cut r (p ∷ ps) e h = rw (K.differs r p (λ q. omega (arith, h.0, e, q))) refl

  apart_from : (r : EdgeRecord) (X Y : List Pair) → K.of_record r ≡ v → All (λ p. K.of_pair p ≡ v) X → All (λ p. v < K.of_pair p) Y → runs_from r (X ++ Y) ≡ runs_from r X ++ runs Y
  unfolding runs_from
  apart_from r [] Y e s t = cut r Y e t
  apart_from r (p ∷ ps) Y e s t = go (alike r p) (apart_from (plus r p) ps Y (K.stays r p ∙ e) s.1 t) (apart_from (begun p) ps Y (K.starts p ∙ s.0) s.1 t)
    where
      go : (b : Bool) → runs_from (plus r p) (ps ++ Y) ≡ runs_from (plus r p) ps ++ runs Y → runs_from (begun p) (ps ++ Y) ≡ runs_from (begun p) ps ++ runs Y
          → cond b (runs_from (plus r p) (ps ++ Y)) (r ∷ runs_from (begun p) (ps ++ Y)) ≡ cond b (runs_from (plus r p) ps) (r ∷ runs_from (begun p) ps) ++ runs Y
      go true x y = x
      go false x y = ap (λ (l : List EdgeRecord). r ∷ l) y

  runs_append : (X Y : List Pair) → All (λ p. K.of_pair p ≡ v) X → All (λ p. v < K.of_pair p) Y → runs (X ++ Y) ≡ runs X ++ runs Y
  unfolding runs
  runs_append [] Y s t = refl
  runs_append (p ∷ ps) Y s t = apart_from (begun p) ps Y (K.starts p ∙ s.0) s.1 t

-- blocks of one label each, ascending
runs_each : (K : Key) (f : ℕ → List Pair) → ((x : ℕ) → All (λ p. K.of_pair p ≡ x) (f x)) → (k i : ℕ) → runs (each f (upto k i)) ≡ each (λ x. runs (f x)) (upto k i)
unfolding runs each upto
runs_each K f h zero i = refl
runs_each K f h (suc k) i =
    runs_append K i (f i) (each f (upto k (suc i))) (h i) (all_each (λ p. i < K.of_pair p) f k (suc i) (λ x g. all_weaker (λ p. K.of_pair p ≡ x) (λ p. i < K.of_pair p) (λ p e. omega (arith, e)) (f x) (h x)))
    ∙ ap (λ (l : List EdgeRecord). runs (f i) ++ l) (runs_each K f h k (suc i))

-- one block of equal labels
module _ (a b : ℕ) where
  one_from : (r : EdgeRecord) (X : List Pair) → r.one ≡ a → r.two ≡ b → All (λ p. p.one ≡ a) X → All (λ p. p.two ≡ b) X → runs_from r X ≡ foldl plus r X ∷ []
  unfolding runs_from alike plus
  one_from r [] e g s t = refl
  one_from r (p ∷ ps) e g s t = rw (eq-eqb r.one p.one (e ∙ sym s.0), eq-eqb r.two p.two (g ∙ sym t.0)) (one_from (plus r p) ps e g s.1 t.1)

  runs_one : (X : List Pair) → All (λ p. p.one ≡ a) X → All (λ p. p.two ≡ b) X → runs X ≡ gathered X
  unfolding runs gathered begun
  runs_one [] s t = refl
  runs_one (p ∷ ps) s t = one_from (begun p) ps s.0 t.0 s.1 t.1

-- ---- the records

-- every label of a pair is above 0
pub record Labelled (p : Pair) : Type 0 where
  pub one : 0 < p.one
  pub two : 0 < p.two

keep_nothing : {A : Type 0} (t : A → Bool) (l : List A) → All (λ x. t x ≡ false) l → keep t l ≡ []
unfolding keep
keep_nothing t [] h = refl
keep_nothing t (x ∷ xs) h = rw h.0 (keep_nothing t xs h.1)

module _ (ps : List Pair) where
  block : ℕ → ℕ → List Pair
  block b a = keep (first_is a) (keep (second_is b) ps)

  block_one : (b a : ℕ) → All (λ p. p.one ≡ a) (block b a)
  unfolding first_is block
  block_one b a = all_kept (λ p. p.one ≡ a) (first_is a) (keep (second_is b) ps) (λ p h. eqb-true p.one a h)

  block_two : (b a : ℕ) → All (λ p. p.two ≡ b) (block b a)
  unfolding second_is block
  block_two b a = all_keep (λ p. p.two ≡ b) (first_is a) (keep (second_is b) ps) (all_kept (λ p. p.two ≡ b) (second_is b) ps (λ p h. eqb-true p.two b h))

  -- the runs of the sorted pairs, by blocks
  blocks : (k : ℕ) → runs (ordered k ps) ≡ each (λ b. each (λ a. gathered (block b a)) (upto k 0)) (upto k 0)
  unfolding ordered block first second
  blocks k =
      runs_each second (λ b. each (block b) (upto k 0)) (λ b. all_each (λ p. p.two ≡ b) (block b) k 0 (λ a g. block_two b a)) k 0
      ∙ each_same (λ b. runs (each (block b) (upto k 0))) (λ b. each (λ a. gathered (block b a)) (upto k 0)) (upto k 0) (λ b.
      runs_each first (block b) (block_one b) k 0
      ∙ each_same (λ a. runs (block b a)) (λ a. gathered (block b a)) (upto k 0) (λ a. runs_one a b (block b a) (block_one b a) (block_two b a)))

  nothing : (b a : ℕ) → All Labelled ps → (b ≡ 0) → block b a ≡ []
  unfolding block second_is keep
  nothing b a l e = rw (keep_nothing (second_is b) ps (all_weaker Labelled (λ p. second_is b p ≡ false) (λ p h. ne_eqb p.two b (λ q. omega (arith, h.two, q, e))) ps l)) refl

  nothing' : (b a : ℕ) → All Labelled ps → (a ≡ 0) → block b a ≡ []
  unfolding block first_is
  nothing' b a l e = keep_nothing (first_is a) (keep (second_is b) ps) (all_weaker Labelled (λ p. first_is a p ≡ false) (λ p h. ne_eqb p.one a (λ q. omega (arith, h.one, q, e))) (keep (second_is b) ps) (all_keep Labelled (second_is b) ps l))

  none_at : (b k i : ℕ) → All Labelled ps → b ≡ 0 → each (λ a. gathered (block b a)) (upto k i) ≡ []
  unfolding each upto gathered
  none_at b zero i l e = refl
  none_at b (suc k) i l e = rw (nothing b i l e) (none_at b k (suc i) l e)

  -- the runs of the sorted pairs are the records
  pub runs_records : (n : ℕ) → All Labelled ps → runs (ordered (suc n) ps) ≡ records n ps
  unfolding records records_of upto each block gathered
  runs_records n l =
      blocks (suc n)
      ∙ ap (λ (t : List EdgeRecord). t ++ each (λ b. each (λ a. gathered (block b a)) (upto (suc n) 0)) (upto n 1)) (none_at 0 (suc n) 0 l refl)
      ∙ each_same (λ b. each (λ a. gathered (block b a)) (upto (suc n) 0)) (λ b. each (λ a. gathered (block b a)) (upto n 1)) (upto n 1)
      (λ b. ap (λ (t : List Pair). gathered t ++ each (λ a. gathered (block b a)) (upto n 1)) (nothing' b 0 l refl))

-- ---- only those whose first label is the greater

module _ (a b : ℕ) where
  greater_is : (X : List Pair) → All (λ p. p.one ≡ a) X → All (λ p. p.two ≡ b) X → (c : Bool) → ltb b a ≡ c → All (λ p. greater p ≡ c) X
  unfolding greater
  greater_is [] s t c e = tt
  greater_is (p ∷ ps) s t c e = (rw (s.0, t.0) e, greater_is ps s.1 t.1 c e)

  first_greater : (p : Pair) (ps : List Pair) → p.one ≡ a → p.two ≡ b → (c : Bool) → ltb b a ≡ c → greater_first (foldl plus (begun p) ps) ≡ c
  unfolding greater_first begun
  first_greater p ps s t c e = rw (plus_one ps (begun p) ∙ s, plus_two ps (begun p) ∙ t) e

  gathered_greater : (X : List Pair) → All (λ p. p.one ≡ a) X → All (λ p. p.two ≡ b) X → keep greater_first (gathered X) ≡ gathered (keep greater X)
  unfolding gathered keep
  gathered_greater [] s t = refl
  gathered_greater (p ∷ ps) s t = go (ltb b a) refl
    where
      go : (c : Bool) → ltb b a ≡ c → keep greater_first (foldl plus (begun p) ps ∷ []) ≡ gathered (keep greater (p ∷ ps))
      go true e = rw (first_greater p ps s.0 t.0 true e, (greater_is (p ∷ ps) s t true e).0, keep_all greater ps (greater_is (p ∷ ps) s t true e).1) refl
      go false e = rw (first_greater p ps s.0 t.0 false e, (greater_is (p ∷ ps) s t false e).0, keep_nothing greater ps (greater_is (p ∷ ps) s t false e).1) refl

-- the records that become the edges are those of the pairs whose first label is the greater
pub used_records : (n : ℕ) (ps : List Pair) → used n ps ≡ records n (keep greater ps)
unfolding used records records_of block
used_records n ps =
    keep_each greater_first (λ b. each (λ a. gathered (block ps b a)) (upto n 1)) (upto n 1)
    ∙ each_same (λ b. keep greater_first (each (λ a. gathered (block ps b a)) (upto n 1))) (λ b. each (λ a. gathered (block (keep greater ps) b a)) (upto n 1)) (upto n 1) (λ b.
    keep_each greater_first (λ a. gathered (block ps b a)) (upto n 1)
    ∙ each_same (λ a. keep greater_first (gathered (block ps b a))) (λ a. gathered (block (keep greater ps) b a)) (upto n 1) (λ a.
    gathered_greater a b (block ps b a) (block_one ps b a) (block_two ps b a)
    ∙ ap gathered (keep_swap greater (first_is a) (keep (second_is b) ps) ∙ ap (keep (first_is a)) (keep_swap greater (second_is b) ps))))

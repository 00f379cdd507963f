-- The records that become edges: their labels, their counts, and that they rise by second label and then first. Assumes nothing.
use Rattle.std.proofs.Common.{◌≡◌, ℕ, zero, suc, ◌+◌, ◌<◌, ◌≤◌, Bool, true, false, cond, ltb, ◌⊎◌, List, [], ◌∷◌, ◌++◌, length, get_or, sym, refl, ◌∙◌, inl, inr, arith, ltb-true, eqb-true}
use mathlib.Core.List.{foldl}
use Rattle.lists.specs.Seq.{upto, keep, each, All}
use Rattle.edges.specs.Edges.{Pair, begun, plus, gathered, first_is, second_is, records_of, records, greater_first, used}
use Rattle.edges.specs.declared.edges.EdgeRecord.{EdgeRecord}
use Rattle.edges.proofs.Runs.{all_kept, plus_one, plus_two}
use Rattle.lists.proofs.AllLaws.{all_keep, all_append, all_weaker}

-- r comes before s
abbrev pub Before : EdgeRecord → EdgeRecord → Type 0
Before r s = (r.two < s.two) ⊎ ((r.two ≡ s.two) × (r.one < s.one))

-- every record comes before those after it
abbrev pub Rise : List EdgeRecord → Type 0
Rise [] = Unit {0}
Rise (r ∷ rs) = All (Before r) rs × Rise rs

rise_append : (l m : List EdgeRecord) → Rise l → Rise m → All (λ r. All (Before r) m) l → Rise (l ++ m)
rise_append [] m a b c = b
rise_append (r ∷ l) m a b c = (all_append (Before r) l m a.0 c.0, rise_append l m a.1 b c.1)

rise_keep : (t : EdgeRecord → Bool) (l : List EdgeRecord) → Rise l → Rise (keep t l)
unfolding keep
rise_keep t [] h = tt
rise_keep t (r ∷ l) h = go (t r) (rise_keep t l h.1)
  where
    go : (b : Bool) → Rise (keep t l) → Rise (cond b (r ∷ keep t l) (keep t l))
    go true k = (all_keep (Before r) t l h.0, k)
    go false k = k

-- lists by a rising key, one after another
module _ (P : ℕ → EdgeRecord → Type 0) (f : ℕ → List EdgeRecord) (h : (x : ℕ) → All (P x) (f x)) where
  -- a record of one of the keys from i on, below i + k
  record Of (i k : ℕ) (r : EdgeRecord) : Type 0 where
    pub key : ℕ
    pub from : i ≤ key
    pub below : key < i + k
    pub is : P key r

  each_of : (k i : ℕ) → All (Of i k) (each f (upto k i))
  unfolding each upto
  each_of zero i = tt
  each_of (suc k) i = all_append (Of i (suc k)) (f i) (each f (upto k (suc i)))
      (all_weaker (P i) (Of i (suc k)) (λ r p. record { key = i; from = omega arith; below = omega arith; is = p }) (f i) (h i))
      (all_weaker (Of (suc i) k) (Of i (suc k)) (λ r o. record { key = o.key; from = omega (arith, o.from); below = omega (arith, o.below); is = o.is }) (each f (upto k (suc i))) (each_of k (suc i)))

  each_rise : ((x : ℕ) → Rise (f x)) → ((x y : ℕ) (r s : EdgeRecord) → x < y → P x r → P y s → Before r s) → (k i : ℕ) → Rise (each f (upto k i))
  unfolding each upto
  each_rise a b zero i = tt
  each_rise a b (suc k) i = rise_append (f i) (each f (upto k (suc i))) (a i) (each_rise a b k (suc i))
      (all_weaker (P i) (λ r. All (Before r) (each f (upto k (suc i)))) (λ r p. all_weaker (Of (suc i) k) (Before r) (λ s o. b i o.key r s (omega (arith, o.from)) p o.is) (each f (upto k (suc i))) (each_of k (suc i))) (f i) (h i))

-- ---- the records of one pair of labels

record Keyed (a b : ℕ) (r : EdgeRecord) : Type 0 where
  pub one : r.one ≡ a
  pub two : r.two ≡ b
  pub some : 0 < r.count

plus_count : (ps : List Pair) (r : EdgeRecord) → r.count ≤ (foldl plus r ps).count
unfolding plus
plus_count [] r = omega arith
plus_count (p ∷ ps) r = omega (arith, plus_count ps (plus r p))

gathered_keyed : (a b : ℕ) (ps : List Pair) → All (λ p. p.one ≡ a) ps → All (λ p. p.two ≡ b) ps → All (Keyed a b) (gathered ps)
unfolding gathered begun
gathered_keyed a b [] s t = tt
gathered_keyed a b (p ∷ ps) s t = (
  record { one = plus_one ps (begun p) ∙ s.0; two = plus_two ps (begun p) ∙ t.0; some = omega (arith, plus_count ps (begun p)) },
  tt,
)

gathered_rise : (ps : List Pair) → Rise (gathered ps)
unfolding gathered
gathered_rise [] = tt
gathered_rise (p ∷ ps) = (tt, tt)

-- ---- the records of one second label

module _ (n b : ℕ) (ps : List Pair) (t : All (λ p. p.two ≡ b) ps) where
  of_first : (a : ℕ) → All (Keyed a b) (gathered (keep (first_is a) ps))
  unfolding first_is
  of_first a = gathered_keyed a b (keep (λ p. lib.Dec.eqb p.one a) ps) (all_kept (λ p. p.one ≡ a) (λ p. lib.Dec.eqb p.one a) ps (λ p h. eqb-true p.one a h)) (all_keep (λ p. p.two ≡ b) (λ p. lib.Dec.eqb p.one a) ps t)

  record Second (r : EdgeRecord) : Type 0 where
    pub two : r.two ≡ b
    pub low : 0 < r.one
    pub high : r.one ≤ n
    pub some : 0 < r.count

  second_all : All Second (records_of n ps)
  unfolding records_of
  second_all = all_weaker (Of (λ a. Keyed a b) (λ a. gathered (keep (first_is a) ps)) of_first 1 n) Second (λ r o. record { two = o.is.two; low = omega (arith, o.is.one, o.from); high = omega (arith, o.is.one, o.below); some = o.is.some }) (each (λ a. gathered (keep (first_is a) ps)) (upto n 1))
      (each_of (λ a. Keyed a b) (λ a. gathered (keep (first_is a) ps)) of_first n 1)

  second_rise : Rise (records_of n ps)
  unfolding records_of
  second_rise = each_rise (λ a. Keyed a b) (λ a. gathered (keep (first_is a) ps)) of_first (λ a. gathered_rise (keep (first_is a) ps))
      (λ x y r s l p q. inr (p.two ∙ sym q.two, omega (arith, p.one, q.one))) n 1

-- ---- all records

module _ (n : ℕ) (ps : List Pair) where
  twos : (b : ℕ) → All (λ p. p.two ≡ b) (keep (second_is b) ps)
  unfolding second_is
  twos b = all_kept (λ p. p.two ≡ b) (λ p. lib.Dec.eqb p.two b) ps (λ p h. eqb-true p.two b h)

  abbrev P₂ : ℕ → EdgeRecord → Type 0
  P₂ b = Second n b (keep (second_is b) ps) (twos b)

  records_rise : Rise (records n ps)
  unfolding records
  records_rise = each_rise P₂ (λ b. records_of n (keep (second_is b) ps)) (λ b. second_all n b (keep (second_is b) ps) (twos b)) (λ b. second_rise n b (keep (second_is b) ps) (twos b))
      (λ x y r s l p q. inl (omega (arith, p.two, q.two))) n 1

  pub used_rise : Rise (used n ps)
  unfolding used
  used_rise = rise_keep greater_first (records n ps) records_rise

  -- what is known of an edge's record
  pub record Good (r : EdgeRecord) : Type 0 where
    pub some : 0 < r.count
    pub low : 0 < r.two
    pub less : r.two < r.one
    pub high : r.one ≤ n

  records_of_lem : All (Of P₂ (λ b. records_of n (keep (second_is b) ps)) (λ b. second_all n b (keep (second_is b) ps) (twos b)) 1 n) (records n ps)
  unfolding records
  records_of_lem = each_of P₂ (λ b. records_of n (keep (second_is b) ps)) (λ b. second_all n b (keep (second_is b) ps) (twos b)) n 1

  pub used_good : All Good (used n ps)
  unfolding used greater_first keep
  used_good = join (records n ps) records_of_lem
    where
      join : (l : List EdgeRecord) → All (Of P₂ (λ b. records_of n (keep (second_is b) ps)) (λ b. second_all n b (keep (second_is b) ps) (twos b)) 1 n) l → All Good (keep (λ r. ltb r.two r.one) l)
      join [] s = tt
      join (r ∷ l) s = go (ltb r.two r.one) refl (join l s.1)
        where
          go : (b : Bool) → ltb r.two r.one ≡ b → All Good (keep (λ r. ltb r.two r.one) l) → All Good (cond b (r ∷ keep (λ r. ltb r.two r.one) l) (keep (λ r. ltb r.two r.one) l))
          go true e k = (record { some = s.0.is.some; low = omega (arith, s.0.is.two, s.0.from); less = ltb-true r.two r.one e; high = s.0.is.high }, k)
          go false e k = k

-- what holds of the labels of all pairs holds of the record's
pub gathered_all : (P : ℕ → ℕ → Type 0) (ps : List Pair) → All (λ p. P p.one p.two) ps → All (λ r. P r.one r.two) (gathered ps)
unfolding gathered begun
gathered_all P [] t = tt
gathered_all P (p ∷ ps) t = (rw (plus_one ps (begun p), plus_two ps (begun p)) t.0, tt)

each_nil : (l : List ℕ) → each (λ a. gathered (keep (first_is a) [])) l ≡ []
unfolding each gathered keep
each_nil [] = refl
each_nil (x ∷ l) = each_nil l

pub records_nil : (n : ℕ) → records_of n [] ≡ []
unfolding records_of
records_nil n = each_nil (upto n 1)

-- ---- by their places

pub all_place : {A : Type 0} (P : A → Type 0) (l : List A) (d : A) → All P l → (i : ℕ) → i < length l → P (get_or l i d)
all_place P [] d s i h = absurd (omega arith)
all_place P (x ∷ l) d s zero h = s.0
all_place P (x ∷ l) d s (suc i) h = all_place P l d s.1 i (omega arith)

pub rise_place : (l : List EdgeRecord) (d : EdgeRecord) → Rise l → (i j : ℕ) → i < j → j < length l → Before (get_or l i d) (get_or l j d)
rise_place [] d h i j a b = absurd (omega arith)
rise_place (r ∷ l) d h i zero a b = absurd (omega arith)
rise_place (r ∷ l) d h zero (suc j) a b = all_place (Before r) l d h.0 j (omega arith)
rise_place (r ∷ l) d h (suc i) (suc j) a b = rise_place l d h.1 i j (omega arith) (omega arith)

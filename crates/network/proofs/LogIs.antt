-- The log of merges, entry by entry. Assumes nothing.
use mathlib.Core.Path.{◌≡◌, refl, sym, ap, ◌∙◌, subst}
use mathlib.Core.Logic.{⊎_elim}
use mathlib.Core.List.{List, [], ◌∷◌, ◌++◌}
use Prim.Native.Nat.{ℕ, zero, suc, ◌+◌, ◌*◌, ◌-◌, ◌≤◌, ◌<◌, ◌^◌}
use native.Mathlib.Omega.{arith}
use lib.Ieee.{Float}
use lib.ListN.{length, get_or}
use Rattle.lists.specs.Seq.{upto, tabulate}
use Rattle.lists.proofs.SeqLaws.{tab_same, tab_snoc}
use Rattle.lists.specs.Inside.Seg.{put}
use Rattle.lists.proofs.SegLaws.{lt_or_le, get_or-put_in, get_or-put_below}
use Rattle.merge.specs.Inside.Table.{log}
use Rattle.merge.specs.Inside.Tables.{Tables, view, HoldsTables, Sound}
use Rattle.merge.specs.Inside.Steps.{unbias, logged}
use Rattle.merge.specs.Inside.Leaves.{LeavesTables, Gains, Fit}
use Rattle.merge.proofs.Leaf.{room_of}
use Rattle.merge.proofs.LogLaws.{sound_logged, fit_logged}
use Rattle.network.specs.Book.{Entry}
use Rattle.network.specs.Inside.Log.{entry_in, log_in, Entries, Logging}

-- an entry is its six words
entry_same : (w u : ℕ → ℕ) (j : ℕ) → ((f : ℕ) → f < 6 → w (6 * j + f) ≡ u (6 * j + f)) → entry_in w j ≡ entry_in u j
unfolding entry_in
entry_same w u j h =
    let z : 6 * j + 0 ≡ 6 * j = omega arith in
    let first : w (6 * j) ≡ u (6 * j) = ap w (sym z) ∙ h 0 (omega arith) ∙ ap u z in
    λ i. record {
      base = first i;
      moved = h 1 (omega arith) i;
      weight = h 2 (omega arith) i;
      bridged = h 3 (omega arith) i;
      folds = unbias (h 4 (omega arith) i);
      gates = h 5 (omega arith) i;
    }

-- the words of k entries are those of another place
pub entries_same : (w u : ℕ → ℕ) (k : ℕ) (vs : List Entry) → ((j : ℕ) → j < 6 * k → u j ≡ w j) → Entries w k vs → Entries u k vs
entries_same w u k vs h E = record {
  are = tab_same (entry_in u) (entry_in w) k (λ j p. entry_same u w j (λ f q. h (6 * j + f) (omega arith))) ∙ E.are;
  low = λ j p. omega (arith, h j p, E.low j p);
  gains = λ j p. omega (arith, h (6 * j + 4) (omega arith), E.gains j p);
}

-- no entry yet
pub entries_none : (w : ℕ → ℕ) → Entries w 0 []
entries_none w = record { are = unfold tabulate upto in refl; low = λ j p. absurd (omega arith); gains = λ j p. absurd (omega arith) }

-- one more
pub entries_more : (s u : Tables) (k : ℕ) (vs : List Entry) (v : Entry) → Entries (log_in s) k vs → Logging k v s u → Entries (log_in u) (k + 1) (vs ++ (v ∷ []))
entries_more s u k vs v E L = record {
  are = tab_snoc (entry_in (log_in u)) k ∙ (λ i. old.are i ++ (L.last i ∷ []));
  low = λ j p. ⊎_elim (λ q. old.low j q) (λ q. low_last j q p) (lt_or_le j (6 * k));
  gains = λ j p. ⊎_elim (λ q. old.gains j q) (λ q. gain_last j q p) (lt_or_le j k);
}
  where
    old : Entries (log_in u) k vs
    old = entries_same (log_in s) (log_in u) k vs L.before E

    low_last : (j : ℕ) → 6 * k ≤ j → j < 6 * (k + 1) → log_in u j < 2 ^ 31
    low_last j q p =
        let f : ℕ = j - 6 * k in
        let z : 6 * k + f ≡ j = omega arith in
        omega (arith, L.low f (omega arith), ap (log_in u) z)

    gain_last : (j : ℕ) → k ≤ j → j < k + 1 → log_in u (6 * j + 4) ≤ 2000
    gain_last j q p =
        let z : 6 * j + 4 ≡ 6 * k + 4 = omega arith in
        omega (arith, L.gain, ap (log_in u) z)

-- what a merge asks of the tables is still so once it is entered in the log, which gave w₁
pub noted_asks : (m n k e b v g : ℕ) (w w₁ : List ℕ) (d : List Float) → HoldsTables m n w d → length w₁ ≡ length w → LeavesTables m n w₁ d (logged k e b v g (view m n w d))
    → Sound m n (view m n w d) × (Gains n b v g × (Fit n b v (view m n w d) × (e < m)))
    → HoldsTables m n w₁ d × (Sound m n (view m n w₁ d) × (Gains n b v g × (Fit n b v (view m n w₁ d) × (e < m))))
noted_asks m n k e b v g w w₁ d r same h a =
    let s : Tables = view m n w d in (
      room_of m n w w₁ d d r same refl h.tree,
      (subst (Sound m n) (sym h.tables) (sound_logged m n k e b v g s a.0), (a.1.0, (subst (Fit n b v) (sym h.tables) (fit_logged n b v k e b v g s a.1.1.0), a.1.1.1))),
    )

-- six words put into the log
module _ (m k : ℕ) (s u : Tables) (x₀ x₁ x₂ x₃ x₄ x₅ : ℕ) (is : u.at log ≡ put (s.at log) (6 * k) (x₀ ∷ x₁ ∷ x₂ ∷ x₃ ∷ x₄ ∷ x₅ ∷ [])) (long : length (s.at log) ≡ 6 * m) (k_in : k < m) where
  abbrev six : List ℕ
  six = x₀ ∷ x₁ ∷ x₂ ∷ x₃ ∷ x₄ ∷ x₅ ∷ []

  word : (f : ℕ) → f < 6 → log_in u (6 * k + f) ≡ get_or six f 0
  word f h = let n : length six ≡ 6 = refl in ap (λ (l : List ℕ). get_or l (6 * k + f) 0) is ∙ get_or-put_in (s.at log) (6 * k) six f 0 (omega (arith, n)) (omega arith)

  first : log_in u (6 * k) ≡ x₀
  first = let z : 6 * k + 0 ≡ 6 * k = omega arith in ap (log_in u) (sym z) ∙ word 0 (omega arith)

  small : x₀ < 2 ^ 31 → x₁ < 2 ^ 31 → x₂ < 2 ^ 31 → x₃ < 2 ^ 31 → x₄ < 2 ^ 31 → x₅ < 2 ^ 31 → (f : ℕ) → f < 6 → get_or six f 0 < 2 ^ 31
  small a b c d e g zero h = a
  small a b c d e g (suc zero) h = b
  small a b c d e g (suc (suc zero)) h = c
  small a b c d e g (suc (suc (suc zero))) h = d
  small a b c d e g (suc (suc (suc (suc zero)))) h = e
  small a b c d e g (suc (suc (suc (suc (suc zero))))) h = g
  small a b c d e g (suc (suc (suc (suc (suc (suc f)))))) h = absurd (omega arith)

  pub logging_is : x₀ < 2 ^ 31 → x₁ < 2 ^ 31 → x₂ < 2 ^ 31 → x₃ < 2 ^ 31 → x₄ ≤ 2000 → x₅ < 2 ^ 31 → (v : Entry)
      → record { base = x₀; moved = x₁; weight = x₂; bridged = x₃; folds = unbias x₄; gates = x₅ } ≡ v → Logging k v s u
  unfolding entry_in
  logging_is a b c d e g v q = record {
    last = (λ i. record { base = first i; moved = word 1 (omega arith) i; weight = word 2 (omega arith) i; bridged = word 3 (omega arith) i; folds = unbias (word 4 (omega arith) i); gates = word 5 (omega arith) i }) ∙ q;
    low = λ f h. omega (arith, word f h, small a b c d (omega arith) g f h);
    gain = omega (arith, word 4 (omega arith), e);
    before = λ j h. ap (λ (l : List ℕ). get_or l j 0) is ∙ get_or-put_below (s.at log) (6 * k) six j 0 h;
  }

-- What placing, numbering and putting over do to the lent slice u, which becomes v.
use Rattle.std.specs.Prelude.{◌≡◌, ℕ, suc, ◌+◌, ◌-◌, ◌%◌, ◌^◌, ◌<◌, ◌≤◌, List, [], ◌∷◌, ◌++◌, length, slice_index, slice_index_or}
use Rattle.lists.specs.Inside.Seg.{seg}
use Rattle.labels.specs.Regions.{over}
use Rattle.labels.specs.Inside.Forest.{Forest}
use Rattle.labels.specs.Inside.Bands.{marks, joint}
use Rattle.labels.specs.Inside.Numbering.{Counted, Numbering}
use Rattle.labels.specs.Inside.Sheet.{bands_of, words_of, counts_of}

-- words that hold the areas of bands, and counters that hold how many each band has
pub record AreasOf (gates : ℕ) (iv w c : List ℕ) : Type 0 where
  pub forest : Forest (marks iv) w (joint gates iv)
  pub counts : Counted iv (joint gates iv) c

-- gate g, of band b, is the next to be placed
pub record Next (gates : ℕ) (u : List ℕ) (n g b : ℕ) : Type 0 where
  pub areas : AreasOf gates (bands_of u g) (seg u n g) (counts_of u n)
  pub here : g < n
  pub room : n + n ≤ length u
  pub small : n + 1 < 2 ^ 32
  pub some_gates : 0 < gates
  pub band : b ≤ length (counts_of u n)

-- gates above and before gate g, of its band b
pub record Corner (gates : ℕ) (iv : List ℕ) (g b : ℕ) : Type 0 where
  pub some : 0 < b
  pub inner : g % gates ≡ 0 → ⊥
  pub before : slice_index_or iv (g - 1) 0 ≡ b
  pub ray : gates ≤ g
  pub above : slice_index_or iv (g - gates) 0 ≡ b

-- gate g, of band b, has its place by the word x
pub record Placed (gates : ℕ) (u v : List ℕ) (n g b x : ℕ) : Type 0 where
  pub bands : bands_of v g ≡ bands_of u g
  pub areas : AreasOf gates (bands_of u g ++ b ∷ []) (seg v n g ++ x ∷ []) (counts_of v n)

-- gate g got its label
abbrev pub LabelsGate : List ℕ → List ℕ → ℕ → ℕ → Type 0
LabelsGate u v n g =
    (iv rs c₀ : List ℕ) → Forest (marks iv) (words_of u n) rs
    → Numbering iv rs c₀ (bands_of u n) (counts_of u n) g → Numbering iv rs c₀ (bands_of v n) (counts_of v n) (g + 1)

-- all gates did; an area lies in one band
abbrev pub LabelsGates : List ℕ → List ℕ → ℕ → Type 0
LabelsGates u v n =
    (rs : List ℕ) → Forest (marks (bands_of u n)) (words_of u n) rs → ((i r : ℕ) → slice_index rs i ≡ suc r → slice_index (bands_of u n) r ≡ slice_index (bands_of u n) i)
    → Numbering (bands_of u n) rs (counts_of u n) (bands_of v n) (counts_of v n) n

-- the labels of the second n words were put over those of the first
abbrev pub PutsOver : List ℕ → List ℕ → ℕ → ℕ → Type 0
PutsOver u v n from = (i : ℕ) → i < n → slice_index v i ≡ over from (slice_index u i) (slice_index u (n + i))

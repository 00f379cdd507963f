-- Parts of a lent slice, as the contracts on memory have them.
use Rattle.std.specs.Prelude.{ℕ, suc, ◌+◌, ◌≤◌, ◌<◌, List, [], ◌∷◌, take, drop, set}

-- the n elements of w from b
unfoldable pub seg : {A : Type 0} → List A → ℕ → ℕ → List A
seg w b n = take n (drop b w)

-- w with vs stored from b on
unfoldable pub put : {A : Type 0} → List A → ℕ → List A → List A
put w b [] = w
put w b (v ∷ vs) = put (set w b v) (suc b) vs

-- no index lies in both the m elements from a and the n from b
abbrev pub Disjoint : ℕ → ℕ → ℕ → ℕ → Type 0
Disjoint a m b n = (j : ℕ) → a ≤ j → j < a + m → b ≤ j → j < b + n → ⊥

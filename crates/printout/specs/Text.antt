-- What a program prints: counts in decimal, in ASCII, parted by one space, one line a ray. Definitions only.
use Rattle.std.specs.Prelude.{ℕ, zero, suc, ◌+◌, ◌*◌, ◌/◌, ◌%◌, cond, List, [], ◌∷◌, ◌++◌, map, ltb, take, drop, ℤ, pos, negsuc}
use Rattle.lists.specs.Seq.{upto, each}

-- a number's digits: those of a tenth of it, and the last one; k is at least as large as the number of its digits less one
unfoldable pub decimal_by : ℕ → ℕ → List ℕ
decimal_by zero n = (48 + n % 10) ∷ []
decimal_by (suc k) n = cond (ltb n 10) ((48 + n) ∷ []) (decimal_by k (n / 10) ++ ((48 + n % 10) ∷ []))

-- a number in decimal
unfoldable pub decimal : ℕ → List ℕ
decimal n = decimal_by n n

-- a count in decimal: a minus sign where it is below 0
unfoldable pub count_text : ℤ → List ℕ
count_text (pos n) = decimal n
count_text (negsuc n) = 45 ∷ decimal (suc n)

-- texts parted by one space
unfoldable pub parted : List (List ℕ) → List ℕ
parted [] = []
parted (t ∷ []) = t
parted (t ∷ u ∷ ts) = t ++ (32 ∷ parted (u ∷ ts))

-- a line: its counts, and a newline
unfoldable pub line : List ℤ → List ℕ
line cs = parted (map count_text cs) ++ (10 ∷ [])

-- one line for each of so many rays, of so many gates each
unfoldable pub ray_lines : ℕ → ℕ → List ℤ → List ℕ
ray_lines rays gates counts = each (λ r. line (take gates (drop (r * gates) counts))) (upto rays 0)

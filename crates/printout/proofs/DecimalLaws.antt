-- A number in decimal: what the library writes of an integer is the number's text, and how long that is. Assumes nothing.
use Rattle.std.proofs.Common.{◌≡◌, ℕ, zero, suc, ◌+◌, ◌/◌, ◌%◌, ◌^◌, ◌≤◌, ◌<◌, List, [], ◌∷◌, ◌++◌, ℤ, pos, negsuc, length, Fits, w64, refl, sym, ap, le_trans, le_of_eq, arith}
use Rattle.std.specs.Fmt.{decimal as written, signed_decimal}
use Rattle.std.proofs.lemmas.Fmt.{AppendsLastDigit, decimal_from_appends, length-decimal-le_succ, length-decimal-le}
use mir.Syntax.{w32}
use mir.Val.{SFits}
use borrow.Author.Tests.{lt-ltb, le-ltb}
use Rattle.printout.specs.Text.{decimal_by, decimal, count_text}

-- the digits of a number by how many there are
digits_by : ℕ → ℕ → List ℕ
digits_by zero n = []
digits_by (suc k) n = decimal_by k n

last : AppendsLastDigit digits_by
unfolding digits_by decimal_by
last = record { one = one; more = more }
  where
    one : (k n : ℕ) → n < 10 → digits_by (suc k) n ≡ (48 + n) ∷ []
    one zero n h = ap (λ (d : ℕ). (48 + d) ∷ []) (omega arith)
    one (suc k) n h = rw (lt-ltb n 10 h) refl

    more : (k n : ℕ) → 10 ≤ n → digits_by (suc k) n ≡ digits_by k (n / 10) ++ ((48 + n % 10) ∷ [])
    more zero n h = refl
    more (suc k) n h = rw (le-ltb n 10 h) refl

pub decimal_same : (n : ℕ) → n < 2 ^ 64 → written n ≡ decimal n
unfolding decimal digits_by
decimal_same n h = sym (decimal_from_appends digits_by last (suc n) n h (omega (arith, length-decimal-le_succ n h)))

pub count_same : (z : ℤ) → SFits w32 z → signed_decimal z ≡ count_text z
unfolding count_text
count_same (pos n) f = let h : n < 2 ^ 31 = f.sfits in decimal_same n (omega arith)
count_same (negsuc n) f = let h : n < 2 ^ 31 = f.sfits in ap (λ (t : List ℕ). 45 ∷ t) (decimal_same (suc n) (omega arith))

-- ---- how many bytes a text has

pub decimal_most : (n : ℕ) → Fits w64 n → length (decimal n) ≤ 20
decimal_most n f = le_trans (le_of_eq (ap length (sym (decimal_same n f.fits)))) (length-decimal-le 20 n (omega arith) (omega (arith, f.fits)) f.fits)

pub decimal_room : (n : ℕ) → n ≤ 2147483648 → length (decimal n) ≤ 10
decimal_room n h = le_trans (le_of_eq (ap length (sym (decimal_same n (omega arith))))) (length-decimal-le 10 n (omega arith) (omega arith) (omega arith))

pub count_room : (z : ℤ) → SFits w32 z → length (count_text z) ≤ 11
unfolding count_text
count_room (pos n) f = let h : n < 2 ^ 31 = f.sfits in le_trans (decimal_room n (omega arith)) (omega arith)
count_room (negsuc n) f = let h : n < 2 ^ 31 = f.sfits in omega (arith, decimal_room (suc n) (omega arith))

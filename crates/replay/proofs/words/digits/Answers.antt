-- `replay::words::digits` meets its contract. The invariant: the value so far and the digits left give the word, and i digits have a value below 16 ^ i. Assumes nothing.
use Rattle.std.proofs.Common.{◌≡◌, ℕ, suc, ◌+◌, ◌-◌, ◌*◌, ◌^◌, ◌<◌, ◌≤◌, List, Some, None, get_or, option_and_then, refl, sym, ap, ◌∙◌, arith, add-one}
use Rattle.std.proofs.Math.Nat.{pow-suc, pow-le-pow_right}
use Rattle.replay.specs.Inside.Words.{digit_of, digits_from}
use Rattle.replay.proofs.words.digits.Goals as goal

-- a value of i digits and one digit more, which 32 bits hold
room : (i v d : ℕ) → i < 8 → v < 16 ^ i → d < 16 → (v * 16 + d < 16 ^ (i + 1)) × (v * 16 + d < 2 ^ 32)
room i v d h b e =
    let p : 16 ^ (i + 1) ≡ 16 ^ i * 16 = rw add-one (pow-suc 16 i) in
    let m : 16 ^ (i + 1) ≤ 4294967296 = pow-le-pow_right {n = 16} (omega arith) {i = i + 1} {j = 8} (omega arith) in
    (omega arith, omega arith)

module _ (s : List ℕ) (at i v : ℕ) (h : i < 8) where
  -- by what the next byte is
  turn : digits_from s (at + i) (8 - i) v ≡ option_and_then (λ d. digits_from s (at + (i + 1)) (8 - (i + 1)) (v * 16 + d)) (digit_of (get_or s (at + i) 0))
  unfolding digits_from
  turn =
      let k : 8 - i ≡ suc (8 - (i + 1)) = omega arith in
      let a : at + i + 1 ≡ at + (i + 1) = omega arith in
      ap (λ (n : ℕ). digits_from s (at + i) n v) k ∙ rw a refl

  digit_more : (d : ℕ) → digit_of (get_or s (at + i) 0) ≡ Some d → digits_from s (at + i) (8 - i) v ≡ digits_from s (at + (i + 1)) (8 - (i + 1)) (v * 16 + d)
  digit_more d e = turn ∙ ap (option_and_then (λ d. digits_from s (at + (i + 1)) (8 - (i + 1)) (v * 16 + d))) e

  digit_none : digit_of (get_or s (at + i) 0) ≡ None → digits_from s (at + i) (8 - i) v ≡ None
  digit_none e = turn ∙ ap (option_and_then (λ d. digits_from s (at + (i + 1)) (8 - (i + 1)) (v * 16 + d))) e

-- no digit is left
last : (s : List ℕ) (at i v : ℕ) → i ≡ 8 → digits_from s (at + i) (8 - i) v ≡ digits_from s at 8 0 → Some v ≡ digits_from s at 8 0
unfolding digits_from
last s at i v e h = sym (ap (λ (k : ℕ). digits_from s (at + k) (8 - k) v) e) ∙ h

pub overflow_mul-value : goal.overflow_mul-value
overflow_mul-value c = let l = c.loop-i in omega (arith, (room l.i l.value 0 (omega arith) l.invariant.small (omega arith)).1)

pub returns-in_err-value : goal.returns-in_err-value
returns-in_err-value c =
    let l = c.loop-i in
    let s = c.args in
    rw c.from_residual.ensures (sym (digit_none s.text.now s.at l.i l.value c.loop-i-test.true (sym c.in_err-value.ensures.value)) ∙ l.invariant.word)

pub overflow_add-value : goal.overflow_add-value
overflow_add-value c =
    let l = c.loop-i in
    omega (arith, (room l.i l.value c.in_ok-value.field-0 (omega arith) l.invariant.small c.in_ok-value.ensures.small).1)

pub loop-i-preserved : goal.loop-i-preserved
loop-i-preserved c =
    let l = c.loop-i in
    let s = c.args in
    let d = c.in_ok-value.field-0 in
    record {
      word = sym (digit_more s.text.now s.at l.i l.value c.loop-i-test.true d (sym c.in_ok-value.ensures.value)) ∙ l.invariant.word;
      small = (room l.i l.value d (omega arith) l.invariant.small c.in_ok-value.ensures.small).0;
    }

pub returns : goal.returns
returns c =
    let l = c.loop-i in
    last c.args.text.now c.args.at l.i l.value (omega arith) l.invariant.word

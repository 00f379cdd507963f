-- The sums over the regions' tables, one region at a time from the last. Assumes nothing.
use Rattle.std.proofs.Common.{◌≡◌, ℕ, zero, suc, ◌+◌, ◌-◌, ◌*◌, ◌<◌, ◌≤◌, List, length, get_or, sym, refl, ap, ◌∙◌, mul-le-mul_left, arith}
use Rattle.memory.specs.Inside.Layout.{sizes_at, counts_at}
use Rattle.memory.specs.Size.{gates_of_largest}
use Rattle.sweep.specs.Inside.Mean.{sum_from, size_at, held_at, Tabled}

-- the sum from l - 1 on is f (l - 1) and the sum from l on
sum_next : (f : ℕ → ℕ) (k l : ℕ) → 0 < l → l ≤ k + 1 → sum_from f (l - 1) (k + 1 - (l - 1)) ≡ f (l - 1) + sum_from f l (k + 1 - l)
unfolding sum_from
sum_next f k l a b =
    ap (sum_from f (l - 1)) {x = k + 1 - (l - 1)} {y = suc (k + 1 - l)} (omega arith)
    ∙ ap (λ (i : ℕ). f (l - 1) + sum_from f i (k + 1 - l)) {x = suc (l - 1)} {y = l} (omega arith)

-- what is left of a sum is no more than the whole
sum_part : (f : ℕ → ℕ) (k l : ℕ) → l ≤ k → sum_from f (suc l) (k + 1 - suc l) ≤ sum_from f 1 k
unfolding sum_from
sum_part f k zero b = omega (arith, ap (sum_from f 1) {x = k + 1 - 1} {y = k} (omega arith))
sum_part f k (suc l) b =
    let n : sum_from f (suc l) (k + 1 - suc l) ≡ f (suc l) + sum_from f (suc (suc l)) (k + 1 - suc (suc l)) = ap (sum_from f (suc l)) {x = k + 1 - suc l} {y = suc (k + 1 - suc (suc l))} (omega arith) in
    omega (arith, n, sum_part f k l (omega arith))

-- the same, of a place that is not 0
part_from : (f : ℕ → ℕ) (k l : ℕ) → 0 < l → l ≤ k + 1 → sum_from f l (k + 1 - l) ≤ sum_from f 1 k
part_from f k zero a b = absurd (omega arith)
part_from f k (suc l) a b = sum_part f k l (omega arith)

sum_scaled : (f g : ℕ → ℕ) (i n : ℕ) → ((j : ℕ) → i ≤ j → j < i + n → g j ≤ 2000 * f j) → sum_from g i n ≤ 2000 * sum_from f i n
unfolding sum_from
sum_scaled f g i zero h = omega arith
sum_scaled f g i (suc n) h = omega (arith, h i (omega arith) (omega arith), sum_scaled f g (suc i) n (λ j a b. h j (omega arith) (omega arith)))

module _ (w : List ℕ) (n k : ℕ) (q : Tabled w n k) where
  held_le : (l : ℕ) → l ≤ k → held_at w n k l ≤ 2000 * size_at w n l
  unfolding held_at
  held_le l h = omega (arith, mul-le-mul_left (size_at w n l) (q.most l h))

  pub held_few : sum_from (held_at w n k) 1 k ≤ 2000 * gates_of_largest
  held_few = omega (arith, sum_scaled (size_at w n) (held_at w n k) 1 k (λ j a b. held_le j (omega arith)), q.few)

  -- region l - 1
  pub record Turn (gates held l : ℕ) : Type 0 where
    pub size_in_lem : n + (l - 1) < length w
    pub count_in : n + (k + 1) + (l - 1) < length w
    pub size_small : get_or w (n + (l - 1)) 0 ≤ gates_of_largest
    pub count_small : get_or w (n + (k + 1) + (l - 1)) 0 ≤ 2000
    pub product : get_or w (n + (l - 1)) 0 * get_or w (n + (k + 1) + (l - 1)) 0 ≤ 2000 * gates_of_largest
    pub gates_small : gates + get_or w (n + (l - 1)) 0 ≤ gates_of_largest
    pub held_small : held + get_or w (n + (l - 1)) 0 * get_or w (n + (k + 1) + (l - 1)) 0 ≤ 2000 * gates_of_largest
    pub gates_next : gates + get_or w (n + (l - 1)) 0 ≡ sum_from (size_at w n) (l - 1) (k + 1 - (l - 1))
    pub held_next : held + get_or w (n + (l - 1)) 0 * get_or w (n + (k + 1) + (l - 1)) 0 ≡ sum_from (held_at w n k) (l - 1) (k + 1 - (l - 1))

  pub turn : (gates held l : ℕ) → 1 < l → l ≤ k + 1 → gates ≡ sum_from (size_at w n) l (k + 1 - l) → held ≡ sum_from (held_at w n k) l (k + 1 - l) → Turn gates held l
  turn gates held l a b g h =
      let s : get_or w (n + (l - 1)) 0 ≡ size_at w n (l - 1) = size_is in
      let t : get_or w (n + (l - 1)) 0 * get_or w (n + (k + 1) + (l - 1)) 0 ≡ held_at w n k (l - 1) = held_is in
      let gn : gates + get_or w (n + (l - 1)) 0 ≡ sum_from (size_at w n) (l - 1) (k + 1 - (l - 1)) = omega (arith, sum_next (size_at w n) k l (omega arith) b) in
      let hn : held + get_or w (n + (l - 1)) 0 * get_or w (n + (k + 1) + (l - 1)) 0 ≡ sum_from (held_at w n k) (l - 1) (k + 1 - (l - 1)) = omega (arith, sum_next (held_at w n k) k l (omega arith) b) in
      let gp : sum_from (size_at w n) (l - 1) (k + 1 - (l - 1)) ≤ sum_from (size_at w n) 1 k = part_from (size_at w n) k (l - 1) (omega arith) (omega arith) in
      let hp : sum_from (held_at w n k) (l - 1) (k + 1 - (l - 1)) ≤ sum_from (held_at w n k) 1 k = part_from (held_at w n k) k (l - 1) (omega arith) (omega arith) in
      record {
        size_in_lem = omega (arith, q.room);
        count_in = omega (arith, q.room);
        size_small = omega (arith, q.few);
        count_small = count_most;
        product = omega (arith, held_few);
        gates_small = omega (arith, q.few);
        held_small = omega (arith, held_few);
        gates_next = gn;
        held_next = hn;
      }
    where
      size_is : get_or w (n + (l - 1)) 0 ≡ size_at w n (l - 1)
      size_is = unfold size_at sizes_at in refl

      held_is : get_or w (n + (l - 1)) 0 * get_or w (n + (k + 1) + (l - 1)) 0 ≡ held_at w n k (l - 1)
      held_is = unfold held_at size_at sizes_at counts_at in refl

      count_most : get_or w (n + (k + 1) + (l - 1)) 0 ≤ 2000
      count_most = unfold counts_at in q.most (l - 1) (omega arith)

  pub sums_begin : (f : ℕ → ℕ) → 0 ≡ sum_from f (k + 1) (k + 1 - (k + 1))
  unfolding sum_from
  sums_begin f = sym (ap (sum_from f (k + 1)) {x = k + 1 - (k + 1)} {y = 0} (omega arith))

  pub sums_end : (f : ℕ → ℕ) (l : ℕ) → l ≡ 1 → sum_from f l (k + 1 - l) ≡ sum_from f 1 k
  sums_end f l e = ap (λ (i : ℕ). sum_from f i (k + 1 - i)) e ∙ ap (sum_from f 1) {x = k + 1 - 1} {y = k} (omega arith)

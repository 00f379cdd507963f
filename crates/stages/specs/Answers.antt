-- Answers that are Options and Results, as the numbers that the stages give to bench/.
use Rattle.std.specs.Prelude.{ℕ, cond, Option, Some, None, Result, Ok, Err}
use Rattle.std.specs.Float.Ieee.{le}
use Rattle.arithmetic.specs.declared.intervals.Extremes.{Extremes}
use Rattle.merge.specs.declared.merge.MergeRefused.{MergeRefused}

-- 1 where there is a least and a greatest velocity
abbrev pub range_number : Option Extremes → ℕ
range_number (Some e) = cond (le e.least e.greatest) 1 0
range_number None = 0

-- 1 where question 9 got a yes at each merge
abbrev pub ran_number : Result ℕ MergeRefused → ℕ
ran_number (Ok k) = 1
ran_number (Err e) = 0

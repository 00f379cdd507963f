-- The parts of the work memory lie apart at every stage, and fit into 77n + 64 words, of the 96n + 64 that question 4 asks for. Assumes nothing.
use Prim.Native.Nat.{ℕ, ◌*◌, ◌≤◌}
use native.Mathlib.Omega.{arith}
use Rattle.memory.specs.Inside.Layout.{sizes_at, counts_at, marks_at, book_at, tables_at, InTurn, Laid}

-- n gates, k regions, m pairs, e edges
pub laid : (n k m e : ℕ) → 1 ≤ n → k ≤ n → m ≤ 4 * n → e ≤ m → Laid n k m e
unfolding InTurn sizes_at counts_at marks_at book_at tables_at
laid n k m e a b c h = record {
  regions = (omega arith, (omega arith, omega arith));
  sort = (omega arith, (omega arith, (omega arith, (omega arith, (omega arith, (omega arith, (omega arith, (omega arith, omega arith))))))));
  gather = (omega arith, (omega arith, (omega arith, (omega arith, (omega arith, (omega arith, (omega arith, omega arith)))))));
  merge = (omega arith, (omega arith, (omega arith, (omega arith, (omega arith, (omega arith, (omega arith, (omega arith, (omega arith, (omega arith, (omega arith, (omega arith, (omega arith, (omega arith, (omega arith, (omega arith, (omega arith, (omega arith, omega arith))))))))))))))))));
  differences = (omega arith, omega arith);
}

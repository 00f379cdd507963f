-- `network::reduce::keep_tables` meets its contract. Assumes nothing.
use Rattle.network.specs.Inside.Reduce.{marks_kept, log_kept, kept_tables}
use native.Mathlib.Omega.{arith}
use mathlib.Core.Path.{ap, ◌∙◌}
use mathlib.Core.List.{List}
use Prim.Native.Nat.{ℕ, ◌+◌}
use lib.ListN.{set, length-set}
use Rattle.network.proofs.reduce.keep_tables.Goals as goal

pub bounds-w-at-2 : goal.bounds-w-at-2
bounds-w-at-2 c =
    let a = c.args in
    omega (arith, length-set c.copy-3.new.w (a.n + (a.k + 1)) 1000, c.copy-3.auto.w, c.copy-2.auto.w, c.copy.auto.w, c.requires.few, c.requires.words)

pub returns : goal.returns
unfolding kept_tables
returns c =
    let a = c.args in
    let x = c.copy in
    let y = c.copy-2 in
    let z = c.copy-3 in
    ap (λ (w : List ℕ). set (set w (a.n + (a.k + 1)) 1000) (a.n + (a.k + 1) + (a.k + 1)) 0)
    (z.ensures ∙ ap (log_kept a.n a.e a.k) (y.ensures ∙ ap (marks_kept a.n a.e a.k) x.ensures))

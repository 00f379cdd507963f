-- `network::network::number` meets its contract. Assumes nothing.
use Rattle.std.proofs.Common.{sym, ◌∙◌}
use Rattle.std.proofs.lemmas.Result.{err_from_is_err_and}
use Rattle.arithmetic.specs.Rounding.{round_even}
use Rattle.network.proofs.NumberIs.{outside}
use Rattle.network.proofs.network.number.Goals as goal

pub returns-in_err-k : goal.returns-in_err-k
returns-in_err-k c =
    let p = err_from_is_err_and c.from_residual.result c.from_residual.ensures.1 in
    rw p.1 (outside (round_even c.args.q) (sym c.round_even.ensures ∙ c.in_err-k.ensures.ok_part))

-- `window::median::with_value` meets its contract. Assumes nothing.
use Rattle.window.proofs.MedianLaws.{four_with_lem}
use Rattle.window.proofs.median.with_value.Goals as goal

pub returns : goal.returns
returns c =
    let s = c.args in
    four_with_lem s.x s.s c.greater-y.result c.greater-z.result c.greater-u.result c.lesser.result c.lesser-2.result c.lesser-3.result c.lesser-4.result
    c.greater-y.ensures c.greater-z.ensures c.greater-u.ensures c.lesser.ensures c.lesser-2.ensures c.lesser-3.ensures c.lesser-4.ensures

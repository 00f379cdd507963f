-- `arithmetic::doubtful::is_doubtful` meets its contract. Assumes nothing.
use Rattle.std.proofs.Common.{Bool, ◌&&◌, sym, ap, ◌∙◌, rules}
use lib.Ieee.{le, of_bits}
use Rattle.arithmetic.proofs.PartLaws.{nine_f, doubtful_is}
use Rattle.arithmetic.proofs.doubtful.is_doubtful.Goals as goal

pub returns-then-part : goal.returns-then-part
unfolding of_bits
returns-then-part c =
    let p = c.fract-part.result in
    sym (doubtful_is c.args.q c.abs.result p (search rules) c.abs.ensures.value c.fract-part.ensures ∙ ap (λ (b : Bool). b && le p nine_f) c.if-part.true)

pub returns-else-part : goal.returns-else-part
unfolding of_bits
returns-else-part c =
    let p = c.fract-part.result in
    c.if-part.false ∙ sym (doubtful_is c.args.q c.abs.result p (search rules) c.abs.ensures.value c.fract-part.ensures ∙ ap (λ (b : Bool). b && le p nine_f) c.if-part.false)

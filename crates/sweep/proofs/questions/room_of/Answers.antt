-- `sweep::questions::room_of` meets its contract. Assumes nothing.
use Rattle.std.proofs.Common.{◌≡◌, Bool, true, false, ◌&&◌, eqb, sym, ap, ◌∙◌}
use Rattle.sweep.specs.Questions.{room}
use Rattle.sweep.proofs.questions.room_of.Goals as goal

pub returns-then-two_long : goal.returns-then-two_long
unfolding room
returns-then-two_long c =
    let a = c.args in
    let e : true ≡ (eqb a.counts a.n && eqb a.doubtful a.n) = sym c.if-two_long.true ∙ c.two_long.ensures in
    λ i. record { own = e i && eqb a.pair 2; words = a.words; floats = a.floats }

pub returns-else-two_long : goal.returns-else-two_long
unfolding room
returns-else-two_long c =
    let a = c.args in
    let no : c.two_long.result ≡ false = c.if-two_long.false in
    let e = no ∙ ap (λ (b : Bool). b && eqb a.pair 2) (sym no ∙ c.two_long.ensures) in
    λ i. record { own = e i; words = a.words; floats = a.floats }

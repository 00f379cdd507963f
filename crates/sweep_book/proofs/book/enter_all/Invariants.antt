-- `sweep_book::book::enter_all` meets its contract. Assumes nothing.
use Rattle.sweep_book.proofs.EnterLaws.{Entering}
use Rattle.sweep_book.proofs.book.enter_all.Given as goal

abbrev pub invariant-loop-j : goal.invariant-loop-j
invariant-loop-j l = Entering l.w l.from l.k l.initial.book l.book l.j

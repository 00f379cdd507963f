-- `sweep::questions::gates_in` meets its contract. Assumes nothing.
use Rattle.sweep.proofs.QuestionLaws.{product_fits}
use Rattle.std.proofs.Common.{arith}
use Rattle.sweep.proofs.questions.gates_in.Goals as goal

pub overflow_mul-result : goal.overflow_mul-result
overflow_mul-result c = product_fits c.args.rays c.args.gates (omega arith) (omega arith)

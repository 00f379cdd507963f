-- A mark that opens the questions put to a file and to a sweep that is to be written: `unfolding(..::asking)` lets a function's answer be compared with them.
use Rattle.files.specs.Format
use Rattle.files.specs.Questions
use Rattle.sweep.specs.Questions as Asked

unfoldable pub asking : Unit {0}
unfolding Asked.first_no Asked.options_in_range Format.header_in Format.sweep_in Questions.as_sweep Questions.sweep_questions Questions.field_questions Questions.header_questions
    Questions.content_questions Questions.slices_fit Questions.write_questions
asking = tt

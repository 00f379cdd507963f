-- A mark that opens the definitions of this crate and of those below, and the bits of floats: `unfolding evaluating` under a signature lets antt compute them.
use Rattle.files.specs.Format
use Rattle.files.specs.Questions
use Rattle.files.specs.Calls
use Rattle.sweep.specs.Evaluating as Below
use Rattle.std.specs.Float.Ieee

unfoldable pub evaluating : Unit {0}
unfolding Below.evaluating Format.u16_at Format.u32_at Format.u16_bytes Format.u32_bytes Format.ray_at Format.file_length Format.gate_at Format.field Format.header_bytes Format.gate_bytes
    Format.ray_bytes Format.rays_bytes Format.file_of Format.header_in Format.bits_in Format.mask_in Format.sweep_in Questions.as_sweep Questions.sweep_questions Questions.field_questions
    Questions.header_questions Questions.rays_questions Questions.body_questions Questions.content_questions Questions.read_questions Questions.slices_fit Questions.write_questions
    Ieee.of_bits Ieee.to_bits Ieee.of_fields Calls.read Calls.write Calls.header_words Calls.call_read Calls.call_write Calls.call_size
evaluating = tt

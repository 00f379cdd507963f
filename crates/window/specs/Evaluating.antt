-- A mark that opens the definitions of this crate and of those below: `unfolding evaluating` under a signature lets antt compute them.
use Rattle.window.specs.Median
use Rattle.window.specs.Window
use Rattle.window.specs.Sequence
use Rattle.lists.specs.Inside.Seg
use Rattle.sweep.specs.Evaluating as Below

unfoldable pub evaluating : Unit {0}
unfolding Below.evaluating Seg.put Median.place Median.placed Median.middle Median.median Median.mark
    Window.after Window.more Window.oldest Window.before Window.winds_from Window.gates_of Window.sizes_in_range Window.arrival_long Window.window_fits Window.same_size
    Window.asked_by Window.shows_at Window.shown_bytes Window.winds_with Window.shown_with Window.winds_now Window.added Window.call_window
    Sequence.after_calls Sequence.accepted Sequence.last_eight Sequence.wind_at Sequence.winds_in Sequence.picture_of Sequence.marks_of
evaluating = tt

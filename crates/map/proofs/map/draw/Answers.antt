-- `map::map::draw` meets its contract. Assumes nothing.
use Rattle.std.proofs.Common.{◌+◌, ◌*◌, ◌≤◌, length, sym, refl, arith}
use Rattle.memory.specs.Size.{gates_of_largest}
use Rattle.network.specs.Inside.Find.{regions_by}
use Rattle.sweep.proofs.WorkLaws.{length_taken}
use Rattle.sweep.specs.Entry.{sweep_in}
use Rattle.map.specs.Map.{map_memory_of}
use Rattle.map.proofs.MapLaws.{map_small, map_words, map_floats, map_long, map_asks, drawn_is}
use Rattle.map.proofs.map.draw.Goals.{Start}
use Rattle.map.proofs.map.draw.Goals as goal

few : (c : Start) → length c.args.s.velocity.now ≤ gates_of_largest
few c = map_small (sweep_in c.args.s) (map_memory_of c.args.labels.now c.args.regions.now c.args.words.now c.args.floats.now) c.requires.seven_yes

words_are : (c : Start) → 96 * length c.args.s.velocity.now + 64 ≤ length c.args.words.now
words_are c = map_words (sweep_in c.args.s) (map_memory_of c.args.labels.now c.args.regions.now c.args.words.now c.args.floats.now) c.requires.seven_yes

floats_are : (c : Start) → 16 * length c.args.s.velocity.now + 16 ≤ length c.args.floats.now
floats_are c = map_floats (sweep_in c.args.s) (map_memory_of c.args.labels.now c.args.regions.now c.args.words.now c.args.floats.now) c.requires.seven_yes

pub overflow_mul-w : goal.overflow_mul-w
overflow_mul-w c = record { fits = omega (arith, few (goal.at.overflow_mul-w c).Start) }

pub overflow_add-w : goal.overflow_add-w
overflow_add-w c = record { fits = omega (arith, few (goal.at.overflow_add-w c).Start) }

pub overflow_mul-d : goal.overflow_mul-d
overflow_mul-d c = record { fits = omega (arith, few (goal.at.overflow_mul-d c).Start) }

pub overflow_add-d : goal.overflow_add-d
overflow_add-d c = record { fits = omega (arith, few (goal.at.overflow_add-d c).Start) }

pub slice_bounds-label_and_clear-end : goal.slice_bounds-label_and_clear-end
slice_bounds-label_and_clear-end c = words_are (goal.at.slice_bounds-label_and_clear-end c).Start

pub slice_bounds-label_and_clear-end-2 : goal.slice_bounds-label_and_clear-end-2
slice_bounds-label_and_clear-end-2 c = sym (length_taken _ c.args.words.now (words_are (goal.at.slice_bounds-label_and_clear-end-2 c).Start))

pub slice_bounds-label_and_clear-end-3 : goal.slice_bounds-label_and_clear-end-3
slice_bounds-label_and_clear-end-3 c = floats_are (goal.at.slice_bounds-label_and_clear-end-3 c).Start

pub slice_bounds-label_and_clear-end-4 : goal.slice_bounds-label_and_clear-end-4
slice_bounds-label_and_clear-end-4 c = sym (length_taken _ c.args.floats.now (floats_are (goal.at.slice_bounds-label_and_clear-end-4 c).Start))

pub label_and_clear-requires : goal.label_and_clear-requires
label_and_clear-requires c =
    let a = c.args in
    let m = map_memory_of a.labels.now a.regions.now a.words.now a.floats.now in
    record { limited = map_asks a.s.options a.p a.s.velocity.now a.s.valid.now m c.requires.seven_yes c.requires.fit _ (length_taken _ a.words.now (words_are (goal.at.label_and_clear-requires c).Start)); long = map_long (sweep_in a.s) m c.requires.seven_yes }

pub returns : goal.returns
returns c =
    let u = c.label_and_clear in
    let a = c.args in
    let m = map_memory_of a.labels.now a.regions.now a.words.now a.floats.now in
    drawn_is a.s.options a.p a.s.velocity.now a.s.valid.now m c.requires.seven_yes (regions_by a.s.options a.p a.s.velocity.now a.s.valid.now) _ _ _ _ _ _ u.ensures.found.0 u.ensures.found.1 u.ensures.words_after u.ensures.floats_after
    (length_taken _ a.words.now (words_are (goal.at.returns c).Start)) (length_taken _ a.floats.now (floats_are (goal.at.returns c).Start)) _ _ refl refl

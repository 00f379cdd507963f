-- The questions put to a file and to a sweep that is to be written, in their order. Definitions only.
use Rattle.std.specs.Prelude.{ℕ, ◌+◌, ◌*◌, Bool, ◌&&◌, List, [], ◌∷◌, ◌++◌, map, eqb, leb, ltb, length, get_or}
use Rattle.std.specs.Float.{binary32}
use Rattle.std.specs.Float.Ieee.{of_bits}
use Rattle.lists.specs.Seq.{upto, each}
use Rattle.arithmetic.specs.Intervals.{nyquist_in_range}
use Rattle.sweep.specs.Sweep.{Sweep}
use Rattle.sweep.specs.Questions.{Question, ask, size_in_range, mask_is_bits, options_in_range, velocities_in_range}
use Rattle.sweep.specs.Entry.{sweep_of}
use Rattle.files.specs.Format.{Stored, u16_at, ray_at, file_length, sweep_in}

-- the sweep that a stored one is: Nyquist and velocities are the numbers that the bits are, every NaN's pattern being no number
unfoldable pub as_sweep : Stored → Sweep
as_sweep s =
    let h = s.header in
    sweep_of h.rays h.gates (of_bits binary32 h.nyquist) h.splits h.skip_between_rays h.skip_along_ray h.centred h.wrap
    (map (of_bits binary32) s.vel) s.mask

-- questions 3, 5, 6 and 7
unfoldable pub sweep_questions : Stored → List Question
sweep_questions s =
    ask 3 (mask_is_bits s.mask)
    ∷ ask 5 (nyquist_in_range (as_sweep s).nyquist)
    ∷ ask 6 (options_in_range (as_sweep s))
    ∷ ask 7 (velocities_in_range (as_sweep s).vel s.mask)
    ∷ []

-- ---- the reader

-- a field that is to begin at a place: is it there, has it the tag, is it whole and of its length?
unfoldable pub field_questions : List ℕ → ℕ → ℕ → ℕ → List Question
field_questions f at tag len =
    ask 11 (ltb at (length f))
    ∷ ask 12 (eqb (get_or f at 0) tag)
    ∷ ask 11 (leb (at + 3 + len) (length f) && eqb (u16_at f (at + 1)) len)
    ∷ []

-- the header: its field, its spare bits, question 1
unfoldable pub header_questions : List ℕ → List Question
header_questions f = field_questions f 0 1 15 ++ (ask 12 (ltb (get_or f 17 0) 4) ∷ ask 1 (size_in_range (u16_at f 3) (u16_at f 5)) ∷ [])

-- the rays' fields, k of them from ray r on
unfoldable pub rays_questions : List ℕ → ℕ → ℕ → ℕ → List Question
rays_questions f gates k r = each (λ r. field_questions f (ray_at gates r) 2 (5 * gates)) (upto k r)

-- the rays, and that nothing follows the last
unfoldable pub body_questions : List ℕ → List Question
body_questions f = rays_questions f (u16_at f 5) (u16_at f 3) 0 ++ (ask 12 (eqb (length f) (file_length (u16_at f 3) (u16_at f 5))) ∷ [])

-- question 2, of the lengths of velocities and mask, and the ones after it
unfoldable pub content_questions : List ℕ → ℕ → ℕ → List Question
content_questions f vel mask = ask 2 (eqb vel (u16_at f 3 * u16_at f 5) && eqb mask (u16_at f 3 * u16_at f 5)) ∷ sweep_questions (sweep_in f)

-- all that the reader asks, in file order
unfoldable pub read_questions : List ℕ → ℕ → ℕ → List Question
read_questions f vel mask = header_questions f ++ body_questions f ++ content_questions f vel mask

-- ---- the writer

-- question 2: velocities and mask, and a buffer of exactly the file's length
unfoldable pub slices_fit : Stored → ℕ → Bool
slices_fit s buffer =
    let n = s.header.rays * s.header.gates in
    eqb (length s.vel) n && eqb (length s.mask) n && eqb buffer (file_length s.header.rays s.header.gates)

-- all that the writer asks
unfoldable pub write_questions : Stored → ℕ → List Question
write_questions s buffer = ask 1 (size_in_range s.header.rays s.header.gates) ∷ ask 2 (slices_fit s buffer) ∷ sweep_questions s

-- The format of a sweep file: tagged fields, the header's and then one for each ray, every number high byte first. Definitions only.
use Rattle.std.specs.Prelude.{ℕ, ◌+◌, ◌*◌, ◌/◌, ◌%◌, List, [], ◌∷◌, ◌++◌, length, get_or, Float}
use Rattle.std.specs.Float.{binary32}
use Rattle.std.specs.Float.Ieee.{of_bits, to_bits}
use Rattle.lists.specs.Seq.{upto, tabulate, each}
use Rattle.network.specs.declared.options.Options.{Options}
use Rattle.files.specs.declared.format.Header.{Header}

-- a sweep as a file holds it: the header's numbers, Nyquist as bits, and for each gate its velocity's bits and its mask byte
pub record Stored : Type 0 where
  pub header : Header
  pub vel : List ℕ
  pub mask : List ℕ

-- the same by its parts
abbrev pub stored : Header → List ℕ → List ℕ → Stored
stored h vel mask = record { header = h; vel = vel; mask = mask }

-- the options that a call's parameters are
abbrev pub options_of : ℕ → ℕ → Float → ℕ → ℕ → ℕ → ℕ → ℕ → Options
options_of rays gates nyquist splits skip_between_rays skip_along_ray centred wrap = record {
  rays = rays;
  gates = gates;
  nyquist = nyquist;
  splits = splits;
  skip_between_rays = skip_between_rays;
  skip_along_ray = skip_along_ray;
  centred = centred;
  wrap = wrap;
}

-- the header of options
abbrev pub header_by : Options → Header
header_by o = record {
  rays = o.rays;
  gates = o.gates;
  nyquist = to_bits binary32 o.nyquist;
  splits = o.splits;
  skip_between_rays = o.skip_between_rays;
  skip_along_ray = o.skip_along_ray;
  centred = o.centred;
  wrap = o.wrap;
}

-- and the options of a header
abbrev pub options_by : Header → Options
options_by h =
    options_of h.rays h.gates (of_bits binary32 h.nyquist) h.splits h.skip_between_rays h.skip_along_ray h.centred h.wrap

-- ---- numbers

-- the number of two bytes
unfoldable pub u16_at : List ℕ → ℕ → ℕ
u16_at f at = get_or f at 0 * 256 + get_or f (at + 1) 0

-- and of four
unfoldable pub u32_at : List ℕ → ℕ → ℕ
u32_at f at = u16_at f at * 65536 + u16_at f (at + 2)

-- the two bytes of a number
unfoldable pub u16_bytes : ℕ → List ℕ
u16_bytes k = k / 256 ∷ k % 256 ∷ []

-- and the four
unfoldable pub u32_bytes : ℕ → List ℕ
u32_bytes k = u16_bytes (k / 65536) ++ u16_bytes (k % 65536)

-- ---- places: 18 bytes of header, then rays of three bytes and five for each gate

-- where ray r begins
unfoldable pub ray_at : ℕ → ℕ → ℕ
ray_at gates r = 18 + r * (3 + 5 * gates)

-- how long a file is: where a ray after the last would begin
unfoldable pub file_length : ℕ → ℕ → ℕ
file_length rays gates = ray_at gates rays

-- where gate i of the sweep begins: after the header, the first three bytes of each ray up to its own, and the gates before it
unfoldable pub gate_at : ℕ → ℕ → ℕ
gate_at gates i = 21 + 3 * (i / gates) + 5 * i

-- ---- the file of a sweep

-- a field: its tag, its length, its contents
unfoldable pub field : ℕ → List ℕ → List ℕ
field tag contents = tag ∷ [] ++ u16_bytes (length contents) ++ contents

-- the options in the header: splits, skips, and one byte with centring in bit 0 and wrap in bit 1
abbrev pub option_bytes : Header → List ℕ
option_bytes h = u16_bytes h.splits ++ u16_bytes h.skip_between_rays ++ u16_bytes h.skip_along_ray ++ ((h.centred + 2 * h.wrap) ∷ [])

-- the contents of the header
unfoldable pub header_bytes : Header → List ℕ
header_bytes h = u16_bytes h.rays ++ u16_bytes h.gates ++ u32_bytes h.nyquist ++ option_bytes h

-- a gate: its mask byte, its velocity's bits
unfoldable pub gate_bytes : List ℕ → List ℕ → ℕ → List ℕ
gate_bytes vel mask i = get_or mask i 0 ∷ [] ++ u32_bytes (get_or vel i 0)

-- the contents of a ray: its gates, the first being gate i of the sweep
unfoldable pub ray_bytes : List ℕ → List ℕ → ℕ → ℕ → List ℕ
ray_bytes vel mask gates i = each (gate_bytes vel mask) (upto gates i)

-- the fields of all rays
unfoldable pub rays_bytes : List ℕ → List ℕ → ℕ → ℕ → List ℕ
rays_bytes vel mask rays gates = each (λ r. field 2 (ray_bytes vel mask gates (r * gates))) (upto rays 0)

-- the whole file
unfoldable pub file_of : Stored → List ℕ
file_of s = field 1 (header_bytes s.header) ++ rays_bytes s.vel s.mask s.header.rays s.header.gates

-- ---- the sweep of a file

-- the header's numbers
unfoldable pub header_in : List ℕ → Header
header_in f = record {
  rays = u16_at f 3;
  gates = u16_at f 5;
  nyquist = u32_at f 7;
  splits = u16_at f 11;
  skip_between_rays = u16_at f 13;
  skip_along_ray = u16_at f 15;
  centred = get_or f 17 0 % 2;
  wrap = get_or f 17 0 / 2 % 2;
}

-- the velocities' bits of a file of that size
unfoldable pub bits_in : List ℕ → ℕ → ℕ → List ℕ
bits_in f rays gates = tabulate (rays * gates) (λ i. u32_at f (gate_at gates i + 1))

-- and the mask bytes
unfoldable pub mask_in : List ℕ → ℕ → ℕ → List ℕ
mask_in f rays gates = tabulate (rays * gates) (λ i. get_or f (gate_at gates i) 0)

-- the whole sweep
unfoldable pub sweep_in : List ℕ → Stored
sweep_in f = record { header = header_in f; vel = bits_in f (u16_at f 3) (u16_at f 5); mask = mask_in f (u16_at f 3) (u16_at f 5) }

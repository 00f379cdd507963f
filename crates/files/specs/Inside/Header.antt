-- The header's field as the writer stores it: up to Nyquist, and then its options.
use Rattle.std.specs.Prelude.{List, [], ◌∷◌, ◌++◌, ℕ}
use Rattle.files.specs.declared.format.Header.{Header}
use Rattle.files.specs.Format.{u16_bytes, u32_bytes}

-- tag, length, rays, gates and Nyquist
abbrev pub size_bytes : Header → List ℕ
size_bytes h = 1 ∷ [] ++ u16_bytes 15 ++ u16_bytes h.rays ++ u16_bytes h.gates ++ u32_bytes h.nyquist

-- What a gate of a file holds.
use Rattle.std.specs.Prelude.{ℕ, ◌+◌, List, get_or}
use Rattle.files.specs.Format.{u32_at, gate_at}

-- gate i's mask byte
unfoldable pub mask_at : List ℕ → ℕ → ℕ → ℕ
mask_at f gates i = get_or f (gate_at gates i) 0

-- and its velocity's bits
unfoldable pub bits_at : List ℕ → ℕ → ℕ → ℕ
bits_at f gates i = u32_at f (gate_at gates i + 1)

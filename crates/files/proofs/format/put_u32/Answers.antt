-- `files::format::put_u32` meets its contract. Assumes nothing.
use Rattle.std.proofs.Common.{◌≡◌, ℕ, ◌<◌, ◌/◌, ◌%◌, ◌∷◌, [], refl, ◌∙◌, arith}
use Rattle.std.specs.Int.{w32, to_be_bytes}
use Rattle.files.specs.Format.{u16_bytes, u32_bytes}
use Rattle.files.proofs.CodeLaws.{copied}
use Rattle.files.proofs.format.put_u32.Goals as goal

-- std's bytes of a number are the format's
four_bytes : (n : ℕ) → n < 4294967296 → to_be_bytes w32 n ≡ u32_bytes n
unfolding u16_bytes u32_bytes
four_bytes n h = λ i. first i ∷ second i ∷ third i ∷ fourth i ∷ []
  where
    first : n / 16777216 % 256 ≡ n / 65536 / 256
    first = omega arith

    second : n / 65536 % 256 ≡ n / 65536 % 256
    second = refl

    third : n / 256 % 256 ≡ n % 65536 / 256
    third = omega arith

    fourth : n % 256 ≡ n % 65536 % 256
    fourth = omega arith

pub returns : goal.returns
unfolding u16_bytes u32_bytes
returns c = copied c.args.file.now _ (u32_bytes c.args.number) c.args.at 4 (c.copy_from_slice.ensures.after ∙ c.to_be_bytes.ensures ∙ four_bytes c.args.number (omega arith)) refl c.requires

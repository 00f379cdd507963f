-- `files::format::put_u16` meets its contract. Assumes nothing.
use Rattle.std.proofs.Common.{◌≡◌, ℕ, ◌<◌, ◌/◌, ◌%◌, refl, ◌∙◌, arith}
use Rattle.std.specs.Int.{w16, to_be_bytes}
use Rattle.files.specs.Format.{u16_bytes}
use Rattle.files.proofs.CodeLaws.{copied}
use Rattle.files.proofs.format.put_u16.Goals as goal

-- std's bytes of a number are the format's
two_bytes : (n : ℕ) → n < 65536 → to_be_bytes w16 n ≡ u16_bytes n
unfolding u16_bytes
two_bytes n h = let e : n / 256 % 256 ≡ n / 256 = omega arith in rw e refl

pub returns : goal.returns
unfolding u16_bytes
returns c = copied c.args.file.now _ (u16_bytes c.args.number) c.args.at 2 (c.copy_from_slice.ensures.after ∙ c.to_be_bytes.ensures ∙ two_bytes c.args.number (omega arith)) refl c.requires

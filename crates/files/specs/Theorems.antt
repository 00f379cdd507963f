-- What sites may rely on when they exchange files. `proofs/Theorems` proves each. Statements only.
use Rattle.std.specs.Prelude.{ℕ, ◌<◌, ◌≡◌, List, length, get_or}
use Rattle.files.specs.Format.{Stored, options_by}
use Rattle.files.specs.Calls.{read, write, written_by, call_write}

-- a list of bytes
abbrev pub Bytes : List ℕ → Type 0
Bytes f = (i : ℕ) → get_or f i 0 < 256

-- `reads_back`: what the writer wrote reads back bit for bit, masked gates' bits too
abbrev pub ReadsBack : Type 0
ReadsBack =
    (s : Stored) (buffer vel mask : List ℕ) → (write s buffer).number ≡ 0 → length vel ≡ length s.vel → length mask ≡ length s.mask
    → read (write s buffer).file vel mask ≡ record { number = 0; sweep = s }

-- `only_file`: what the writer writes for the sweep of an accepted file is that file
abbrev pub OnlyFile : Type 0
OnlyFile =
    (f vel mask buffer : List ℕ) → Bytes f → (read f vel mask).number ≡ 0 → length buffer ≡ length f
    → write (read f vel mask).sweep buffer ≡ written_by 0 f

-- `one_file`: two accepted files of one sweep are one file
abbrev pub OneFile : Type 0
OneFile =
    (f g vel mask vel' mask' : List ℕ) → Bytes f → Bytes g → (read f vel mask).number ≡ 0 → (read g vel' mask').number ≡ 0
    → (read f vel mask).sweep ≡ (read g vel' mask').sweep → f ≡ g

-- `writes_back`: the exported writer, called with the numbers that the reader gave, writes that file again
abbrev pub WritesBack : Type 0
WritesBack =
    (f vel mask buffer : List ℕ) → Bytes f → (read f vel mask).number ≡ 0 → length buffer ≡ length f
    → (
    let s = (read f vel mask).sweep in
    call_write (options_by s.header) s.vel s.mask buffer ≡ written_by 0 f
    )

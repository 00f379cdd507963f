-- Sweep files: the request's examples and others as lists under one theorem each, computed.
use Rattle.std.specs.Prelude.{ℕ, ◌≡◌, refl, List, [], ◌∷◌, ◌++◌, map, pos, replicate}
use Rattle.std.specs.Float.{binary32}
use Rattle.std.specs.Float.Ieee.{of_int}
use Rattle.files.specs.Format.{options_of, u16_bytes, field}
use Rattle.files.specs.Calls.{read_answer_by, call_read, size_answer_by, call_size, written_by, call_write}
use Rattle.printout.specs.Unfold.{Printed, printed_by, printed}
use Rattle.printout.specs.Evaluating.{evaluating}

-- the contents of a header at Nyquist 10, splits 3 and skips 100, of so many rays and gates, with this option byte
abbrev contents : ℕ → ℕ → ℕ → List ℕ
contents rays gates options = u16_bytes rays ++ u16_bytes gates ++ (65 ∷ 32 ∷ 0 ∷ 0 ∷ 0 ∷ 3 ∷ 0 ∷ 100 ∷ 0 ∷ 100 ∷ options ∷ [])

abbrev header : ℕ → ℕ → ℕ → List ℕ
header rays gates options = field 1 (contents rays gates options)

-- gates of mask byte m: 9 and -9
abbrev nine : ℕ → List ℕ
nine m = m ∷ 65 ∷ 16 ∷ 0 ∷ 0 ∷ []

abbrev less : ℕ → List ℕ
less m = m ∷ 193 ∷ 16 ∷ 0 ∷ 0 ∷ []

-- one ray: 9, 9, -9
abbrev sample : List ℕ
sample = header 1 3 0 ++ field 2 (nine 1 ++ nine 1 ++ less 1)

-- a file, and what is printed for it after its number
pub record Row : Type 0 where
  pub file : List ℕ
  pub result : Printed

abbrev row : List ℕ → ℕ → List ℕ → Row
row f number text = record { file = f; result = printed_by number text }

-- `0 0 1`; faults of the header; question 1 before the rays; faults of the rays and after them; questions on the contents; empty lines
unfoldable pub rows : List Row
rows = row sample 0 (48 ∷ 32 ∷ 48 ∷ 32 ∷ 49 ∷ 10 ∷ [])
    ∷ row [] 11 []
    ∷ row (0 ∷ []) 12 []
    ∷ row (1 ∷ []) 11 []
    ∷ row (field 1 (contents 1 3 255 ++ 0 ∷ [])) 11 []
    ∷ row (header 1 3 4) 12 []
    ∷ row (header 721 0 0) 1 []
    ∷ row (header 1 1201 0) 1 []
    ∷ row (header 1 3 0) 11 []
    ∷ row (header 2 1 0 ++ field 2 (nine 2)) 11 []
    ∷ row (header 2 1 0 ++ field 2 (nine 2) ++ field 1 (nine 1)) 12 []
    ∷ row (header 1 1 0 ++ field 2 (nine 1 ++ nine 1)) 11 []
    ∷ row (sample ++ 0 ∷ []) 12 []
    ∷ row (header 1 1 0 ++ field 2 (nine 2)) 3 []
    ∷ row (header 1 1 0 ++ field 2 (1 ∷ 127 ∷ 192 ∷ 0 ∷ 0 ∷ [])) 7 []
    ∷ row (header 1 1 0 ++ field 2 (0 ∷ 127 ∷ 192 ∷ 0 ∷ 0 ∷ [])) 0 (48 ∷ 10 ∷ [])
    ∷ row (header 2 0 0 ++ field 2 [] ++ field 2 []) 0 (10 ∷ 10 ∷ [])
    ∷ row (header 1 129 0) 0 []
    ∷ []

pub rows_print : map (λ (r : Row). printed r.file) rows ≡ map (λ (r : Row). r.result) rows
unfolding evaluating rows
rows_print = refl

-- the reader: accepted; refused, with a header of zeros; a header of 7 words; two velocities lent for three
pub reads : call_read sample (5 ∷ 5 ∷ 5 ∷ []) (5 ∷ 5 ∷ 5 ∷ []) (replicate 8 5)
    ∷ call_read [] (5 ∷ []) (5 ∷ []) (replicate 8 5)
    ∷ call_read sample (5 ∷ []) (5 ∷ []) (replicate 7 5)
    ∷ call_read sample (5 ∷ 5 ∷ []) (5 ∷ 5 ∷ 5 ∷ []) (replicate 8 5)
    ∷ []
    ≡ read_answer_by 0 (1091567616 ∷ 1091567616 ∷ 3239051264 ∷ []) (1 ∷ 1 ∷ 1 ∷ []) (1 ∷ 3 ∷ 1092616192 ∷ 3 ∷ 100 ∷ 100 ∷ 0 ∷ 0 ∷ [])
    ∷ read_answer_by 11 (5 ∷ []) (5 ∷ []) (replicate 8 0)
    ∷ read_answer_by 2 (5 ∷ []) (5 ∷ []) (replicate 7 5)
    ∷ read_answer_by 2 (5 ∷ 5 ∷ []) (5 ∷ 5 ∷ 5 ∷ []) (replicate 8 0)
    ∷ []
unfolding evaluating
reads = refl

-- the size: of a whole header, whatever follows; of a file cut in it; in three words
pub sizes : call_size (header 720 1200 0) (5 ∷ 5 ∷ []) ∷ call_size (1 ∷ 0 ∷ 15 ∷ []) (5 ∷ 5 ∷ []) ∷ call_size sample (replicate 3 5) ∷ []
    ≡ size_answer_by 0 (720 ∷ 1200 ∷ []) ∷ size_answer_by 11 (5 ∷ 5 ∷ []) ∷ size_answer_by 2 (replicate 3 5) ∷ []
unfolding evaluating
sizes = refl

-- the writer writes the sample again
pub writes : call_write (options_of 1 3 (of_int binary32 (pos 10)) 3 100 100 0 0) (1091567616 ∷ 1091567616 ∷ 3239051264 ∷ []) (1 ∷ 1 ∷ 1 ∷ []) (replicate 36 5) ≡ written_by 0 sample
unfolding evaluating
writes = refl

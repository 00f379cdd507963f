-- regions.rs: the areas of each interval, numbered on from one interval to the next.
use Rattle.std.specs.Prelude.{ℕ, zero, suc, ◌+◌, Bool, ◌&&◌, List, [], ◌∷◌, length, replicate, ◌==◌, slice_index, slice_index_or, Float}
use mathlib.Core.List.{foldl}
use Rattle.std.specs.Float.{nan}
use Rattle.std.specs.Float.Ieee.{lt, le}
use Rattle.lists.specs.Seq.{tabulate}
use Rattle.labels.specs.Label.{Found, areas}

-- two neighbouring limits
pub record Interval : Type 0 where
  pub lower : Float
  pub upper : Float

-- the intervals from x on
unfoldable pub windows_from : Float → List Float → List Interval
windows_from x [] = []
windows_from x (y ∷ ys) = record { lower = x; upper = y } ∷ windows_from y ys

-- the intervals of limits
unfoldable pub windows : List Float → List Interval
windows [] = []
windows (x ∷ xs) = windows_from x xs

-- whether velocity v with mask byte m is in an interval
unfoldable pub within : Interval → Float → ℕ → Bool
within i v m = m == 1 && (le i.lower v && lt v i.upper)

-- the gates of an interval
unfoldable pub inside : List Float → List ℕ → Interval → List Bool
inside vel mask i = tabulate (length mask) (λ g. within i (slice_index_or vel g nan) (slice_index mask g))

-- a label of this interval goes over the old one, counted on from k
unfoldable pub over : ℕ → ℕ → ℕ → ℕ
over k old zero = old
over k old (suc l) = suc l + k

-- areas put over what was found before
unfoldable pub added : Found → Found → Found
added f a = record { labels = tabulate (length f.labels) (λ g. over f.number (slice_index f.labels g) (slice_index a.labels g)); number = f.number + a.number }

-- one interval's areas put over what was found before
unfoldable pub grow : ℕ → List Float → List ℕ → Found → Interval → Found
grow gates vel mask f i = added f (areas gates (inside vel mask i))

-- no gate labelled
unfoldable pub nothing : ℕ → Found
nothing n = record { labels = replicate n 0; number = 0 }

-- the regions of a sweep's gates by these limits
unfoldable pub regions : ℕ → List Float → List ℕ → List Float → Found
regions gates vel mask limits = foldl (grow gates vel mask) (nothing (length mask)) (windows limits)

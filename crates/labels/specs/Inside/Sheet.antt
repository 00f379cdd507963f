-- One lent slice of three parts: bands and then labels in the first n words, the union-find in the next n, and the counters of the bands after that.
use Rattle.std.specs.Prelude.{◌≡◌, ℕ, ◌+◌, ◌*◌, ◌^◌, ◌<◌, List, length, drop, Float}
use Rattle.lists.specs.Inside.Seg.{seg}
use Rattle.arithmetic.specs.Inside.Asked.{Rising}

-- a gate's band, and its label after the numbering
abbrev pub bands_of : List ℕ → ℕ → List ℕ
bands_of u n = seg u 0 n

-- the words of the union-find
abbrev pub words_of : List ℕ → ℕ → List ℕ
words_of u n = seg u n n

-- one counter a band
abbrev pub counts_of : List ℕ → ℕ → List ℕ
counts_of u n = drop (n + n) u

-- what a sweep's n gates and its limits are: a velocity and a mask byte for each gate, gates to a ray where there are gates, limits that never fall
pub record IsSound (n gates : ℕ) (velocity : List Float) (valid : List ℕ) (limits : List Float) : Type 0 where
  pub velocities : length velocity ≡ n
  pub masks : length valid ≡ n
  pub small : n + 1 < 2 ^ 32
  pub some_gates : 0 < n → 0 < gates
  pub rising : Rising limits
  pub few_limits : length limits < 2 ^ 32

-- what a sweep's gates and limits are to be, and the words lent for them: a label for each of n gates, and 2n + 64 more
pub record FindsRegions (gates : ℕ) (velocity : List Float) (valid : List ℕ) (limits : List Float) (u : List ℕ) : Type 0 where
  pub masks : length valid ≡ length velocity
  pub small : length velocity + 1 < 2 ^ 32
  pub some_gates : 0 < length velocity → 0 < gates
  pub rising : Rising limits
  pub few_limits : length limits < 2 ^ 32
  pub long : length u ≡ length velocity + (2 * length velocity + 64)

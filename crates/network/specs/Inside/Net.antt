-- The network that the tables stand for.
use Rattle.std.specs.Prelude.{◌≡◌, true, not, map, ℕ, eqb, get_or}
use Rattle.std.specs.Float.{nan}
use Rattle.lists.specs.Seq.{upto}
use Rattle.network.specs.Network.{Edge, Region, State, turn_if}
use Rattle.merge.specs.Inside.Tables.{Tables}
use Rattle.merge.specs.Inside.Table.{weight, first, second, bridged, count}
use Rattle.merge.specs.Inside.Steps.{unbias, turned}

-- edge j as it is stored: live where its weight is not 0
unfoldable pub edge_of : Tables → ℕ → Edge
edge_of s j = record {
  num = j;
  live = not (eqb (get_or (s.at weight) j 0) 0);
  first = get_or (s.at first) j 0;
  second = get_or (s.at second) j 0;
  link = record { weight = get_or (s.at weight) j 0; diff = get_or s.diff j nan; bridged = get_or (s.at bridged) j 0 };
}

-- edge j as it stands: turned where its second end was a base later than its first
unfoldable pub edge_now : Tables → ℕ → Edge
edge_now s j = turn_if (turned s j) (edge_of s j)

-- region r, of a size and a node that no table holds
unfoldable pub region_of : (ℕ → ℕ) → (ℕ → ℕ) → Tables → ℕ → Region
region_of gates node s r = record { label = r; size = gates r; node = node r; count = unbias (get_or (s.at count) r 0) }

unfoldable pub state_of : ℕ → ℕ → (ℕ → ℕ) → (ℕ → ℕ) → Tables → State
state_of m n gates node s = record { edges = map (edge_of s) (upto m 0); regions = map (region_of gates node s) (upto n 0) }

-- x stands for y: both dead, or equal
pub record Like (x y : Edge) : Type 0 where
  pub live : x.live ≡ y.live
  pub whole : y.live ≡ true → x ≡ y

-- The log of merges: its entries as its words say them.
use Rattle.std.specs.Prelude.{◌≡◌, List, ℕ, ◌+◌, ◌*◌, ◌≤◌, ◌<◌, ◌^◌, get_or}
use Rattle.lists.specs.Seq.{tabulate}
use Rattle.merge.specs.Inside.Table.{log}
use Rattle.merge.specs.Inside.Tables.{Tables}
use Rattle.merge.specs.Inside.Steps.{unbias}
use Rattle.network.specs.Book.{Entry}

-- entry j, w being the words of a log
unfoldable pub entry_in : (ℕ → ℕ) → ℕ → Entry
entry_in w j = record {
  base = w (6 * j);
  moved = w (6 * j + 1);
  weight = w (6 * j + 2);
  bridged = w (6 * j + 3);
  folds = unbias (w (6 * j + 4));
  gates = w (6 * j + 5);
}

-- the words of the log among the tables
abbrev pub log_in : Tables → ℕ → ℕ
log_in s j = get_or (s.at log) j 0

-- the words of k entries say vs, and fit into an i32 each
pub record Entries (w : ℕ → ℕ) (k : ℕ) (vs : List Entry) : Type 0 where
  pub are : tabulate k (entry_in w) ≡ vs
  pub low : (j : ℕ) → j < 6 * k → w j < 2 ^ 31
  pub gains : (j : ℕ) → j < k → w (6 * j + 4) ≤ 2000

-- the log after a merge that v is the entry of, k entries being there before
pub record Logging (k : ℕ) (v : Entry) (s u : Tables) : Type 0 where
  pub last : entry_in (log_in u) k ≡ v
  pub low : (f : ℕ) → f < 6 → log_in u (6 * k + f) < 2 ^ 31
  pub gain : log_in u (6 * k + 4) ≤ 2000
  pub before : (j : ℕ) → j < 6 * k → log_in u j ≡ log_in s j

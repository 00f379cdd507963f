-- The tables of the merging code by name: where each lies in the lent words, and how long it is. m edges, n nodes.
--
-- A further table: its place in Layout, one line in `tables` here, its name, and a method of Places.
use Rattle.std.specs.Prelude.{ℕ, ◌+◌, ◌*◌, Bool, List, [], ◌∷◌, ◌==◌, slice_index_or}
use Rattle.memory.specs.Inside.Layout.{Part, part, weight_at, first_at, second_at, bridged_at, enext_at, rnext_at, stamp_at, node_size_at, elen_at, rlen_at, node_count_at, node_mark_at, log_at}

-- a table is its number in the list of them
pub data Table : Type 0 where
  table : ℕ → Table

abbrev pub number : Table → ℕ
number (table k) = k

-- all tables, in order of place
abbrev pub tables : ℕ → ℕ → List Part
tables m n =
    part weight_at m
    ∷ part (first_at m) m
    ∷ part (second_at m) m
    ∷ part (bridged_at m) m
    ∷ part (enext_at m) (2 * m + n)
    ∷ part (rnext_at m n) n
    ∷ part (stamp_at m n) n
    ∷ part (node_size_at m n) n
    ∷ part (elen_at m n) n
    ∷ part (rlen_at m n) n
    ∷ part (node_count_at m n) n
    ∷ part (node_mark_at m n) n
    ∷ part (log_at m n) (6 * m)
    ∷ []

-- of each edge: its weight, 0 where it is dead, its two ends, and how many of its pairs are bridged
abbrev pub weight : Table
weight = table 0

abbrev pub first : Table
first = table 1

abbrev pub second : Table
second = table 2

abbrev pub bridged : Table
bridged = table 3

-- of each slot: the next of its chain
abbrev pub enext : Table
enext = table 4

-- of each node: the next region of its chain
abbrev pub rnext : Table
rnext = table 5

-- the number of the merge in which it was the base last, 0 if in none
abbrev pub stamp : Table
stamp = table 6

-- its gates
abbrev pub size : Table
size = table 7

-- the lengths of its two chains
abbrev pub elen : Table
elen = table 8

abbrev pub rlen : Table
rlen = table 9

-- its count, with 1,000 added
abbrev pub count : Table
count = table 10

-- 1 if it was moved by a doubtful merge, else 0
abbrev pub mark : Table
mark = table 11

-- of each merge: the six words of its entry
abbrev pub log : Table
log = table 12

-- where a table begins, and how many words it has
abbrev pub from : Table → ℕ → ℕ → ℕ
from t m n = (slice_index_or (tables m n) (number t) (part 0 0)).from

abbrev pub long : Table → ℕ → ℕ → ℕ
long t m n = (slice_index_or (tables m n) (number t) (part 0 0)).long

-- the same table
abbrev pub is : Table → Table → Bool
is t u = number t == number u

-- Where each part lies in the two work memories: n gates, k regions, m pairs, e edges, v = k + 1 nodes.
--
-- The words, from 0 on, stage by stage; a part of one stage is free for the next unless it stands there too:
--   finding regions    labels n, work of region finding 2n + 64
--   pairing            labels n, gates of the pairs 4n, gates that these see 4n, whether the look was bridged in the lowest bit of either
--   sorting            the same, then from 9n: order m, spare m, first labels m, second labels m, tallies v
--   gathering          the same pairs and order, then from 13n: the edges' weights, ends and bridged pairs, in their tables
--   merging            labels n, sizes v, counts v, marks v, log of merges 6(k - 1), then from 13n the tables of edges and nodes
-- The floats: the edges' differences, from 0 on.
use Rattle.std.specs.Prelude.{ℕ, ◌+◌, ◌*◌, ◌-◌, ◌≤◌, List, [], ◌∷◌}

-- ---- pairing and sorting

-- where the gates of the pairs begin
abbrev pub gate_at : ℕ → ℕ
gate_at n = n

-- where the gates that they see begin
abbrev pub far_at : ℕ → ℕ
far_at n = 5 * n

-- where the sorted numbers of the pairs begin
abbrev pub order_at : ℕ → ℕ
order_at n = 9 * n

-- where the spare part of the sort begins, and the first and second labels of the pairs, and the tallies of the sort
abbrev pub spare_at : ℕ → ℕ → ℕ
spare_at n m = order_at n + m

abbrev pub one_at : ℕ → ℕ → ℕ
one_at n m = order_at n + m + m

abbrev pub two_at : ℕ → ℕ → ℕ
two_at n m = order_at n + m + m + m

abbrev pub tally_at : ℕ → ℕ → ℕ
tally_at n m = order_at n + m + m + m + m

-- ---- merging

-- where the sizes of labels 0 to k begin
unfoldable pub sizes_at : ℕ → ℕ
sizes_at n = n

-- where their counts begin, with 1,000 added to each
unfoldable pub counts_at : ℕ → ℕ → ℕ
counts_at n k = n + (k + 1)

-- where their marks begin
unfoldable pub marks_at : ℕ → ℕ → ℕ
marks_at n k = n + (k + 1) + (k + 1)

-- where the log of merges begins, once they are done
unfoldable pub book_at : ℕ → ℕ → ℕ
book_at n k = n + (k + 1) + (k + 1) + (k + 1)

-- where the tables of edges and nodes begin
unfoldable pub tables_at : ℕ → ℕ
tables_at n = 13 * n

-- ---- the tables, from their own beginning on: e edges, v nodes

-- the edges' weights, the winner tree over them, and their ends
abbrev pub weight_at : ℕ
weight_at = 0

abbrev pub tree_at : ℕ → ℕ
tree_at e = e

abbrev pub first_at : ℕ → ℕ
first_at e = 3 * e

abbrev pub second_at : ℕ → ℕ
second_at e = 4 * e

-- how many of their pairs are bridged
abbrev pub bridged_at : ℕ → ℕ
bridged_at e = 5 * e

-- the slots of the edges' ends and the nodes' headers, each with the next of its chain
abbrev pub enext_at : ℕ → ℕ
enext_at e = 6 * e

-- of each node: the next region of its chain, its stamp, its size, the lengths of its two chains, its count, its mark
abbrev pub rnext_at : ℕ → ℕ → ℕ
rnext_at e v = 8 * e + v

abbrev pub stamp_at : ℕ → ℕ → ℕ
stamp_at e v = 8 * e + 2 * v

abbrev pub node_size_at : ℕ → ℕ → ℕ
node_size_at e v = 8 * e + 3 * v

abbrev pub elen_at : ℕ → ℕ → ℕ
elen_at e v = 8 * e + 4 * v

abbrev pub rlen_at : ℕ → ℕ → ℕ
rlen_at e v = 8 * e + 5 * v

abbrev pub node_count_at : ℕ → ℕ → ℕ
node_count_at e v = 8 * e + 6 * v

abbrev pub node_mark_at : ℕ → ℕ → ℕ
node_mark_at e v = 8 * e + 7 * v

-- the log of merges, six words an entry; a merge consumes an edge, so there are no more entries than edges
abbrev pub log_at : ℕ → ℕ → ℕ
log_at e v = 8 * e + 8 * v

-- all of them
abbrev pub table_words : ℕ → ℕ → ℕ
table_words e v = 14 * e + 8 * v

-- ---- the parts of each stage, in order of place

pub record Part : Type 0 where
  pub from : ℕ
  pub long : ℕ

abbrev pub part : ℕ → ℕ → Part
part a l = record { from = a; long = l }

-- no part begins before `at` or before the end of the one before it, and the last ends by `end`
unfoldable pub InTurn : ℕ → List Part → ℕ → Type 0
InTurn at [] end = at ≤ end
InTurn at (p ∷ ps) end = (at ≤ p.from) × InTurn (p.from + p.long) ps end

abbrev pub region_parts : ℕ → List Part
region_parts n = part 0 n ∷ part n (2 * n + 64) ∷ []

abbrev pub sort_parts : ℕ → ℕ → ℕ → List Part
sort_parts n k m =
    part 0 n ∷ part (gate_at n) (4 * n) ∷ part (far_at n) (4 * n)
    ∷ part (order_at n) m ∷ part (spare_at n m) m ∷ part (one_at n m) m ∷ part (two_at n m) m ∷ part (tally_at n m) (k + 1) ∷ []

abbrev pub gather_parts : ℕ → ℕ → ℕ → List Part
gather_parts n m e =
    part 0 n ∷ part (gate_at n) (4 * n) ∷ part (far_at n) (4 * n) ∷ part (order_at n) m
    ∷ part (tables_at n + weight_at) e ∷ part (tables_at n + first_at e) e ∷ part (tables_at n + second_at e) e ∷ part (tables_at n + bridged_at e) e ∷ []

abbrev pub merge_parts : ℕ → ℕ → ℕ → List Part
merge_parts n k e =
    part 0 n ∷ part (sizes_at n) (k + 1) ∷ part (counts_at n k) (k + 1) ∷ part (marks_at n k) (k + 1) ∷ part (book_at n k) (6 * (k - 1))
    ∷ part (tables_at n + weight_at) e ∷ part (tables_at n + tree_at e) (2 * e) ∷ part (tables_at n + first_at e) e ∷ part (tables_at n + second_at e) e
    ∷ part (tables_at n + bridged_at e) e ∷ part (tables_at n + enext_at e) (2 * e + (k + 1)) ∷ part (tables_at n + rnext_at e (k + 1)) (k + 1) ∷ part (tables_at n + stamp_at e (k + 1)) (k + 1)
    ∷ part (tables_at n + node_size_at e (k + 1)) (k + 1) ∷ part (tables_at n + elen_at e (k + 1)) (k + 1) ∷ part (tables_at n + rlen_at e (k + 1)) (k + 1)
    ∷ part (tables_at n + node_count_at e (k + 1)) (k + 1) ∷ part (tables_at n + node_mark_at e (k + 1)) (k + 1) ∷ part (tables_at n + log_at e (k + 1)) (6 * e) ∷ []

-- the parts of every stage lie apart, and fit into 77n + 64 of the 96n + 64 words that question 4 asks for, and a quarter of the floats
pub record Laid (n k m e : ℕ) : Type 0 where
  pub regions : InTurn 0 (region_parts n) (77 * n + 64)
  pub sort : InTurn 0 (sort_parts n k m) (77 * n + 64)
  pub gather : InTurn 0 (gather_parts n m e) (77 * n + 64)
  pub merge : InTurn 0 (merge_parts n k e) (77 * n + 64)
  pub differences : InTurn 0 (part 0 e ∷ []) (4 * n)

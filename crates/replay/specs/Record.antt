-- What a record asks of the program: memory that its arrays hold, and a number added to each count.
use Rattle.std.specs.Prelude.{ℕ, Bool, cond, ◌&&◌, leb, ℤ, pos, ◌+ℤ◌}
use Rattle.network.specs.Network.{bounded}
use Rattle.replay.specs.declared.gates.Setting.{Setting}

-- whether the arrays hold the gates, counts, marks, pair, words and floats that a record asks for
unfoldable pub held : Setting → Bool
held s = leb s.recorded 128 && leb s.counts 136 && leb s.doubtful 136 && leb s.pair 4 && leb s.words 12416 && leb s.floats 2080

-- a count from -100,000 to 100,000
unfoldable pub is_near : ℤ → Bool
is_near z = bounded 100000 z

-- a count with a number added, where neither is past 100,000
unfoldable pub raised_by : ℕ → ℤ → ℤ
raised_by more z = cond (leb more 100000 && is_near z) (z +ℤ pos more) z

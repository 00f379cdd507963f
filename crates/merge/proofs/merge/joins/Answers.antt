-- `merge::merge::joins` meets its contract. Assumes nothing.
use Rattle.merge.proofs.Leaf.{joins_out, joins_dead, joins_first, joins_second, joins_none}
use Rattle.merge.proofs.merge.joins.Goals as goal

pub returns-then-f-at : goal.returns-then-f-at
returns-then-f-at c = let a = c.args in joins_out a.at.edges a.at.nodes a.w.now a.d.now c.requires a.b a.c a.f c.if-f-at.true

pub returns-then-w-f-eq0 : goal.returns-then-w-f-eq0
returns-then-w-f-eq0 c = let a = c.args in joins_dead a.at.edges a.at.nodes a.w.now a.d.now c.requires a.b a.c a.f c.if-f-at.false c.if-w-f-eq0.true

pub returns-then-x-b : goal.returns-then-x-b
returns-then-x-b c = let a = c.args in rw c.second.ensures (joins_first a.at.edges a.at.nodes a.w.now a.d.now c.requires a.b a.c a.f c.if-f-at.false c.if-w-f-eq0.false (rw c.first.ensures at c.if-x-b.true))

pub returns-then-x-c : goal.returns-then-x-c
returns-then-x-c c = let a = c.args in rw c.second.ensures (joins_second a.at.edges a.at.nodes a.w.now a.d.now c.requires a.b a.c a.f c.if-f-at.false c.if-w-f-eq0.false (rw c.first.ensures at c.if-x-b.false) (rw c.first.ensures at c.if-x-c.true))

pub returns : goal.returns
returns c = let a = c.args in joins_none a.at.edges a.at.nodes a.w.now a.d.now c.requires a.b a.c a.f c.if-f-at.false c.if-w-f-eq0.false (rw c.first.ensures at c.if-x-b.false) (rw c.first.ensures at c.if-x-c.false)

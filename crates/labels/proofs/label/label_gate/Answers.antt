-- `labels::label::label_gate` meets its contract. Assumes nothing.
use Rattle.labels.proofs.GateLaws.{ahead_here, next_some, next_in, next_fits, next_less, none_labelled, first_labelled, later_labelled, first_words, later_words}
use Rattle.std.proofs.Common.{◌≡◌, ◌+◌, ◌-◌, ◌<◌, ◌≤◌, length, get_or, refl, arith}
use Rattle.labels.specs.Locals.{NoArray}
use Rattle.labels.proofs.label.label_gate.Code.Mir.{function}
use Rattle.labels.proofs.label.label_gate.Goals.{Start}
use Rattle.labels.proofs.label.label_gate.Goals as goal

no_array : NoArray function
no_array = refl

gate : (c : Start) → c.args.g < c.args.n
gate c = ahead_here c.args.u.now c.args.n c.requires.in_bounds c.args.g c.requires.ahead

-- the band of a gate with a word, the place of its counter, and its parent
some : (c : Start) → (get_or c.args.u.now (c.args.n + c.args.g) 0 ≡ 0 → ⊥) → 1 ≤ get_or c.args.u.now c.args.g 0
some c = next_some c.args.u.now c.args.n c.requires.in_bounds c.args.g c.requires.ahead

place : (c : Start) → (get_or c.args.u.now (c.args.n + c.args.g) 0 ≡ 0 → ⊥) → c.args.n + c.args.n + (get_or c.args.u.now c.args.g 0 - 1) < length c.args.u.now
place c = next_in c.args.u.now c.args.n c.requires.in_bounds c.args.g c.requires.ahead

less : (c : Start) → (get_or c.args.u.now (c.args.n + c.args.g) 0 ≡ 0 → ⊥) → (get_or c.args.u.now (c.args.n + c.args.g) 0 - 1 ≡ c.args.g → ⊥) → get_or c.args.u.now (c.args.n + c.args.g) 0 - 1 < c.args.g
less c = next_less c.args.u.now c.args.n c.requires.in_bounds c.args.g c.requires.ahead

pub bounds-u-n : goal.bounds-u-n
bounds-u-n c = omega (arith, gate (goal.at.bounds-u-n c).Start)

pub returns-then-v-eq0 : goal.returns-then-v-eq0
returns-then-v-eq0 c = let a = c.args in record { labels_gate = λ iv rs c₀ F N. none_labelled a.u.now a.n c.requires.in_bounds a.g c.requires.ahead iv rs c₀ F N c.if-v-eq0.true; words_unchanged = refl }

pub overflow_sub-b : goal.overflow_sub-b
overflow_sub-b c = some (goal.at.overflow_sub-b c).Start c.if-v-eq0.false

pub bounds-u-at : goal.bounds-u-at
bounds-u-at c = place (goal.at.bounds-u-at c).Start c.if-v-eq0.false

pub overflow_add-k : goal.overflow_add-k
overflow_add-k c =
    let a = c.args in
    omega (arith, next_fits a.u.now a.n c.requires.in_bounds a.g c.requires.ahead c.if-v-eq0.false)

pub bounds-u-at-then-p-g : goal.bounds-u-at-then-p-g
bounds-u-at-then-p-g c = place (goal.at.bounds-u-at-then-p-g c).Start c.if-v-eq0.false

pub returns-then-p-g : goal.returns-then-p-g
returns-then-p-g c = let a = c.args in record { labels_gate = λ iv rs c₀ F N. first_labelled a.u.now a.n c.requires.in_bounds a.g c.requires.ahead iv rs c₀ F N c.if-v-eq0.false c.if-p-g.true; words_unchanged = first_words a.u.now a.n c.requires.in_bounds a.g c.requires.ahead (get_or a.u.now (a.n + a.n + (get_or a.u.now a.g 0 - 1)) 0 + 1) }

pub bounds-u-p : goal.bounds-u-p
bounds-u-p c = omega (arith, gate (goal.at.bounds-u-p c).Start, c.requires.in_bounds, less (goal.at.bounds-u-p c).Start c.if-v-eq0.false c.if-p-g.false)

pub returns : goal.returns
returns c = let a = c.args in record { labels_gate = λ iv rs c₀ F N. later_labelled a.u.now a.n c.requires.in_bounds a.g c.requires.ahead iv rs c₀ F N c.if-v-eq0.false c.if-p-g.false; words_unchanged = later_words a.u.now a.n c.requires.in_bounds a.g c.requires.ahead (get_or a.u.now (get_or a.u.now (a.n + a.g) 0 - 1) 0) }

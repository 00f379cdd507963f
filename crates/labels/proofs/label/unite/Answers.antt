-- `labels::label::unite` meets its contract. Assumes nothing.
use Rattle.std.proofs.Common.{ℕ, ◌+◌, ◌^◌, ◌<◌, List, length, refl, arith}
use Rattle.labels.specs.Inside.Forest.{Root}
use Rattle.labels.proofs.ForestLaws.{some_after, gate_after, r_below, s_below, united_left, united_right, two_left, two_right}
use Rattle.labels.specs.Locals.{NoArray}
use Rattle.labels.proofs.label.unite.Code.Mir.{function}
use Rattle.labels.proofs.label.unite.Goals.{After-find-s}
use Rattle.labels.proofs.label.unite.Goals as goal

no_array : NoArray function
no_array = refl

-- the two roots, for the forest that is there
one : (c : After-find-s) → Root c.requires.some.inside c.find-r.new.w c.requires.some.rs c.args.a c.find-r.result
one c =
    let s = c.requires.some in
    c.find-r.ensures s.inside s.rs s.forest

two : (c : After-find-s) → Root c.requires.some.inside c.find-s.new.w c.requires.some.rs c.args.b c.find-s.result
two c =
    let s = c.requires.some in
    c.find-s.ensures s.inside s.rs (one c).forest

record Bounds (w : List ℕ) (r s : ℕ) : Type 0 where
  r_in : r < length w
  s_in : s < length w
  small : length w + 1 < 2 ^ 32

bounds : (c : After-find-s) → Bounds c.find-s.new.w c.find-r.result c.find-s.result
bounds c =
    let s = c.requires.some in
    let a = c.args in
    record {
      r_in = r_below s.inside c.find-r.new.w c.find-s.new.w s.rs a.a a.b c.find-r.result c.find-s.result (one c) (two c);
      s_in = s_below s.inside c.find-r.new.w c.find-s.new.w s.rs a.a a.b c.find-r.result c.find-s.result (one c) (two c);
      small = omega (arith, s.small, s.forest.long, (two c).forest.long);
    }

pub find-s-requires : goal.find-s-requires
find-s-requires c =
    let s = c.requires.some in
    let F = (c.find-r.ensures s.inside s.rs s.forest).forest in
    record { some = some_after c.args.w.now c.find-r.new.w s s.rs F; gate = gate_after s.inside c.args.w.now s.rs c.find-r.new.w s.rs s.forest F c.args.b c.requires.gate.1 }

pub bounds-w-s : goal.bounds-w-s
bounds-w-s c = (bounds (goal.at.bounds-w-s c).After-find-s).s_in

pub overflow_add-w-2 : goal.overflow_add-w-2
overflow_add-w-2 c = omega (arith, bounds (goal.at.overflow_add-w-2 c).After-find-s)

pub bounds-w-r : goal.bounds-w-r
bounds-w-r c = (bounds (goal.at.bounds-w-r c).After-find-s).r_in

pub returns-then-r-s : goal.returns-then-r-s
returns-then-r-s c =
    let a = c.args in
    let f = c.find-r in
    let k = c.find-s in record {
      value = λ inside rs F.
          let R = f.ensures inside rs F in
          two_left inside f.new.w k.new.w rs a.a a.b f.result k.result R (k.ensures inside rs R.forest) c.if-r-s.true;
      forest = λ inside rs F.
          let R = f.ensures inside rs F in
          united_left inside f.new.w k.new.w rs a.a a.b f.result k.result R (k.ensures inside rs R.forest) c.if-r-s.true;
    }

pub returns : goal.returns
returns c =
    let a = c.args in
    let f = c.find-r in
    let k = c.find-s in record {
      value = λ inside rs F.
          let R = f.ensures inside rs F in
          two_right inside f.new.w k.new.w rs a.a a.b f.result k.result R (k.ensures inside rs R.forest) c.if-r-s.false;
      forest = λ inside rs F.
          let R = f.ensures inside rs F in
          united_right inside f.new.w k.new.w rs a.a a.b f.result k.result R (k.ensures inside rs R.forest) c.if-r-s.false;
    }

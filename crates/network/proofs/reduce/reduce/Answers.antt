-- `network::reduce::reduce` meets its contract. Assumes nothing.
use Rattle.network.specs.Inside.Reduce.{kept_tables}
use Rattle.lists.specs.Inside.Seg.{seg}
use borrow.Rule.Slice.PartMut.{put_mid}
use Rattle.network.proofs.Reduction.{sizes_ask, space, raw_ask, reduced}
use native.Mathlib.Omega.{arith}
use mathlib.Core.Path.{◌≡◌, refl}
use Prim.Native.Nat.{◌+◌, ◌-◌, ◌*◌}
use Rattle.network.proofs.reduce.reduce.Goals as goal

pub count_sizes-requires : goal.count_sizes-requires
count_sizes-requires c =
    let a = c.args in
    let g = c.find_edges-e in
    sizes_ask a.f a.w.now a.d.now a.vel.now a.n a.k a.two_nyquist c.requires g.new.w g.new.d g.result g.auto.w g.auto.d g.ensures

pub merge_all-r-requires : goal.merge_all-r-requires
unfolding seg
merge_all-r-requires c =
    let a = c.args in
    let g = c.find_edges-e in
    let z = c.count_sizes in
    let y = c.copy in
    let s : 13 * a.n + c.size.result ≡ 13 * a.n + 8 * g.result + 3 * (a.k + 1) = omega (arith, c.size.ensures) in
    record {
      space = space a.f a.w.now a.d.now a.vel.now a.n a.k a.two_nyquist c.requires g.new.w g.new.d g.result g.auto.w g.auto.d g.ensures
          z.new.w z.ensures y.new.w (rw s at y.ensures) ((13 * a.n + 8 * g.result + 8 * (a.k + 1) + 6 * g.result) - 13 * a.n) (omega arith);
      raw = raw_ask a.f a.w.now a.d.now a.vel.now a.n a.k a.two_nyquist c.requires g.new.w g.new.d g.result g.auto.w g.auto.d g.ensures
          z.new.w z.ensures y.new.w (rw s at y.ensures) ((13 * a.n + 8 * g.result + 8 * (a.k + 1) + 6 * g.result) - 13 * a.n) (omega arith);
    }

pub returns : goal.returns
unfolding seg kept_tables
returns c =
    let a = c.args in
    let g = c.find_edges-e in
    let z = c.count_sizes in
    let y = c.copy in
    let s : 13 * a.n + c.size.result ≡ 13 * a.n + 8 * g.result + 3 * (a.k + 1) = omega (arith, c.size.ensures) in
    let m = c.merge_all-r in
    let v = c.keep_tables in
    reduced a.f a.w.now a.d.now a.vel.now a.n a.k a.two_nyquist c.requires g.new.w g.new.d g.result g.auto.w g.auto.d g.ensures
    z.new.w z.ensures y.new.w (rw s at y.ensures) ((13 * a.n + 8 * g.result + 8 * (a.k + 1) + 6 * g.result) - 13 * a.n) (omega arith) m.new.w m.new.d m.result m.auto.w m.ensures
    (put_mid (13 * a.n) ((13 * a.n + 8 * g.result + 8 * (a.k + 1) + 6 * g.result) - 13 * a.n) y.new.w m.new.w) refl _ refl _ refl _ _ v.new.w refl refl v.ensures

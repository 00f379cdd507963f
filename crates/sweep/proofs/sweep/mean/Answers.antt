-- `sweep::sweep::mean` meets its contract. Assumes nothing.
use Rattle.std.proofs.Common.{rules, ◌≡◌, ℕ, ◌*◌, ℤ, pos, ◌-ℤ◌, ap, ◌∙◌, w32, w64, to_z, of_z}
use Rattle.arithmetic.specs.Rounding.{real}
use lib.IntN.{sub_ℕ}
use lib.Ieee.{Float, binary64, div, of_int}
use Rattle.arithmetic.specs.Rounding.{round_even}
use Rattle.sweep.proofs.SignedLaws.{total_fits, total_back}
use Rattle.sweep.specs.Sweep.{or_zero}
use Rattle.sweep.proofs.sweep.mean.Goals as goal

-- the quotient of the two floats is the mean's
quotient : (x y : Float) (t z : ℤ) (g : ℕ) → x ≡ of_int binary64 t → t ≡ z → y ≡ of_int binary64 (pos g) → div binary64 x y ≡ div binary64 (real z) (real (pos g))
unfolding real
quotient x y t z g a b d = ap (λ (q : Float). div binary64 q y) (a ∙ ap (of_int binary64) b) ∙ ap (λ (q : Float). div binary64 (of_int binary64 z) q) d

pub overflow_sub-total : goal.overflow_sub-total
overflow_sub-total c = total_fits c.args.s.held c.args.s.gates c.requires.0 c.requires.1

pub returns : goal.returns
unfolding or_zero
returns c =
    let n = c.nearest_i64_to_f64 in
    let n' = c.nearest_u64_to_f64 in
    let p = c.requires in
    let a = c.args.s in
    let e = quotient n.result n'.result (to_z w64 (of_z w64 (to_z w64 a.held -ℤ to_z w64 (1000 * a.gates)))) (sub_ℕ a.held (1000 * a.gates)) a.gates n.ensures (total_back a.held a.gates p.0 p.1) n'.ensures in
    let f = c.round_even in
    let z : to_z w32 (of_z w32 c.unwrap_or.result) ≡ c.unwrap_or.result = search rules in
    z ∙ c.unwrap_or.ensures ∙ ap or_zero (f.ensures ∙ ap round_even e)

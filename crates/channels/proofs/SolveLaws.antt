-- Both channels by their limits: what writing them asks after finding, and what they come to. Assumes nothing.
use Prim.Native.Nat.{ℕ, ◌-◌, ◌*◌}
use native.Mathlib.Omega.{arith}
use mathlib.Core.Path.{◌≡◌, sym, ap, ◌∙◌, subst}
use mathlib.Core.List.{List}
use lib.ListN.{length}
use lib.Ieee.{Float}
use Rattle.arithmetic.specs.declared.intervals.Plan.{Plan}
use Rattle.network.specs.Inside.Find.{limits_by}
use Rattle.sweep.specs.Sweep.{unfolded}
use Rattle.sweep.specs.Questions.{asked9}
use Rattle.sweep.specs.Entry.{sweep_in}
use Rattle.sweep.specs.Inside.Finish.{outcome_by}
use Rattle.network.specs.declared.input.Sweep.{Sweep as Lent}
use Rattle.sweep.proofs.SolveLaws as S
use Rattle.channels.specs.Inside.Both.{behind, FindsBoth, LeavesOf, LeavesBoth, Lengths, WritesBoth}
use Rattle.channels.specs.declared.both.Findings.{Findings}
use Rattle.channels.proofs.LeavesLaws.{behind_long}

-- how long a channel's slices are to be, n being its gates
pub record AsLong (l : Lengths) (n : ℕ) : Type 0 where
  pub counts : l.counts ≡ n
  pub doubtful : l.doubtful ≡ n
  pub pair : l.pair ≡ 2

-- u being the words and f the answers that finding left
module _ (h v : Lent) (p : Plan) (w : List ℕ) (d : List Float) (q : FindsBoth h v p w d) (u : List ℕ) (f : Findings) (long : length u ≡ length w) (R : LeavesBoth h v p u f) where
  -- one mask byte a gate
  masks : length h.velocity.now ≡ length h.valid.now
  masks = sym q.horizontal.limited.masks

  part_long : length (behind (length h.valid.now) u) ≡ length (behind (length h.velocity.now) w)
  part_long = ap (λ (n : ℕ). length (behind n u)) (sym masks) ∙ behind_long (length h.velocity.now) u ∙ ap (λ (k : ℕ). k - 13 * length h.velocity.now) long ∙ sym (behind_long (length h.velocity.now) w)

  vertical_left : LeavesOf v.options p v.velocity.now v.valid.now (behind (length h.valid.now) u) f.vertical
  vertical_left = subst (λ (n : ℕ). LeavesOf v.options p v.velocity.now v.valid.now (behind n u) f.vertical) masks R.vertical

  pub writes_both : (x y : Lengths) → AsLong x (length h.velocity.now) → AsLong y (length v.velocity.now) → WritesBoth f u h.valid.now v.valid.now x y
  writes_both x y a b = record {
    room = omega (arith, masks, long, q.horizontal.words);
    horizontal = S.write_asks h.options p h.velocity.now h.valid.now w d q.horizontal u f.horizontal long R.horizontal x.counts x.doubtful x.pair a.counts a.doubtful a.pair;
    vertical = S.write_asks v.options p v.velocity.now v.valid.now (behind (length h.velocity.now) w) d q.vertical (behind (length h.valid.now) u) f.vertical part_long vertical_left y.counts y.doubtful y.pair b.counts b.doubtful b.pair;
  }

  pub horizontal_is : outcome_by f.horizontal u h.valid.now h.options.centred ≡ asked9 (unfolded (sweep_in h) (limits_by h.options p))
  horizontal_is = S.outcome_is h.options p h.velocity.now h.valid.now w d q.horizontal u f.horizontal long R.horizontal

  pub vertical_is : outcome_by f.vertical (behind (length h.valid.now) u) v.valid.now v.options.centred ≡ asked9 (unfolded (sweep_in v) (limits_by v.options p))
  vertical_is = S.outcome_is v.options p v.velocity.now v.valid.now (behind (length h.velocity.now) w) d q.vertical (behind (length h.valid.now) u) f.vertical part_long vertical_left

-- A part of a slice that is lent to a call which fills it. Assumes nothing.
use Prim.Native.Nat.{ℕ, ◌+◌, ◌-◌, ◌≤◌}
use native.Mathlib.Omega.{arith}
use mathlib.Core.Path.{◌≡◌, ap, ◌∙◌}
use mathlib.Core.List.{List}
use lib.ListN.{length, take, drop}
use borrow.Rule.Slice.PartMut.{put_mid}
use Rattle.lists.specs.Seq.{tabulate}
use Rattle.lists.specs.Inside.Seg.{seg, put}
use Rattle.lists.proofs.SeqLaws.{tab_length}
use Rattle.lists.proofs.SegLaws.{length-seg, put_mid_lem}

-- n elements from b on, lent to a call
module _ {A : Type 0} (w : List A) (b n : ℕ) (room : b + n ≤ length w) where
  whole : b + n - b ≡ n
  whole = omega arith

  pub part_long : length (take (b + n - b) (drop b w)) ≡ n
  unfolding seg
  part_long = ap (λ (k : ℕ). length (take k (drop b w))) whole ∙ length-seg w b n room

  -- what the call writes into them
  pub part_written : (f : ℕ → A) (vs : List A) → vs ≡ tabulate (length (take (b + n - b) (drop b w))) f → put_mid b (b + n - b) w vs ≡ put w b (tabulate n f)
  part_written f vs e =
      let g : vs ≡ tabulate n f = e ∙ ap (λ (k : ℕ). tabulate k f) part_long in
      let long : length vs ≡ n = ap length g ∙ tab_length f n in
      ap (λ (k : ℕ). put_mid b k w vs) whole ∙ put_mid_lem w b n vs long room ∙ ap (put w b) g

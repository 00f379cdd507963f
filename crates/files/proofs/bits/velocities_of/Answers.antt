-- `files::bits::velocities_of` meets its contract. Assumes nothing.
use Rattle.std.proofs.Common.{◌≡◌, ℕ, List, ◌∷◌, [], map, length, sym, ap, ◌∙◌, refl, arith, get_or}
use lib.Ieee.{Float, binary32, of_bits}
use Rattle.lists.specs.Seq.{tabulate, upto}
use Rattle.lists.proofs.SegLaws.{is_tab}
use Rattle.sweep.proofs.FillLaws.{fill_all}
use Rattle.files.proofs.bits.velocities_of.Invariants.{velocity_at}
use Rattle.files.proofs.bits.velocities_of.Goals as goal

-- a function of each element is the table of it
map_tab : (f : ℕ → Float) (l : List ℕ) → tabulate (length l) (λ i. f (get_or l i 0)) ≡ map f l
unfolding tabulate
map_tab f l = sym (both (λ i. get_or l i 0) (upto (length l) 0)) ∙ ap (map f) (sym (is_tab l (λ i. get_or l i 0) (length l) refl (λ i h. refl)))
  where
    both : (g : ℕ → ℕ) (m : List ℕ) → map f (map g m) ≡ map (λ i. f (g i)) m
    both g [] = refl
    both g (x ∷ m) = ap (λ (r : List Float). f (g x) ∷ r) (both g m)

pub returns : goal.returns
returns c =
    let l = c.loop-i in
    let e : l.i ≡ length c.args.bits.now = omega (arith, l.auto.i-end, c.loop-i-test.false, c.requires) in
    fill_all (velocity_at c.args.bits.now) c.args.velocity.now l.velocity l.i (length c.args.bits.now) l.invariant e c.requires ∙ map_tab (of_bits binary32) c.args.bits.now

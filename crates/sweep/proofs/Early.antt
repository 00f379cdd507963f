-- The early ends: there is no edge, so the network's merges are none, its counts 0 and no region is marked. Assumes nothing.
use Rattle.std.proofs.Common.{◌≡◌, ℕ, Bool, true, false, ◌||◌, ltb, List, [], ◌∷◌, pos, sym, refl, true≢false, ltb-true}
use Rattle.arithmetic.specs.Intervals.{two_nyquist}
use Rattle.labels.specs.Label.{Found}
use Rattle.edges.specs.Edges.{used}
use Rattle.edges.specs.declared.edges.Pair.{Pair}
use Rattle.network.specs.Network.{merges, trace, count_of, mark_of}
use Rattle.network.proofs.FewRegions.{used_few, used_none, no_merges, no_counts, no_marks}
use Rattle.sweep.specs.Sweep.{Sweep, pairs_of, network_of, final, none, early}

module _ (s : Sweep) (f : Found) (h : early s f ≡ true) where
  used_early : used f.number (pairs_of s f) ≡ []
  unfolding early
  used_early = go (ltb f.number 2) refl (pairs_of s f) refl h
    where
      go : (b : Bool) → ltb f.number 2 ≡ b → (ps : List Pair) → pairs_of s f ≡ ps → (b || none ps) ≡ true → used f.number ps ≡ []
      go true e ps w q = used_few f.number ps (ltb-true f.number 2 e)
      go false e [] w q = used_none f.number
      go false e (p ∷ ps) w q = absurd (unfold none in true≢false (sym q))

  pub early_merges : merges (network_of s f) ≡ []
  unfolding network_of pairs_of
  early_merges = no_merges (two_nyquist s.nyquist) s.shape f.number f.labels s.vel used_early

  pub early_counts : (a : ℕ) → count_of (final (network_of s f)).regions a ≡ pos 0
  unfolding final network_of pairs_of
  early_counts = no_counts (two_nyquist s.nyquist) s.shape f.number f.labels s.vel used_early

  pub early_marks : (a : ℕ) → mark_of (trace (network_of s f) (merges (network_of s f))) a ≡ 0
  unfolding network_of pairs_of
  early_marks = no_marks (two_nyquist s.nyquist) s.shape f.number f.labels s.vel used_early

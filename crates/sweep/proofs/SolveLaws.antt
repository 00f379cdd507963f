-- A sweep by its limits: what writing asks after finding, and the end in terms of the definition. Assumes nothing.
use Rattle.std.proofs.Common.{◌≡◌, ℕ, ◌+◌, ◌*◌, ◌≤◌, true, false, List, length, get_or, replicate, ℤ, pos, refl, ap, ◌∙◌, arith}
use lib.Ieee.{Float}
use Rattle.arithmetic.specs.Rounding.{real}
use Rattle.arithmetic.specs.declared.intervals.Plan.{Plan}
use Rattle.labels.proofs.RegionLaws.{labels_long, label_at_most, number_at_most}
use Rattle.labels.specs.Label.{Found}
use Rattle.network.specs.Network.{State, merges, merges_in_range}
use Rattle.network.specs.Inside.Find.{Finding, limits_by, regions_by, network_for, Finds, Leaves}
use Rattle.network.specs.declared.options.Options.{Options}
use Rattle.network.specs.declared.find.Run.{Run}
use Rattle.std.specs.Prelude.{Ok}
use Rattle.network.specs.Inside.Settle.{refused as run_refused}
use Rattle.sweep.specs.Sweep.{unfolded, regions_of}
use Rattle.sweep.specs.Questions.{Outcome, refused, accepted, asked9}
use Rattle.sweep.specs.Call.{Answer, ending, memory_of, answer_by}
use Rattle.sweep.specs.Entry.{sweep_by}
use Rattle.sweep.specs.Inside.Finish.{WritesFound, lent, outcome_by, all_zero}
use Rattle.sweep.proofs.MergeLaws as M

-- counts, marks and pair of an answer, with these work memories
abbrev in_memory : List ℕ → List Float → Answer → Answer
in_memory W D x = answer_by x.number x.memory.counts x.memory.doubtful x.memory.pair W D

end_in : (o : Outcome) (cs : List ℤ) (ds p W : List ℕ) (D : List Float) → in_memory W D (ending o (lent cs ds p)) ≡ ending o (memory_of cs ds p W D)
unfolding ending
end_in (refused k) cs ds p W D = refl
end_in (accepted c x r k) cs ds p W D = refl

module _ (o : Options) (p : Plan) (vel : List Float) (mask w : List ℕ) (d : List Float) (q : Finds o p vel mask w d) (v : List ℕ) (x : Finding) (same : length v ≡ length w)
    (R : Leaves (regions_by o p vel mask) (network_for o (regions_by o p vel mask) vel) (length vel) v x) where
  pub room : 77 * length vel + 64 ≤ length v
  room = omega (arith, same, q.words)

  pub few : (regions_by o p vel mask).number ≤ length vel
  few = omega (arith, number_at_most o.gates vel mask (limits_by o p) q.limited.rising, q.limited.masks)

  long : length (regions_by o p vel mask).labels ≡ length vel
  long = labels_long o.gates vel mask (limits_by o p) ∙ q.limited.masks

  abbrev F : Found
  F = regions_by o p vel mask

  abbrev t : State
  t = network_for o F vel

  low : (g : ℕ) → get_or F.labels g 0 ≤ F.number
  low = label_at_most o.gates vel mask (limits_by o p) q.limited.rising

  -- what was found, by question 9
  pub refused_found : merges_in_range t ≡ false → x ≡ run_refused
  refused_found = M.found_no o vel mask F (length vel) v x R q.limited.masks q.limited.small room few long low

  pub run_found : merges_in_range t ≡ true → x ≡ Ok (record { regions = F.number; merges = length (merges t) })
  run_found = M.found_yes o vel mask F (length vel) v x R q.limited.masks q.limited.small room few long low

  pub accepted_run : (r : Run) → x ≡ Ok r → (merges_in_range t ≡ true) × (r ≡ record { regions = F.number; merges = length (merges t) })
  accepted_run r e = (
    M.good_if o vel mask F (length vel) v x R q.limited.masks q.limited.small room few long low r e,
    M.run_is o vel mask F (length vel) v x R q.limited.masks q.limited.small room few long low r e,
  )

  pub write_asks : (c b two : ℕ) → c ≡ length vel → b ≡ length vel → two ≡ 2 → WritesFound x v mask c b two
  write_asks = M.ready o vel mask F (length vel) v x R q.limited.masks q.limited.small room few long low

  -- the outcome of what was found
  pub outcome_is : outcome_by x v mask o.centred ≡ asked9 (unfolded (sweep_by o vel mask) (limits_by o p))
  unfolding unfolded regions_of
  outcome_is = M.outcome_is o vel mask F (length vel) v x R q.limited.masks q.limited.small room few long low

  pub solved_is : (r : ℕ) (cs cs' : List ℤ) (ds ds' ps ps' W : List ℕ) (D : List Float)
      → ◌≡◌ {A = Answer} (record { number = r; memory = lent cs' ds' ps' }) (ending (outcome_by x v mask o.centred) (lent cs ds ps))
      → W ≡ replicate (length w) 0 → D ≡ replicate (length d) (real (pos 0))
      → answer_by r cs' ds' ps' W D ≡ ending (asked9 (unfolded (sweep_by o vel mask) (limits_by o p))) (all_zero (memory_of cs ds ps w d))
  solved_is r cs cs' ds ds' ps ps' W D e g h =
      let y : Outcome = asked9 (unfolded (sweep_by o vel mask) (limits_by o p)) in
      ap (in_memory W D) (e ∙ ap (λ (z : Outcome). ending z (lent cs ds ps)) outcome_is)
      ∙ end_in y cs ds ps W D
      ∙ (λ i. ending y (memory_of cs ds ps (g i) (h i)))

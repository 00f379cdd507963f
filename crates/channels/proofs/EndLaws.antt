-- The end of a call by question 9 of both channels, and as the code comes to it. Assumes nothing.
use Prim.Native.Nat.{ℕ, ◌<◌}
use native.Mathlib.Omega.{arith}
use mathlib.Core.Path.{◌≡◌, refl, ap, ◌∙◌}
use mathlib.Core.Bool.{Bool, true, false, true≢false, false≢true}
use mathlib.Core.List.{List, [], ◌∷◌, ◌++◌}
use lib.ListN.{length}
use lib.Ieee.{Float}
use Rattle.std.specs.Prelude.{Ok, Err, is_err}
use Rattle.network.specs.Inside.Find.{Finding}
use Rattle.sweep.specs.Sweep.{Unfolded}
use Rattle.sweep.specs.Questions.{Outcome, refused, accepted, ask, first_no, answered, asked9}
use Rattle.sweep.specs.Call.{Answer, ending}
use Rattle.sweep.specs.Entry.{answer_of}
use Rattle.sweep.specs.Refusal.{number_of}
use Rattle.sweep.specs.declared.refusal.Refusal.{Refusal}
use Rattle.sweep.specs.declared.refusal.Refusal.TheVariants.{Size, Lengths, Mask, Work, Nyquist, Options, Velocities, Limits, Merges, Counts, CutShort, Malformed, Book, Window}
use Rattle.sweep.specs.Inside.Finish.{lent, outcome_by}
use Rattle.channels.specs.Call.{Channel, channel_of, TwoMemory, two_memory_of, TwoAnswer, two_answer_by, cleared_for_two, ending_two}
use Rattle.channels.specs.Inside.Both.{lent_both}
use Rattle.channels.specs.Theorems.{ChannelsKept}

-- question 9's yes of one channel
pub accepted_is : (u : Unfolded) → u.merges_in_range ≡ true → asked9 u ≡ accepted u.counts u.doubtful u.regions (length u.merges)
unfolding asked9 answered first_no
accepted_is u h = rw h refl

-- the answer is the first no of the two
pub end_number : (a b : Unfolded) (m : TwoMemory) → (ending_two (asked9 a) (asked9 b) m).number ≡ answer_of (first_no (ask 9 a.merges_in_range ∷ ask 9 b.merges_in_range ∷ []))
unfolding ending_two asked9 answered first_no
end_number a b m = go a.merges_in_range b.merges_in_range
  where
    go : (p q : Bool) → (ending_two (answered (first_no (ask 9 p ∷ [])) a) (answered (first_no (ask 9 q ∷ [])) b) m).number ≡ answer_of (first_no (ask 9 p ∷ ask 9 q ∷ []))
    go true true = refl
    go true false = refl
    go false q = refl

-- a refusal writes neither channel
pub end_kept : (x y : Outcome) (n : ℕ) (m : TwoMemory) → 0 < (ending_two x y (cleared_for_two n m)).number → ChannelsKept m (ending_two x y (cleared_for_two n m))
unfolding ending_two cleared_for_two
end_kept (refused k) y n m h = record { horizontal = refl; vertical = refl }
end_kept (accepted cs ds r k) (refused j) n m h = record { horizontal = refl; vertical = refl }
end_kept (accepted cs ds r k) (accepted es fs q j) n m h = absurd (omega (arith, h))

-- the work memory is left as it is
pub end_words : (x y : Outcome) (m : TwoMemory) → (ending_two x y m).memory.words ≡ m.words
unfolding ending_two
end_words (refused k) y m = refl
end_words (accepted cs ds r k) (refused j) m = refl
end_words (accepted cs ds r k) (accepted es fs q j) m = refl

pub end_floats : (x y : Outcome) (m : TwoMemory) → (ending_two x y m).memory.floats ≡ m.floats
unfolding ending_two
end_floats (refused k) y m = refl
end_floats (accepted cs ds r k) (refused j) m = refl
end_floats (accepted cs ds r k) (accepted es fs q j) m = refl

-- ---- both channels as they are written

-- question 9 refused vertical: whatever horizontal is, the number is 9
pub vertical_refused : (f g : Finding) (w u hMask vMask : List ℕ) (hc vc : ℕ) (m : TwoMemory) → is_err g ≡ true → ◌≡◌ {A = TwoAnswer} (record { number = 9; memory = m }) (ending_two (outcome_by f w hMask hc) (outcome_by g u vMask vc) m)
unfolding ending_two
vertical_refused (Ok r) (Err z) w u hMask vMask hc vc m e = refl
vertical_refused (Err z) g w u hMask vMask hc vc m e = refl
vertical_refused (Ok r) (Ok q) w u hMask vMask hc vc m e = absurd (false≢true e)

-- no question has the number 0
pub number_some : (r : Refusal) → 0 < number_of r
number_some Size = omega arith
number_some Lengths = omega arith
number_some Mask = omega arith
number_some Work = omega arith
number_some Nyquist = omega arith
number_some Options = omega arith
number_some Velocities = omega arith
number_some Limits = omega arith
number_some Merges = omega arith
number_some Counts = omega arith
number_some CutShort = omega arith
number_some Malformed = omega arith
number_some Book = omega arith
number_some Window = omega arith

-- it refused horizontal, a being how that was written
pub horizontal_refused : (f : Finding) (w mask : List ℕ) (centred : ℕ) (y : Outcome) (a : Answer) (h v : Channel) → 0 < a.number → a ≡ ending (outcome_by f w mask centred) (lent h.counts h.doubtful h.pair)
    → two_answer_by a.number (channel_of a.memory.counts a.memory.doubtful a.memory.pair) v [] [] ≡ ending_two (outcome_by f w mask centred) y (lent_both h v)
unfolding ending ending_two
horizontal_refused (Ok r) w mask centred y a h v n e = let z = ap (λ (x : Answer). x.number) e in absurd (omega (arith, z))
horizontal_refused (Err z) w mask centred y a h v n e = λ i. two_answer_by (e i).number (channel_of (e i).memory.counts (e i).memory.doubtful (e i).memory.pair) v [] []

-- it refused neither, and each is written
pub both_written : (f g : Finding) (w u hMask vMask : List ℕ) (hc vc : ℕ) (a b : Answer) (h v : Channel) → a.number ≡ 0 → is_err g ≡ false
    → a ≡ ending (outcome_by f w hMask hc) (lent h.counts h.doubtful h.pair) → b ≡ ending (outcome_by g u vMask vc) (lent v.counts v.doubtful v.pair)
    → two_answer_by b.number (channel_of a.memory.counts a.memory.doubtful a.memory.pair) (channel_of b.memory.counts b.memory.doubtful b.memory.pair) [] []
    ≡ ending_two (outcome_by f w hMask hc) (outcome_by g u vMask vc) (lent_both h v)
unfolding ending ending_two
both_written (Ok r) (Ok q) w u hMask vMask hc vc a b h v x y e d =
    λ i. two_answer_by (d i).number (channel_of (e i).memory.counts (e i).memory.doubtful (e i).memory.pair) (channel_of (d i).memory.counts (d i).memory.doubtful (d i).memory.pair) [] []
both_written (Err j) g w u hMask vMask hc vc a b h v x y e d = let z = ap (λ (x : Answer). x.number) e in absurd (omega (arith, x, z))
both_written (Ok r) (Err j) w u hMask vMask hc vc a b h v x y e d = absurd (true≢false y)

-- ---- the same end with the work memory

-- an answer with these work memories
abbrev pub in_memory : List ℕ → List Float → TwoAnswer → TwoAnswer
in_memory W D a = two_answer_by a.number a.memory.horizontal a.memory.vertical W D

end_in : (x y : Outcome) (h v : Channel) (W : List ℕ) (D : List Float) → in_memory W D (ending_two x y (lent_both h v)) ≡ ending_two x y (two_memory_of h v W D)
unfolding ending_two
end_in (refused k) y h v W D = refl
end_in (accepted cs ds r k) (refused j) h v W D = refl
end_in (accepted cs ds r k) (accepted es fs q j) h v W D = refl

pub solved_is : (x y x' y' : Outcome) (h v : Channel) (a : TwoAnswer) (W W' : List ℕ) (D D' : List Float) → a ≡ ending_two x y (lent_both h v) → x ≡ x' → y ≡ y' → W ≡ W' → D ≡ D'
    → in_memory W D a ≡ ending_two x' y' (two_memory_of h v W' D')
solved_is x y x' y' h v a W W' D D' e p q r s = ap (in_memory W D) e ∙ end_in x y h v W D ∙ (λ i. ending_two (p i) (q i) (two_memory_of h v (r i) (s i)))

-- an answer with more words behind those of its memory
abbrev pub and_more : List ℕ → List Float → TwoAnswer → TwoAnswer
and_more W D a = two_answer_by a.number a.memory.horizontal a.memory.vertical (a.memory.words ++ W) (a.memory.floats ++ D)

pub end_and_more : (x y : Outcome) (m : TwoMemory) (W : List ℕ) (D : List Float) → and_more W D (ending_two x y m) ≡ ending_two x y (two_memory_of m.horizontal m.vertical (m.words ++ W) (m.floats ++ D))
unfolding ending_two
end_and_more (refused k) y m W D = refl
end_and_more (accepted cs ds r k) (refused j) m W D = refl
end_and_more (accepted cs ds r k) (accepted es fs q j) m W D = refl

-- Calls of two channels as one list under one theorem: each answer number and all that is lent afterwards, computed.
use Rattle.std.specs.Prelude.{ℕ, ◌≡◌, refl, List, [], ◌∷◌, ◌++◌, map, ℤ, pos, negsuc, length, replicate, Float}
use Rattle.std.proofs.Math.Option.{none}
use Rattle.std.specs.Float.{binary32}
use Rattle.std.specs.Float.Ieee.{of_int}
use Rattle.arithmetic.specs.Rounding.{real}
use Rattle.sweep.specs.Sweep.{Sweep, unfolded}
use Rattle.sweep.specs.Questions.{gates_in, words_for, floats_for, own_limits}
use Rattle.sweep.specs.Call.{Answer, answer_by, call}
use Rattle.channels.specs.Evaluating.{evaluating}
use Rattle.channels.specs.Call.{shared_limits, Channel, channel_of, TwoMemory, two_memory_of, TwoAnswer, lent_to, asked_two, call_two}

-- rays of so many gates at Nyquist 10 and splits 3, with skips 100 and centred, no wrap
abbrev sized : ℕ → ℕ → List ℤ → List ℕ → Sweep
sized r g vs m = record {
  shape = record { rays = r; gates = g; skip_between_rays = 100; skip_along_ray = 100; wrap = 0 };
  splits = 3;
  centred = 1;
  nyquist = of_int binary32 (pos 10);
  vel = map (of_int binary32) vs;
  mask = m;
}

-- one ray
abbrev ray : List ℤ → List ℕ → Sweep
ray vs m = sized 1 (length m) vs m

-- one ray, all valid, Nyquist 1 and splits 1, uncentred
abbrev narrow : List ℤ → Sweep
narrow vs = record {
  shape = record { rays = 1; gates = length vs; skip_between_rays = 100; skip_along_ray = 100; wrap = 0 };
  splits = 1;
  centred = 0;
  nyquist = of_int binary32 (pos 1);
  vel = map (of_int binary32) vs;
  mask = replicate (length vs) 1;
}

-- one ray by its mask: 13, 19, 7, -11; another: 10, 13, -17, 7
abbrev high : List ℕ → Sweep
high m = ray (pos 13 ∷ pos 19 ∷ pos 7 ∷ negsuc 10 ∷ []) m

abbrev low : List ℕ → Sweep
low m = ray (pos 10 ∷ pos 13 ∷ negsuc 16 ∷ pos 7 ∷ []) m

-- the third gate masked, the fourth, all
abbrev third : List ℕ
third = 1 ∷ 1 ∷ 0 ∷ 1 ∷ []

abbrev fourth : List ℕ
fourth = 1 ∷ 1 ∷ 1 ∷ 0 ∷ []

abbrev masked : List ℕ
masked = replicate 4 0

-- 9, -9, valid; with a mask byte 2; with a velocity above 16,384
abbrev fine : Sweep
fine = ray (pos 9 ∷ negsuc 8 ∷ []) (1 ∷ 1 ∷ [])

abbrev spoilt : Sweep
spoilt = ray (pos 9 ∷ negsuc 8 ∷ []) (1 ∷ 2 ∷ [])

abbrev fast : Sweep
fast = ray (pos 9 ∷ pos 16385 ∷ []) (1 ∷ 1 ∷ [])

-- c counts, d marks and p places of the pair lent to a channel, with 5 in each place
abbrev fives : ℕ → ℕ → ℕ → Channel
fives c d p = channel_of (replicate c (pos 5)) (replicate d 5) (replicate p 5)

-- work memory for n gates with the same in each place, and a word and a float more with 7
abbrev words : ℕ → ℕ → List ℕ
words x n = replicate (words_for n) x ++ (7 ∷ [])

abbrev floats : ℤ → ℕ → List Float
floats z n = replicate (floats_for n) (real z) ++ (real (pos 7) ∷ [])

-- two channels with work memory as lent, and as a call clears it
abbrev lent_work : ℕ → Channel → Channel → TwoMemory
lent_work n h v = two_memory_of h v (words 7 n) (floats (pos 7) n)

abbrev zero_work : ℕ → Channel → Channel → TwoMemory
zero_work n h v = two_memory_of h v (words 0 n) (floats (pos 0) n)

-- n gates in each channel
abbrev lent : ℕ → TwoMemory
lent n = lent_work n (fives n n 2) (fives n n 2)

-- two gates in each channel, with w words and d floats
abbrev short : ℕ → ℕ → TwoMemory
short w d = two_memory_of (fives 2 2 2) (fives 2 2 2) (replicate w 7) (replicate d (real (pos 7)))

-- horizontal, vertical, what is lent, and the answer: the number, and what is lent afterwards
pub record Row : Type 0 where
  pub horizontal : Sweep
  pub vertical : Sweep
  pub before : TwoMemory
  pub answer : TwoAnswer

-- an accepted call, by what it leaves in each channel
abbrev gives : Sweep → Sweep → Channel → Channel → Row
gives h v c d = record { horizontal = h; vertical = v; before = lent (gates_in h); answer = record { number = 0; memory = zero_work (gates_in h) c d } }

-- a call that is refused by one of questions 1 to 8: all is as it was
abbrev refuses : Sweep → Sweep → TwoMemory → ℕ → Row
refuses h v m k = record { horizontal = h; vertical = v; before = m; answer = record { number = k; memory = m } }

-- a call that is refused by 9: the channels are as they were
abbrev refuses9 : Sweep → Sweep → Row
refuses9 h v = record {
  horizontal = h;
  vertical = v;
  before = lent (gates_in h);
  answer = record { number = 9; memory = zero_work (gates_in h) (lent (gates_in h)).horizontal (lent (gates_in h)).vertical };
}

-- what is left where all is masked, and where there is no gate
abbrev blank : Channel
blank = channel_of (replicate 4 (pos 0)) (replicate 4 0) (0 ∷ 0 ∷ [])

abbrev empty : Channel
empty = channel_of [] [] (0 ∷ 0 ∷ [])

-- what the shared limits of `high third` and `low fourth` give these, and what their own limits give them
abbrev high_shared : Channel
high_shared = channel_of (negsuc 0 ∷ negsuc 0 ∷ pos 0 ∷ pos 1 ∷ []) (0 ∷ 1 ∷ 0 ∷ 0 ∷ []) (3 ∷ 2 ∷ [])

abbrev low_shared : Channel
low_shared = channel_of (negsuc 0 ∷ negsuc 0 ∷ pos 1 ∷ pos 0 ∷ []) (0 ∷ 0 ∷ 1 ∷ 0 ∷ []) (2 ∷ 1 ∷ [])

abbrev high_own : Channel
high_own = channel_of (negsuc 0 ∷ pos 0 ∷ pos 0 ∷ pos 0 ∷ []) (0 ∷ 0 ∷ 0 ∷ 0 ∷ []) (2 ∷ 1 ∷ [])

abbrev low_own : Channel
low_own = channel_of (replicate 4 (pos 0)) (replicate 4 0) (1 ∷ 0 ∷ [])

abbrev pub rows : List Row
rows =
    -- from -11 to 19 and from -17 to 13: neither has the shared limits by itself; then the channels exchanged
    gives (high third) (low fourth) high_shared low_shared
    ∷ gives (low fourth) (high third) low_shared high_shared
    -- one channel all masked: the other goes by its own limits
    ∷ gives (high third) (low masked) high_own blank
    ∷ gives (high masked) (low fourth) blank low_own
    ∷ gives (high masked) (low masked) blank blank
    -- no ray of 1,200 gates, 720 rays of none; 1: no ray of 1,201
    ∷ gives (sized 0 1200 [] []) (sized 0 1200 [] []) empty empty
    ∷ gives (sized 720 0 [] []) (sized 720 0 [] []) empty empty
    ∷ refuses (sized 0 1201 [] []) (sized 0 1201 [] []) (lent 0) 1
    -- 7 of horizontal comes before 3 and 2 of vertical
    ∷ refuses fast spoilt (lent 2) 7
    ∷ refuses fast fine (lent_work 2 (fives 2 2 2) (fives 1 2 2)) 7
    -- 3 and 7 of vertical
    ∷ refuses fine spoilt (lent 2) 3
    ∷ refuses fine fast (lent 2) 7
    -- 2 of vertical: a velocity too few, a mask byte too many, a count too few, a mark too many, a pair of three
    ∷ refuses fine (sized 1 2 (pos 9 ∷ []) (1 ∷ 1 ∷ [])) (lent 2) 2
    ∷ refuses fine (sized 1 2 (pos 9 ∷ negsuc 8 ∷ []) (1 ∷ 1 ∷ 1 ∷ [])) (lent 2) 2
    ∷ refuses fine fine (lent_work 2 (fives 2 2 2) (fives 1 2 2)) 2
    ∷ refuses fine fine (lent_work 2 (fives 2 2 2) (fives 2 3 2)) 2
    ∷ refuses fine fine (lent_work 2 (fives 2 2 2) (fives 2 2 3)) 2
    -- 4: a word too few, a float too few, and before 3 of vertical
    ∷ refuses fine fine (short 255 48) 4
    ∷ refuses fine fine (short 256 47) 4
    ∷ refuses fine spoilt (short 255 48) 4
    -- 8: 10,001 and -9,999 ask for 10,001 limits together
    ∷ refuses (narrow (pos 10001 ∷ [])) (narrow (negsuc 9998 ∷ [])) (lent 1) 8
    -- 9 of vertical: 0, 2 and -1,002, 1,002
    ∷ refuses9 (narrow (pos 0 ∷ pos 2 ∷ [])) (narrow (negsuc 1001 ∷ pos 1002 ∷ []))
    ∷ []

-- each call gives its answer
pub channels_hold : map (λ (r : Row). call_two r.horizontal r.vertical r.before) rows ≡ map (λ (r : Row). r.answer) rows
unfolding evaluating
channels_hold = refl

-- the offsets by the shared limits, one for each channel
pub offsets_hold : map (λ (s : Sweep). (unfolded s (shared_limits (high third) (low fourth))).offset) (high third ∷ low fourth ∷ []) ≡ negsuc 0 ∷ pos 1 ∷ []
unfolding evaluating
offsets_hold = refl

-- the sweep entry gives the first channels other counts, marks and pairs, and accepts those that 8 refuses together
abbrev alone : Sweep → Answer
alone s = call s (lent_to (lent (gates_in s)).horizontal (lent (gates_in s)))

abbrev leaves : ℕ → Channel → Answer
leaves n c = answer_by 0 c.counts c.doubtful c.pair (words 0 n) (floats (pos 0) n)

abbrev outside : Channel
outside = channel_of (pos 0 ∷ []) (0 ∷ []) (0 ∷ 0 ∷ [])

pub alone_hold : map alone (high third ∷ low fourth ∷ narrow (pos 10001 ∷ []) ∷ narrow (negsuc 9998 ∷ []) ∷ [])
    ≡ leaves 4 high_own ∷ leaves 4 low_own ∷ leaves 1 outside ∷ leaves 1 outside ∷ []
unfolding evaluating
alone_hold = refl

-- how many limits: of the first channels by themselves, and shared
pub limits_hold : map length (own_limits (high third) ∷ own_limits (low fourth) ∷ shared_limits (high third) (low fourth) ∷ []) ≡ 7 ∷ 7 ∷ 8 ∷ []
unfolding evaluating
limits_hold = refl

-- 10,001 and -9,997 ask for 10,000: no question gets a no
pub last_limit_holds : asked_two (narrow (pos 10001 ∷ [])) (narrow (negsuc 9996 ∷ [])) (lent 1) ≡ none
unfolding evaluating
last_limit_holds = refl

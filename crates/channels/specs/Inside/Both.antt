-- Both channels in one work memory. A run leaves labels, sizes, counts, marks and log before its tables of edges and nodes, which begin at word 13n
-- (Layout, of the crate memory). Vertical works behind that place; so it leaves what horizontal left as it is.
use Rattle.std.specs.Prelude.{ℕ, ◌-◌, ◌*◌, ◌≤◌, ◌≡◌, List, [], pos, length, take, drop, replicate, Float}
use Rattle.arithmetic.specs.Rounding.{real}
use Rattle.arithmetic.specs.declared.intervals.Plan.{Plan}
use Rattle.network.specs.Inside.Find.{Finding, regions_by, network_for, Finds, Leaves}
use Rattle.network.specs.declared.options.Options.{Options}
use Rattle.sweep.specs.Inside.Finish.{WritesFound}
use Rattle.sweep.specs.Sweep.{Sweep}
use Rattle.network.specs.declared.input.Sweep.{Sweep as Lent}
use Rattle.sweep.specs.Inside.Planning.{plan_for}
use Rattle.channels.specs.Call.{shared_range, Channel, TwoMemory, two_memory_of}
use Rattle.channels.specs.declared.both.Findings.{Findings}

-- vertical's part of the words, n being the gates of one channel
abbrev pub behind : ℕ → List ℕ → List ℕ
behind n w = take (length w - 13 * n) (drop (13 * n) w)

-- what finding both asks, each with its part of the words, and one set of options
pub record FindsBoth (h v : Lent) (p : Plan) (w : List ℕ) (d : List Float) : Type 0 where
  pub horizontal : Finds h.options p h.velocity.now h.valid.now w d
  pub vertical : Finds v.options p v.velocity.now v.valid.now (behind (length h.velocity.now) w) d
  pub same : length v.velocity.now ≡ length h.velocity.now
  pub options : v.options ≡ h.options

-- what is left of one channel's regions in its words
abbrev pub LeavesOf : Options → Plan → List Float → List ℕ → List ℕ → Finding → Type 0
LeavesOf o p vel mask w f = Leaves (regions_by o p vel mask) (network_for o (regions_by o p vel mask) vel) (length vel) w f

-- and of both
pub record LeavesBoth (h v : Lent) (p : Plan) (w : List ℕ) (f : Findings) : Type 0 where
  pub horizontal : LeavesOf h.options p h.velocity.now h.valid.now w f.horizontal
  pub vertical : LeavesOf v.options p v.velocity.now v.valid.now (behind (length h.velocity.now) w) f.vertical

-- how long a channel's counts, marks and pair are
pub record Lengths : Type 0 where
  pub counts : ℕ
  pub doubtful : ℕ
  pub pair : ℕ

abbrev pub lengths_by : ℕ → ℕ → ℕ → Lengths
lengths_by c b t = record { counts = c; doubtful = b; pair = t }

-- what writing both asks
pub record WritesBoth (f : Findings) (w hMask vMask : List ℕ) (h v : Lengths) : Type 0 where
  pub room : 13 * length hMask ≤ length w
  pub horizontal : WritesFound f.horizontal w hMask h.counts h.doubtful h.pair
  pub vertical : WritesFound f.vertical (behind (length hMask) w) vMask v.counts v.doubtful v.pair

-- both channels, where the work memory does not matter
abbrev pub lent_both : Channel → Channel → TwoMemory
lent_both h v = two_memory_of h v [] []

-- both work memories all zero
abbrev pub all_zero_two : TwoMemory → TwoMemory
all_zero_two m = two_memory_of m.horizontal m.vertical (replicate (length m.words) 0) (replicate (length m.floats) (real (pos 0)))

-- the plan of the shared limits
abbrev pub shared_plan : Sweep → Sweep → Plan
shared_plan h v = plan_for h.nyquist h.splits (shared_range h v)

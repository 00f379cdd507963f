-- U9, test sweeps from a seed number: the state, the gate that a state makes, and the gates of a sweep. Definitions only.
use Rattle.std.specs.Prelude.{ℕ, zero, suc, ◌+◌, ◌*◌, ◌/◌, ◌%◌, ◌^◌, Bool, cond, List, pos, ◌-ℤ◌, ◌==◌, Float}
use Rattle.std.specs.Float.{binary32}
use Rattle.std.specs.Float.Ieee.{div, of_int}
use Rattle.lists.specs.Seq.{tabulate}
use Rattle.test_sweep.specs.declared.generator.Gate.{Gate}

-- the state that follows a state, a number of 32 bits
unfoldable pub next_state : ℕ → ℕ
next_state state = (state * 1664525 + 1013904223) % 2 ^ 32

-- the state after n gates
unfoldable pub state_after : ℕ → ℕ → ℕ
state_after zero state = state
state_after (suc n) state = next_state (state_after n state)

-- whether the gate of a state is masked: the state's top three bits, 29 to 31, are all zero
unfoldable pub is_masked : ℕ → Bool
is_masked state = state / 2 ^ 29 == 0

-- the twelve bits from bit 8 to bit 19
unfoldable pub twelve_bits : ℕ → ℕ
twelve_bits state = state / 2 ^ 8 % 2 ^ 12

-- (k − 2,048) / 128 in f32, which is exact (`velocities_exact`)
unfoldable pub velocity_of : ℕ → Float
velocity_of k = div binary32 (of_int binary32 (pos k -ℤ pos 2048)) (of_int binary32 (pos 128))

-- the gate that a state makes: it has a velocity, masked or not
unfoldable pub gate_of : ℕ → Gate
gate_of state = record { velocity = velocity_of (twelve_bits state); valid = cond (is_masked state) 0 1 }

-- gate g of the sweep from a state: it is made of the new state, the one after g + 1 gates
unfoldable pub gate_at : ℕ → ℕ → Gate
gate_at state g = gate_of (state_after (suc g) state)

-- the velocities of n gates from a state
unfoldable pub velocities : ℕ → ℕ → List Float
velocities n state = tabulate n (λ g. (gate_at state g).velocity)

-- and their mask bytes
unfoldable pub mask_bytes : ℕ → ℕ → List ℕ
mask_bytes n state = tabulate n (λ g. (gate_at state g).valid)

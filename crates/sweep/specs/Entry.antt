-- A call's parameters as a sweep, and an answer as a number.
use Rattle.std.specs.Prelude.{ℕ, List, Float}
use Rattle.std.proofs.Math.Option.{Option, none, some}
use Rattle.network.specs.declared.options.Options.{Options}
use Rattle.sweep.specs.Sweep.{Sweep}
use Rattle.network.specs.declared.input.Sweep.{Sweep as Lent}

-- the sweep that a call's parameters are
abbrev pub sweep_of : ℕ → ℕ → Float → ℕ → ℕ → ℕ → ℕ → ℕ → List Float → List ℕ → Sweep
sweep_of rays gates nyquist splits skip_between_rays skip_along_ray centred wrap vel mask = record {
  shape = record { rays = rays; gates = gates; skip_between_rays = skip_between_rays; skip_along_ray = skip_along_ray; wrap = wrap };
  splits = splits;
  centred = centred;
  nyquist = nyquist;
  vel = vel;
  mask = mask;
}

-- the same, of options handed on whole
abbrev pub sweep_by : Options → List Float → List ℕ → Sweep
sweep_by o vel mask = sweep_of o.rays o.gates o.nyquist o.splits o.skip_between_rays o.skip_along_ray o.centred o.wrap vel mask

-- the same, of a sweep as a host lends it
abbrev pub sweep_in : Lent → Sweep
sweep_in s = sweep_by s.options s.velocity.now s.valid.now

-- an answer as a number: 0 where every question gets a yes
abbrev pub answer_of : Option ℕ → ℕ
answer_of none = 0
answer_of (some k) = k

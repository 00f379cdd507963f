-- The start of a recorded sweep: the setting that fifteen numbers say, and what a read of them gives.
use Rattle.std.specs.Prelude.{ℕ, List, Option, Some, None, Result, Ok, Err, get_or}
use Rattle.std.specs.Float.{binary32}
use Rattle.std.specs.Float.Ieee.{of_bits}
use Rattle.replay.specs.declared.words.Malformed.{Malformed}
use Rattle.replay.specs.declared.words.Got.{Got}
use Rattle.replay.specs.declared.words.Got.TheVariants.{Numbers, End}
use Rattle.replay.specs.declared.gates.Setting.{Setting}

-- the setting of fifteen numbers, in the order of the record
unfoldable pub setting_of : List ℕ → Setting
setting_of l = record {
  rays = get_or l 0 0;
  gates = get_or l 1 0;
  nyquist = of_bits binary32 (get_or l 2 0);
  splits = get_or l 3 0;
  skip_between_rays = get_or l 4 0;
  skip_along_ray = get_or l 5 0;
  centred = get_or l 6 0;
  wrap = get_or l 7 0;
  recorded = get_or l 8 0;
  counts = get_or l 9 0;
  doubtful = get_or l 10 0;
  pair = get_or l 11 0;
  words = get_or l 12 0;
  floats = get_or l 13 0;
  more = get_or l 14 0;
}

-- the start by what was got: a setting, none at the end, or malformed
unfoldable pub start_by : Result Got Malformed → List ℕ → Result (Option Setting) Malformed
start_by (Ok Numbers) l = Ok (Some (setting_of l))
start_by (Ok End) l = Ok None
start_by (Err e) l = Err e

-- What a reader of scripts answers.
use Rattle.std.specs.Prelude.{◌≡◌, ℕ, Result, Ok, Err, ⊤}
use Rattle.std.specs.Prelude.{List}
use Rattle.oak_script.specs.declared.scripts.Script.{Script}
use Rattle.oak_script.specs.declared.stops.Stop.{Stop}
use Rattle.oak_script.specs.declared.stops.Stop.TheVariants as stops
use Rattle.oak_script.specs.declared.faults.NoScript.{NoScript}
use Rattle.oak_script.specs.declared.faults.NoScript.TheVariants.{Fault, OutOfMemory}
use Rattle.oak_script.specs.Lines.{Words}
use Rattle.oak_script.specs.Faults.{IsFirstAt, HasNoFault}

-- a fault is told exactly where it is the first one, and a script is read where there is none; memory may run out
abbrev pub Tells : Result Script NoScript → List Words → Type 0
Tells (Ok s) lines = HasNoFault lines
Tells (Err (Fault f)) lines = IsFirstAt lines f.line f.what
Tells (Err OutOfMemory) lines = ⊤

-- this script is read, or memory ran out
abbrev pub Gives : Result Script NoScript → Script → Type 0
Gives (Ok s) script = s ≡ script
Gives (Err (Fault f)) script = ⊥
Gives (Err OutOfMemory) script = ⊤

-- this is told of a stop at this line
abbrev pub IsTold : NoScript → Stop → ℕ → Type 0
IsTold (Fault f) (stops.Fault w) n = (f.line ≡ n) × (f.what ≡ w)
IsTold OutOfMemory (stops.Fault w) n = ⊥
IsTold (Fault f) stops.OutOfMemory n = ⊥
IsTold OutOfMemory stops.OutOfMemory n = ⊤

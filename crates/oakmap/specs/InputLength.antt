-- How long an input may be, in bytes.
use Rattle.std.specs.Prelude.{◌≡◌, ◌<◌, ◌≤◌, ◌⊎◌, ℕ, List, length, Option, Some}
use Rattle.oakmap.specs.declared.commands.Command.{Command}
use Rattle.oakmap.specs.declared.commands.Command.TheVariants.{Run}
use Rattle.oakmap.specs.declared.status.Status.{Status}
use Rattle.oakmap.specs.declared.status.Status.TheVariants.{NoScript, NoMemory}
use Rattle.oakmap.specs.Messages.{long_line}
use Rattle.oakmap.specs.Ends.{Input, Output, Ends, Answers, TooLong, Says, Unrisen}

-- the program did not take the input for its length, and said so
pub record SaysTooLong (source source_after : Input) (sink sink_after : Output) : Type 0 where
  pub long : TooLong source source_after
  pub says : Says sink sink_after long_line

-- an input of at most 16,777,216 bytes that is refused has a fault in its text
abbrev pub LengthIsAccepted : Type 0
LengthIsAccepted = (c : Option Command) (source source_after : Input) (sink sink_after : Output) (text : List ℕ)
    → Ends NoScript c source source_after sink sink_after → source.left ≡ Some text → length text ≤ 16777216 → Answers NoScript source source_after sink sink_after

-- an input of more is refused for its length, unless memory runs out or the source fails
abbrev pub LengthIsRefused : Type 0
LengthIsRefused = (s : Status) (source source_after : Input) (sink sink_after : Output) (text : List ℕ)
    → Ends s (Some Run) source source_after sink sink_after → source.left ≡ Some text → 16777216 < length text → Unrisen source.faults source_after.faults
    → (s ≡ NoMemory) ⊎ ((s ≡ NoScript) × SaysTooLong source source_after sink sink_after)

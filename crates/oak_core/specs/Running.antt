-- The rule of the running table is the rule of the definitions, and each of its states is the end of a schedule from the one that it was opened in.
use Rattle.std.specs.Prelude.{◌≡◌, ℕ, ◌<◌, List}
use Rattle.atomic_table.specs.Table.{State, Me}
use Rattle.oak_model.specs.Limits.{Sizes}
use Rattle.header_core.specs.declared.states.TheConstants.{LAST_GENERATION}
use Rattle.oak_core.specs.declared.states.PassState.{PassState}
use Rattle.oak_core.specs.TableState.{TableState}
use Rattle.oak_core.specs.Rule.{Rule}
use Rattle.oak_core.specs.Schedule.{Event, IsSchedule, opening}

abbrev pub table_of : State (Unit {0}) PassState → TableState
table_of s = record { words = s.words; states = s.views }

-- a table that was opened at the generation g, which is not the last one, came to this state by these events
pub record IsReached (z : Sizes) (g : ℕ) (s : TableState) : Type 0 where
  pub early : g < LAST_GENERATION
  pub events : List Event
  pub schedule : IsSchedule z (opening z g) events s

pub record Holds (z : Sizes) (g : ℕ) (s : State (Unit {0}) PassState) : Type 0 where
  pub rule : Rule z (table_of s)
  pub reached : IsReached z g (table_of s)

-- a step takes no slot, and leaves its pass going
pub record KeepsSeat (before after : Me (Unit {0}) PassState) : Type 0 where
  pub slots : after.1 ≡ before.1
  pub going : after.0.numbers.spent ≡ before.0.numbers.spent

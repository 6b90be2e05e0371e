-- A state of the table: its words, and what each pass has seen, done and holds.
use Rattle.std.specs.Prelude.{ℕ, List}
use Rattle.oak_core.specs.declared.states.PassState.{PassState}

pub record TableState : Type 0 where
  pub words : List ℕ
  pub states : List PassState

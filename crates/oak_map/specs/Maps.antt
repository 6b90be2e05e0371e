-- What contracts see of a map and of its passes.
use Rattle.std.specs.Prelude.{◌≡◌, ℕ, List}
use Rattle.oak_model.specs.Limits.{Sizes}
use Rattle.oak_core.specs.declared.states.PassState.{PassState}
use Rattle.oak_core.specs.declared.table.OakTable.{OakTable}
use Rattle.oak_core.specs.declared.table.Pass.{Pass}
use Rattle.oak_core.specs.Passes.{IsPassOf, key, state as table_state, call_of as table_call}
use Rattle.oak_core.specs.PassState.{HoldsNothing}
use Rattle.oak_map.specs.declared.map.MapPass.{MapPass}
use Rattle.oak_map.specs.declared.map.OakMap.{OakMap}

-- the table of the map
abbrev pub table_of : {R : Type 0} → OakMap R → OakTable
table_of m = m.table

-- its shape
abbrev pub sizes : {R : Type 0} → OakMap R → Sizes
sizes m = key (table_of m)

-- the pass on the table
abbrev pub pass_of : MapPass → Pass
pass_of p = p.pass

-- what it has seen, done and holds
abbrev pub state : MapPass → PassState
state p = table_state (pass_of p)

-- the number of its present call
abbrev pub call_of : MapPass → ℕ
call_of p = table_call (pass_of p)

-- the pass belongs to the map's table, and holds nothing
pub record IsReady {R : Type 0} (m : OakMap R) (p : MapPass) : Type 0 where
  pub own : IsPassOf (table_of m) (pass_of p)
  pub idle : HoldsNothing (state p)

-- of a pass that is alone: all words are as they were
abbrev pub StayAll : List ℕ → List ℕ → Type 0
StayAll before after = after ≡ before

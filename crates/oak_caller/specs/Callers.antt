-- What contracts see of a caller.
use Rattle.std.specs.Prelude.{◌≡◌, ℕ, ◌+◌}
use Rattle.oak_model.specs.Limits.{Sizes}
use Rattle.oak_core.specs.declared.states.PassState.{PassState}
use Rattle.oak_core.specs.declared.table.OakTable.{OakTable}
use Rattle.oak_core.specs.declared.table.Pass.{Pass}
use Rattle.oak_core.specs.PassState.{HoldsNothing}
use Rattle.oak_core.specs.Passes.{IsPassOf, Turns, key, state as table_state}
use Rattle.value_ops.specs.Views.{Viewed}
use Rattle.point_ops.specs.TestStates.{HasView, WroteBy}
use Rattle.oak_map.specs.declared.map.MapPass.{MapPass}
use Rattle.oak_map.specs.Maps.{call_of, pass_of, state}

-- the table of a map, and a pass on it
pub record Called : Type 0 where
  pub table : OakTable
  pub pass : MapPass

-- the sizes of the table
abbrev pub sizes_of : Called → Sizes
sizes_of c = key c.table

-- what the pass has seen, done and holds
abbrev pub state_of : Called → PassState
state_of c = state c.pass

-- the number of the last call that might write
abbrev pub last_of : Called → ℕ
last_of c = call_of c.pass

-- the pass belongs to the table and holds nothing, and all its writes are of the last call or of earlier ones
pub record IsIdle (t : OakTable) (p : MapPass) (last : ℕ) : Type 0 where
  pub own : IsPassOf t (pass_of p)
  pub idle : HoldsNothing (state p)
  pub call : call_of p ≡ last
  pub wrote : WroteBy last (state p)

-- the caller made a call with the next number, of which Own says what it left of the pass
pub record CallsNext (Own : Pass → Pass → Type 0) (c d : Called) : Type 0 where
  pub table : d.table ≡ c.table
  pub call : last_of d ≡ last_of c + 1
  pub turned : Pass
  pub turns : Turns (pass_of c.pass) turned (last_of c + 1)
  pub own : Own turned (pass_of d.pass)

-- it made a call without one
pub record CallsOn (Own : Pass → Pass → Type 0) (c d : Called) : Type 0 where
  pub table : d.table ≡ c.table
  pub own : Own (pass_of c.pass) (pass_of d.pass)

-- the caller may look at the view: it is of a header of the table, and the pass loaded its life from an entry of its key
abbrev pub CanLook : Viewed → Called → Type 0
CanLook x c = HasView (sizes_of c) x (state_of c)

-- it may look at each view at which it could look before
abbrev pub KeepsViews : Called → Called → Type 0
KeepsViews c d = (x : Viewed) → CanLook x c → CanLook x d

-- the same of the pass on the table
abbrev pub PassKeepsViews : Sizes → Pass → Pass → Type 0
PassKeepsViews z p q = (x : Viewed) → HasView z x (table_state p) → HasView z x (table_state q)

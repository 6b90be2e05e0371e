-- How a call that puts goes on, after a try without an answer.
use Rattle.std.specs.Prelude.{◌≡◌, ℕ, Bool, true, false, List}
use Rattle.oak_model.specs.declared.cells.CellCall.{CellCall}
use Rattle.oak_model.specs.Key.{IsKey}
use Rattle.oak_model.specs.Limits.{Sizes}
use Rattle.oak_core.specs.declared.states.PassState.{PassState}
use Rattle.oak_core.specs.declared.table.Pass.{Pass}
use Rattle.oak_core.specs.Scratch.{StaysButSlots, with_scratch}
use Rattle.point_ops.specs.declared.halts.Halt.{Halt}
use Rattle.point_ops.specs.Halting.{Halts}
use Rattle.point_ops.specs.Replies.{Refuses}
use Rattle.rebalance.specs.Calls.{SweepsKey}
use Rattle.oak_map.specs.Replying.{Tries}

-- it is the same pass, in the same call, but for its scratch and its slots, in which it has room to work
abbrev pub StaysButRoom : Pass → Pass → Type 0
StaysButRoom p q = StaysButSlots (with_scratch p q.scratch) q

-- it is the same pass, in the same call, and its scratch is as it was where the call does not use that
pub record StaysAsUsed (used : Bool) (p q : Pass) : Type 0 where
  pub table : q.seat.table_id ≡ p.seat.table_id
  pub seat : q.seat.id ≡ p.seat.id
  pub call : q.call ≡ p.call
  pub scratch : used ≡ false → q.scratch ≡ p.scratch

-- ranges that the call swept cover every key
abbrev pub SweepsAll : PassState → PassState → Type 0
SweepsAll v w = (k : List ℕ) → IsKey k → SweepsKey k v w

-- the call, which began at v, goes on; once it has settled it swept ranges with every key
pub record Going (z : Sizes) (call : ℕ) (settled : Bool) (v w : PassState) : Type 0 where
  pub tries : Tries z call v w
  pub swept : settled ≡ true → SweepsAll v w

-- the call began at u, and its last try, from v to w, was refused
pub record LastTry (z : Sizes) (call : ℕ) (key : List ℕ) (halt : Halt) (settled : Bool) (ask : CellCall) (u v w : PassState) : Type 0 where
  pub going : Going z call settled u v
  pub refused : Refuses call v w
  pub halts : Halts halt z call key ask v w

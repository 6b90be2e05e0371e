-- What the calls of a caller that may write promise: v is the state of the pass at the call, w the one at its end.
use Rattle.std.specs.Prelude.{ℕ, List}
use Rattle.oak_model.specs.declared.cells.CellCall.{CellCall}
use Rattle.oak_model.specs.declared.replies.Wrote.{Wrote}
use Rattle.oak_model.specs.Limits.{Sizes}
use Rattle.oak_core.specs.declared.states.PassState.{PassState}
use Rattle.oak_core.specs.AloneWords.{Runs}
use Rattle.oak_core.specs.PassState.{IsAlone}
use Rattle.oak_core.specs.RoomLacks.{ClaimsFull}
use Rattle.point_ops.specs.LoneLeft.{LeavesBy}
use Rattle.point_ops.specs.LoneReplies.{WroteAlone}
use Rattle.point_ops.specs.Parts.{WroteFits}
use Rattle.point_ops.specs.Replies.{HoldsAsBefore}
use Rattle.oak_map.specs.LonePuts.{PutAlone, PutsAlone, RoomsAlone}
use Rattle.oak_map.specs.Replying.{PutFits}

-- A call that puts: what it answers, that each room which it claims was needed, and to a pass that is alone what the answer is, when it is `Full`, and what becomes of the rooms.
pub record Puts (y : Wrote) (z : Sizes) (call : ℕ) (key : List ℕ) (ask : CellCall) (v w : PassState) : Type 0 where
  pub wrote : PutFits y z call key ask v w
  pub claims : ClaimsFull z v w
  pub alone_reply : IsAlone v → PutAlone y z key ask v w
  pub alone : Runs (PutsAlone z key ask v y) v w
  pub alone_rooms : IsAlone v → Runs (RoomsAlone z key ask v w) v w

-- A call that takes no room: what it answers, that the pass holds what it held, and to a pass that is alone what the answer is, and what becomes of the words.
pub record Changes (y : Wrote) (z : Sizes) (call : ℕ) (key : List ℕ) (ask : CellCall) (v w : PassState) : Type 0 where
  pub holds : HoldsAsBefore v w
  pub wrote : WroteFits y call key ask v w
  pub alone_reply : IsAlone v → WroteAlone y z key ask v w
  pub alone_left : Runs (LeavesBy y z key) v w

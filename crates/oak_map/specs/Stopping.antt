-- How a call that puts stops trying, since other passes are at work. v is the state of the pass at the call, w the one at its end; of a part of the call likewise.
use Rattle.std.specs.Prelude.{ℕ, ◌<◌, ◌⊎◌, List}
use Rattle.oak_model.specs.declared.cells.CellCall.{CellCall}
use Rattle.oak_model.specs.Limits.{Sizes}
use Rattle.oak_core.specs.declared.states.PassState.{PassState}
use Rattle.oak_core.specs.AloneWords.{Runs}
use Rattle.chunk_ops.specs.AddsAlone.{Never}
use Rattle.point_ops.specs.declared.halts.Halt.{Halt}
use Rattle.point_ops.specs.Halting.{Halts}
use Rattle.point_ops.specs.Replies.{Refuses}
use Rattle.rebalance.specs.Busy.{GivesUpSettling, IsBusyFor}
use Rattle.rebalance.specs.Repeating.{Repeats}
use Rattle.oak_map.specs.Replying.{Tries}

-- a try was refused, and why
pub record RefusedTry (z : Sizes) (call : ℕ) (key : List ℕ) (ask : CellCall) (v w : PassState) : Type 0 where
  pub halt : Halt
  pub refused : Refuses call v w
  pub halts : Halts halt z call key ask v w

-- a try was refused, and the call may have made room or settled behind it
abbrev pub TriesOn : Sizes → ℕ → List ℕ → CellCall → PassState → PassState → Type 0
TriesOn z call key ask v w = (x : PassState) × RefusedTry z call key ask v x × Tries z call x w

-- The chunk of the key was busy at so many looks, where it was to be split; or a chunk was, where the map was to be settled. What was settled until then stays so.
pub record IsHindered (z : Sizes) (call looks : ℕ) (key : List ℕ) (v w : PassState) : Type 0 where
  pub tries : Tries z call v w
  pub why : IsBusyFor z call looks key v w ⊎ ((x : PassState) × Tries z call v x × GivesUpSettling z call looks x w)
  -- to a pass that is alone
  pub alone : Runs Never v w

-- The call stopped: more tries than `looks` were refused, or one was, and then its chunk, or one that it was to settle, was busy at so many looks. It made no write, noted nothing and holds what it held; the room that it made, and what it settled, stays so.
pub record StopsTrying (z : Sizes) (call looks : ℕ) (key : List ℕ) (ask : CellCall) (v w : PassState) : Type 0 where
  pub tries : Tries z call v w
  pub why : ((n : ℕ) × (looks < n) × Repeats (TriesOn z call key ask) v n w) ⊎ ((s : PassState) × (t : PassState) × Tries z call v s × RefusedTry z call key ask s t × IsHindered z call looks key t w)
  -- to a pass that is alone
  pub alone : Runs Never v w

-- What the parts of a call leave of what their pass holds. v is the state of the pass at the part's begin, w the one at its end.
use Rattle.std.specs.Prelude.{◌≡◌, ℕ, ◌+◌, List, Some}
use Rattle.oak_model.specs.declared.cells.CellCall.{CellCall}
use Rattle.oak_model.specs.declared.cells.CellReply.{CellReply}
use Rattle.oak_model.specs.declared.cells.CellReply.TheVariants as replies
use Rattle.oak_model.specs.declared.replies.Wrote.{Wrote}
use Rattle.oak_model.specs.declared.replies.Wrote.TheVariants.{New, Over, Kept, Done, Removed, Absent, Full}
use Rattle.oak_model.specs.declared.writes.Kind.{Kind}
use Rattle.oak_model.specs.Cell.{reply_of, state_after, kind_of}
use Rattle.oak_model.specs.KeyNumber.{key_number}
use Rattle.oak_model.specs.Limits.{Sizes}
use Rattle.oak_model.specs.State.{State}
use Rattle.oak_core.specs.declared.states.PassState.{PassState}
use Rattle.oak_core.specs.CallSteps.{Learns}
use Rattle.oak_core.specs.CallWrites.{Writes}
use Rattle.oak_core.specs.LastReads.{ReadsLast}
use Rattle.oak_core.specs.Sights.{SightedSince}
use Rattle.chunk_ops.specs.PinRecords.{KeepsPin}
use Rattle.point_ops.specs.Replies.{RepliesAt}

-- of blocks, headers and rooms the pass holds what it held
pub record KeepsHeld (v w : PassState) : Type 0 where
  pub blocks : w.blocks ≡ v.blocks
  pub headers : w.headers ≡ v.headers
  pub rooms : w.rooms ≡ v.rooms

-- and with a pin of a room, which has no less found
pub record KeepsUnder (z : Sizes) (r : ℕ) (v w : PassState) : Type 0 where
  pub blocks : w.blocks ≡ v.blocks
  pub headers : w.headers ≡ v.headers
  pub pin : KeepsPin z r v w

-- a write of the key, behind the number that was found for it in the call
pub record WritesAt (call : ℕ) (key : List ℕ) (kind : Kind) (before after : State) (at : ℕ) (v w : PassState) : Type 0 where
  pub found_at : ℕ
  pub next : at ≡ found_at + 1
  pub sighted : SightedSince (key_number key) found_at v.findings w.findings
  pub writes : Writes call key kind before after at v w

-- a write that is the cell's on the state that it found, with this reply
pub record WroteSo (call : ℕ) (key : List ℕ) (ask : CellCall) (reply : CellReply) (at : ℕ) (v w : PassState) : Type 0 where
  pub kind : Kind
  pub before : State
  pub after : State
  pub kind_is : kind_of ask ≡ Some kind
  pub answer : reply_of before ask ≡ reply
  pub leaves : state_after before ask ≡ after
  pub wrote : WritesAt call key kind before after at v w

-- a read, on whose state the cell has this reply
pub record ReadSo (call : ℕ) (key : List ℕ) (ask : CellCall) (reply : CellReply) (at : ℕ) (v w : PassState) : Type 0 where
  pub before : State
  pub answer : reply_of before ask ≡ reply
  pub learns : Learns call v w
  pub last : ReadsLast (key_number key) at before v w

-- what the part of a call answers that is made under the pin of a room
abbrev pub Answers : Wrote → ℕ → List ℕ → CellCall → PassState → PassState → Type 0
Answers (New at) call key ask v w = WroteSo call key ask replies.New at v w
Answers (Over at) call key ask v w = WroteSo call key ask replies.Over at v w
Answers (Kept at) call key ask v w = ReadSo call key ask replies.Kept at v w
Answers (Done at) call key ask v w = WroteSo call key ask replies.Done at v w
Answers (Removed at) call key ask v w = WroteSo call key ask replies.Removed at v w
Answers (Absent at) call key ask v w = ReadSo call key ask replies.Absent at v w
Answers (Full lack) call key ask v w = ⊥

-- what the whole call answers; it is never `Full`
abbrev pub WroteFits : Wrote → ℕ → List ℕ → CellCall → PassState → PassState → Type 0
WroteFits (New at) call key ask v w = RepliesAt call key ask replies.New at v w
WroteFits (Over at) call key ask v w = RepliesAt call key ask replies.Over at v w
WroteFits (Kept at) call key ask v w = RepliesAt call key ask replies.Kept at v w
WroteFits (Done at) call key ask v w = RepliesAt call key ask replies.Done at v w
WroteFits (Removed at) call key ask v w = RepliesAt call key ask replies.Removed at v w
WroteFits (Absent at) call key ask v w = RepliesAt call key ask replies.Absent at v w
WroteFits (Full lack) call key ask v w = ⊥

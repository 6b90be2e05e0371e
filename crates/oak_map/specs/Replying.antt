-- What the calls that put answer. They may sweep ranges while they try, and note what they lack.
use Rattle.std.specs.Prelude.{◌≡◌, ℕ, ◌<◌, ◌≤◌, true, List, length, Option, None}
use Rattle.oak_model.specs.declared.cells.CellCall.{CellCall}
use Rattle.oak_model.specs.declared.cells.CellReply.{CellReply}
use Rattle.oak_model.specs.declared.cells.CellReply.TheVariants as replies
use Rattle.oak_model.specs.declared.replies.Lack.{Lack}
use Rattle.oak_model.specs.declared.replies.Lack.TheVariants.{Block, Header, Room}
use Rattle.oak_core.specs.RoomLacks.{ClaimsFull, RoomLackFound}
use Rattle.oak_model.specs.declared.replies.Wrote.{Wrote}
use Rattle.oak_model.specs.declared.replies.Wrote.TheVariants.{New, Over, Kept, Done, Removed, Absent, Full}
use Rattle.oak_model.specs.Cell.{is_write}
use Rattle.oak_model.specs.Counts.{Begins}
use Rattle.oak_model.specs.Fits.{ReplyFits}
use Rattle.oak_model.specs.KeyNumber.{key_number}
use Rattle.oak_model.specs.Limits.{Sizes}
use Rattle.oak_core.specs.declared.states.PassState.{PassState}
use Rattle.oak_core.specs.KeyHistories.{writes_of}
use Rattle.oak_core.specs.KnownPlaces.{KnowsPlace}
use Rattle.oak_core.specs.Lack.{Lacks}
use Rattle.oak_core.specs.Noting.{Notes}
use Rattle.oak_core.specs.PassState.{seen_of}
use Rattle.point_ops.specs.Halting.{SpareNow}
use Rattle.point_ops.specs.Needs.{NeedsNow}
use Rattle.point_ops.specs.Replies.{FoundForReply, GoesOn, MineAfter}

-- the pass holds what it held, noted no refused call, and may have swept more ranges
pub record HoldsOn (v w : PassState) : Type 0 where
  pub blocks : w.blocks ≡ v.blocks
  pub headers : w.headers ≡ v.headers
  pub rooms : w.rooms ≡ v.rooms
  pub numbers : w.numbers ≡ v.numbers
  pub fulls : w.findings.fulls ≡ v.findings.fulls
  pub swept : Begins v.findings.swept w.findings.swept

-- The call tried and made room: it met more, forgot nothing and wrote nothing. Each room that it claimed, it claimed while it held a chunk that was full when it came to hold it.
pub record Tries (z : Sizes) (call : ℕ) (v w : PassState) : Type 0 where
  pub goes : GoesOn call v w
  pub mine : w.knowledge.mine ≡ v.knowledge.mine
  pub holds : HoldsOn v w
  pub claims : ClaimsFull z v w

-- The reply fits at the place of its number, at which all ends that the pass has seen of the key; that is not before what it had seen, and for a write it is behind it.
pub record MapReplies (call : ℕ) (key : List ℕ) (ask : CellCall) (reply : CellReply) (at : ℕ) (v w : PassState) : Type 0 where
  pub goes : GoesOn call v w
  pub known : KnowsPlace (key_number key) at (length (seen_of (key_number key) w.knowledge)) w.knowledge
  pub fits : ReplyFits (writes_of (seen_of (key_number key) w.knowledge)) v.numbers.number call ask reply (length (seen_of (key_number key) w.knowledge))
  pub later : is_write reply ≡ true → length (seen_of (key_number key) v.knowledge) < length (seen_of (key_number key) w.knowledge)
  pub found : FoundForReply (is_write reply) (key_number key) at v w
  pub mine : MineAfter (is_write reply) call (key_number key) at v w
  pub holds : HoldsOn v w

-- where it lacks a room, the chunk that covers its key was held in the call with a value in each of its entries, and each other room was found not free
abbrev pub ItsRoom : Lack → Sizes → List ℕ → PassState → PassState → Type 0
ItsRoom (Block c) z key v w = Unit {0}
ItsRoom Header z key v w = Unit {0}
ItsRoom Room z key v w = (from : ℕ) × (length v.findings.met ≤ from) × RoomLackFound z from (length w.findings.met) w.findings.met (key_number key)

-- A spare block is the one that the call has for its own value. There is one only where a block is lacking of the class of that value and of the key, and the key was found without an entry.
abbrev pub SpareOf : Lack → Option ℕ → ℕ → List ℕ → CellCall → PassState → PassState → Type 0
SpareOf (Block c) spare call key ask v w = SpareNow spare c call key ask v w
SpareOf Header spare call key ask v w = spare ≡ None
SpareOf Room spare call key ask v w = spare ≡ None

-- The call lacks something. It made no write; it needs what it lacks, on a state of the key that it read; all that it met since its begin is its own, ranges that it swept cover every key, and behind these it found nothing free of what it lacks. Each room that it claimed, it claimed while it held a full chunk. With that it was noted, in one step more.
pub record AnswersFull (z : Sizes) (call : ℕ) (key : List ℕ) (ask : CellCall) (lack : Lack) (v w : PassState) : Type 0 where
  pub last : PassState
  pub tries : Tries z call v last
  pub needs : NeedsNow call key ask lack v last
  pub spare : Option ℕ
  pub spared : SpareOf lack spare call key ask v last
  pub lacks : Lacks z call lack spare (length v.findings.met) (length last.findings.met) last.findings
  pub its_room : ItsRoom lack z key v last
  pub notes : Notes z call lack last w

-- what a call that puts answers
abbrev pub PutFits : Wrote → Sizes → ℕ → List ℕ → CellCall → PassState → PassState → Type 0
PutFits (New at) z call key ask v w = MapReplies call key ask replies.New at v w
PutFits (Over at) z call key ask v w = MapReplies call key ask replies.Over at v w
PutFits (Kept at) z call key ask v w = MapReplies call key ask replies.Kept at v w
PutFits (Done at) z call key ask v w = MapReplies call key ask replies.Done at v w
PutFits (Removed at) z call key ask v w = MapReplies call key ask replies.Removed at v w
PutFits (Absent at) z call key ask v w = MapReplies call key ask replies.Absent at v w
PutFits (Full lack) z call key ask v w = AnswersFull z call key ask lack v w

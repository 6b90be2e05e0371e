-- How a call on a key replies to a pass that is alone: as one cell for each key does. v is the state of the pass at the call, w the one at its end.
use Rattle.std.specs.Prelude.{◌≡◌, ◌≢◌, ℕ, List, map}
use Rattle.oak_model.specs.declared.cells.CellCall.{CellCall}
use Rattle.oak_model.specs.declared.cells.CellCall.TheVariants.{Get}
use Rattle.oak_model.specs.declared.cells.CellReply.{CellReply}
use Rattle.oak_model.specs.declared.cells.CellReply.TheVariants as replies
use Rattle.oak_model.specs.declared.replies.Wrote.{Wrote}
use Rattle.oak_model.specs.declared.replies.Wrote.TheVariants.{New, Over, Kept, Done, Removed, Absent, Full}
use Rattle.oak_model.specs.Cell.{reply_of, state_after}
use Rattle.oak_model.specs.KeyNumber.{key_number}
use Rattle.oak_model.specs.Limits.{Sizes}
use Rattle.oak_core.specs.declared.states.PassState.{PassState}
use Rattle.oak_core.specs.AloneWords.{Moment}
use Rattle.oak_core.specs.KeyHistories.{state_behind}
use Rattle.oak_core.specs.PassState.{IsAlone, history, knowledge_of, seen_of}
use Rattle.point_ops.specs.declared.gets.Got.{Got}
use Rattle.point_ops.specs.declared.gets.Got.TheVariants as got

-- at a moment at which the rule held, with the pass in this state, it had seen all of each key's history
pub record SeesWhole (z : Sizes) (v : PassState) : Type 0 where
  pub words : List ℕ
  pub moment : Moment z words v
  pub whole : (q : ℕ) → history q (map knowledge_of moment.states) ≡ seen_of q v.knowledge

-- The reply is the cell's on the last state of the key's history, and the call leaves the cell's state as the last. No other key's history changed.
pub record AnswersAlone (z : Sizes) (key : List ℕ) (ask : CellCall) (reply : CellReply) (v w : PassState) : Type 0 where
  pub begun : SeesWhole z v
  pub ended : SeesWhole z w
  pub answer : reply_of (state_behind (seen_of (key_number key) v.knowledge)) ask ≡ reply
  pub after : state_behind (seen_of (key_number key) w.knowledge) ≡ state_after (state_behind (seen_of (key_number key) v.knowledge)) ask
  pub others : (q : ℕ) → q ≢ key_number key → seen_of q w.knowledge ≡ seen_of q v.knowledge

-- what a call answers that may write; it is never `Full`
abbrev pub WroteAlone : Wrote → Sizes → List ℕ → CellCall → PassState → PassState → Type 0
WroteAlone (New at) z key ask v w = AnswersAlone z key ask replies.New v w
WroteAlone (Over at) z key ask v w = AnswersAlone z key ask replies.Over v w
WroteAlone (Kept at) z key ask v w = AnswersAlone z key ask replies.Kept v w
WroteAlone (Done at) z key ask v w = AnswersAlone z key ask replies.Done v w
WroteAlone (Removed at) z key ask v w = AnswersAlone z key ask replies.Removed v w
WroteAlone (Absent at) z key ask v w = AnswersAlone z key ask replies.Absent v w
WroteAlone (Full lack) z key ask v w = ⊥

-- what a look gets: nothing, or a view of a life that held some bytes
abbrev pub GotAlone : Got → Sizes → List ℕ → PassState → PassState → Type 0
GotAlone (got.Absent at) z key v w = AnswersAlone z key Get replies.Absent v w
GotAlone (got.View x) z key v w = (bytes : List ℕ) × AnswersAlone z key Get (replies.Holds bytes) v w

-- so it had at the call's begin and at its end, and no history changed
pub record SeesTheSame (z : Sizes) (v w : PassState) : Type 0 where
  pub begun : SeesWhole z v
  pub ended : SeesWhole z w
  pub same : (q : ℕ) → seen_of q w.knowledge ≡ seen_of q v.knowledge

-- this holds where the pass is alone
abbrev pub SameAlone : Sizes → PassState → PassState → Type 0
SameAlone z v w = IsAlone v → SeesTheSame z v w

-- What the calls of a caller that read promise: v is the state of the pass at the call, w the one at its end.
use Rattle.std.specs.Prelude.{◌≡◌, ℕ, ◌<◌, ◌≤◌, List, ◌++◌, drop, length}
use Rattle.std.specs.Int.{w64, from_be_bytes}
use Rattle.oak_model.specs.declared.cells.CellCall.TheVariants.{Get}
use Rattle.oak_model.specs.declared.cells.CellReply.{CellReply}
use Rattle.oak_model.specs.declared.cells.CellReply.TheVariants as replies
use Rattle.oak_model.specs.Limits.{Sizes}
use Rattle.oak_model.specs.Value.{IsValue}
use Rattle.oak_core.specs.declared.states.PassState.{PassState}
use Rattle.oak_core.specs.AloneWords.{Runs}
use Rattle.oak_core.specs.PassState.{IsAlone}
use Rattle.oak_core.specs.QuietSteps.{Quiet}
use Rattle.point_ops.specs.LoneReplies.{AnswersAlone}
use Rattle.point_ops.specs.Replies.{RepliesAt}
use Rattle.oak_map.specs.Maps.{StayAll}
use Rattle.oak_caller.specs.declared.reading.Copied.{Copied}
use Rattle.oak_caller.specs.declared.reading.Copied.TheVariants as copied
use Rattle.oak_caller.specs.declared.reading.Number.{Number}
use Rattle.oak_caller.specs.declared.reading.Number.TheVariants as number

-- The key was read, once: so the cell replies at the place of the number. The call only loaded words, and pinned or undid pins. To a pass that is alone it is the reply on the last state of the key, and the words stay.
pub record Reads (z : Sizes) (call : ℕ) (key : List ℕ) (reply : CellReply) (at : ℕ) (v w : PassState) : Type 0 where
  pub replies : RepliesAt call key Get reply at v w
  pub quiet : Quiet v w
  pub alone_reply : IsAlone v → AnswersAlone z key Get reply v w
  pub alone : Runs StayAll v w

-- the key was absent
abbrev pub ReadsNone : Sizes → ℕ → List ℕ → ℕ → PassState → PassState → Type 0
ReadsNone z call key at v w = Reads z call key replies.Absent at v w

-- or it had this value
abbrev pub ReadsValue : Sizes → ℕ → List ℕ → List ℕ → ℕ → PassState → PassState → Type 0
ReadsValue z call key value at v w = Reads z call key (replies.Holds value) at v w

-- what a copy answers, and what it leaves in the place for it, which was `old`
abbrev pub CopyFits : Copied → Sizes → ℕ → List ℕ → (old new : List ℕ) → PassState → PassState → Type 0
CopyFits (copied.Absent at) z call key old new v w = ReadsNone z call key at v w × (new ≡ old)
CopyFits (copied.Whole len at) z call key old new v w = (value : List ℕ) × ReadsValue z call key value at v w × IsValue value × (length value ≡ len) × (new ≡ value ++ drop len old)
CopyFits (copied.TooLong len at) z call key old new v w = (value : List ℕ) × ReadsValue z call key value at v w × IsValue value × (length value ≡ len) × (length old < len) × (new ≡ old)

-- what was copied lies within the place for it
abbrev pub LiesIn : Copied → List ℕ → Type 0
LiesIn (copied.Absent at) out = Unit {0}
LiesIn (copied.Whole len at) out = len ≤ length out
LiesIn (copied.TooLong len at) out = length out < len

-- what the number of a key is answered
abbrev pub NumberFits : Number → Sizes → ℕ → List ℕ → PassState → PassState → Type 0
NumberFits (number.Absent at) z call key v w = ReadsNone z call key at v w
NumberFits (number.Eight n at) z call key v w = (value : List ℕ) × ReadsValue z call key value at v w × (length value ≡ 8) × (n ≡ from_be_bytes w64 value)
NumberFits (number.Other len at) z call key v w = (value : List ℕ) × ReadsValue z call key value at v w × (length value ≡ len) × (len ≡ 8 → ⊥)

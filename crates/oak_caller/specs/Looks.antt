-- What the calls of a caller on views promise: v is the state of the pass at the call, w the one at its end.
use Rattle.std.specs.Prelude.{◌≡◌, ℕ, ◌<◌, ◌++◌, Bool, true, false, List, drop, length, Option, Some, None}
use Rattle.oak_model.specs.KeyNumber.{key_number}
use Rattle.oak_model.specs.Limits.{Sizes}
use Rattle.oak_model.specs.Value.{IsValue}
use Rattle.oak_core.specs.declared.states.PassState.{PassState}
use Rattle.oak_core.specs.AloneWords.{Runs}
use Rattle.oak_core.specs.KeyHistories.{state_behind}
use Rattle.oak_core.specs.PassState.{IsAlone, seen_of}
use Rattle.oak_core.specs.QuietSteps.{Quiet}
use Rattle.point_ops.specs.declared.gets.Got.{Got}
use Rattle.point_ops.specs.declared.gets.Got.TheVariants as gots
use Rattle.point_ops.specs.Gets.{GotFits}
use Rattle.point_ops.specs.LoneReplies.{GotAlone, SameAlone}
use Rattle.point_ops.specs.Replies.{Refuses}
use Rattle.value_ops.specs.PinnedValues.{ReadsLife}
use Rattle.value_ops.specs.Views.{Viewed}
use Rattle.oak_map.specs.Lending.{FindsOver}
use Rattle.oak_map.specs.Maps.{StayAll}
use Rattle.oak_caller.specs.declared.reading.Copied.{Copied}
use Rattle.oak_caller.specs.declared.reading.Copied.TheVariants as copied

-- The key was looked at, once: what it got, by loads, pins and their undoing alone. To a pass that is alone it is so in the last state of the key, and the words stay.
pub record LooksAt (g : Got) (z : Sizes) (call : ℕ) (key : List ℕ) (v w : PassState) : Type 0 where
  pub got : GotFits g z call key v w
  pub quiet : Quiet v w
  pub alone_reply : IsAlone v → GotAlone g z key v w
  pub alone : Runs StayAll v w

-- what a view of a key is answered
abbrev pub ViewAnswer : Option Viewed → Sizes → ℕ → List ℕ → PassState → PassState → Type 0
ViewAnswer None z call key v w = (at : ℕ) × LooksAt (gots.Absent at) z call key v w
ViewAnswer (Some x) z call key v w = LooksAt (gots.View x) z call key v w

-- whether the key is there
abbrev pub HasFits : Bool → Sizes → ℕ → List ℕ → PassState → PassState → Type 0
HasFits true z call key v w = (x : Viewed) × LooksAt (gots.View x) z call key v w
HasFits false z call key v w = (at : ℕ) × LooksAt (gots.Absent at) z call key v w

-- whether there is a value
abbrev pub IsView : Got → Bool → Type 0
IsView (gots.Absent at) b = b ≡ false
IsView (gots.View x) b = b ≡ true

-- the view, if there is one
abbrev pub IsViewOf : Got → Option Viewed → Type 0
IsViewOf (gots.Absent at) o = o ≡ None
IsViewOf (gots.View x) o = o ≡ Some x

-- The life of the view has these bytes, of the write with this stamp. The call only loaded words, and pinned or undid pins. To a pass that is alone they are what the key has in its last state, no history changed, and the words stay.
pub record ShowsLife (z : Sizes) (call : ℕ) (x : Viewed) (bytes : List ℕ) (at : ℕ) (v w : PassState) : Type 0 where
  pub life : ReadsLife x.header x.generation x.key at bytes v w
  pub refuses : Refuses call v w
  pub quiet : Quiet v w
  pub value : IsValue bytes
  pub was : IsAlone v → state_behind (seen_of (key_number x.key) v.knowledge) ≡ Some bytes
  pub same : SameAlone z v w
  pub alone : Runs StayAll v w

-- or it is over
abbrev pub ShowsOver : Sizes → ℕ → Viewed → PassState → PassState → Type 0
ShowsOver z call x v w = FindsOver z call x v w

abbrev pub CopyLooks : Copied → Sizes → ℕ → Viewed → (old new : List ℕ) → PassState → PassState → Type 0
CopyLooks (copied.Absent at) z call x old new v w = ShowsOver z call x v w
CopyLooks (copied.Whole len at) z call x old new v w = (bytes : List ℕ) × ShowsLife z call x bytes at v w × (length bytes ≡ len) × (new ≡ bytes ++ drop len old)
CopyLooks (copied.TooLong len at) z call x old new v w = (bytes : List ℕ) × ShowsLife z call x bytes at v w × (length bytes ≡ len) × (length old < len)

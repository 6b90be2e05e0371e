-- What a call needs, judged on the state of its key at a number that was found for it in the call.
use Rattle.std.specs.Prelude.{◌≡◌, ◌≢◌, ℕ, ◌⊎◌, List, length, Option, Some, None, IsSome}
use Rattle.oak_model.specs.declared.cells.CellCall.{CellCall}
use Rattle.oak_model.specs.declared.classes.Class.{Class}
use Rattle.oak_model.specs.declared.replies.Lack.{Lack}
use Rattle.oak_model.specs.declared.replies.Lack.TheVariants.{Block, Header, Room}
use Rattle.oak_model.specs.Cell.{state_after}
use Rattle.oak_model.specs.Class.{class_of}
use Rattle.oak_model.specs.KeyNumber.{key_number}
use Rattle.oak_model.specs.State.{State}
use Rattle.oak_core.specs.declared.states.PassState.{PassState}
use Rattle.oak_core.specs.CountReads.{SightedBare}
use Rattle.oak_core.specs.KnownPlaces.{ReadAt}
use Rattle.oak_core.specs.Sights.{SightedSince}

-- the class of the value that the state has
abbrev pub value_class : State → Option Class
value_class None = None
value_class (Some b) = class_of (length b)

-- From the one state to the other it needs this: a block of a class that the value has, and the one before had not; a block for the key, and a room, where the key is inserted and has no entry; a header where it is inserted.
abbrev pub Needs : Lack → List ℕ → State → State → Type 0 → Type 0
Needs (Block c) key before after Bare = ((value_class after ≡ Some c) × (value_class before ≢ Some c)) ⊎ ((class_of (length key) ≡ Some c) × (before ≡ None) × IsSome after × Bare)
Needs Header key before after Bare = (before ≡ None) × IsSome after
Needs Room key before after Bare = (before ≡ None) × IsSome after × Bare

-- the key was read in the call, at a number that was found for it, and on the state there the call needs it
pub record NeedsNow (call : ℕ) (key : List ℕ) (ask : CellCall) (lack : Lack) (v w : PassState) : Type 0 where
  pub at : ℕ
  pub before : State
  pub read : ReadAt (key_number key) at before v w
  pub sighted : SightedSince (key_number key) at v.findings w.findings
  pub needs : Needs lack key before (state_after before ask) (SightedBare call (key_number key) at v w)

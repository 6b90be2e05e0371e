-- What a call needs, judged on a state of its key.
use Rattle.std.specs.Prelude.{◌≡◌, ℕ, ◌⊎◌, Bool, true, false, length, Some, None, IsSome}
use Rattle.oak_model.specs.declared.cells.CellCall.{CellCall}
use Rattle.oak_model.specs.declared.classes.Class.{Class}
use Rattle.oak_model.specs.declared.replies.Lack.{Lack}
use Rattle.oak_model.specs.declared.replies.Lack.TheVariants.{Block, Header, Room}
use Rattle.oak_model.specs.Class.{has_class}
use Rattle.oak_model.specs.State.{State}
use Rattle.oak_model.specs.Cell.{state_after}

-- the state has a value of the class
abbrev pub takes_class : Class → State → Bool
takes_class c None = false
takes_class c (Some b) = has_class c (length b)

-- the value behind the call has the class, and the one before has not
abbrev pub Changes : Class → State → CellCall → Type 0
Changes c s cell = (takes_class c (state_after s cell) ≡ true) × (takes_class c s ≡ false)

-- the call makes an absent key present
abbrev pub Inserts : State → CellCall → Type 0
Inserts s cell = (s ≡ None) × IsSome (state_after s cell)

-- the call makes a key present that was found without an entry
abbrev pub Enters : State → Bool → CellCall → Type 0
Enters s bare cell = Inserts s cell × (bare ≡ true)

-- What the call needs on the state s of a key of so many bytes, where `bare` says whether the key was found
-- without an entry: a block for a value of a new class, and for a key that has none; a header for a life; a
-- room for an entry.
abbrev pub NeedsOn : State → ℕ → Bool → CellCall → Lack → Type 0
NeedsOn s size bare cell (Block c) = Changes c s cell ⊎ ((has_class c size ≡ true) × Enters s bare cell)
NeedsOn s size bare cell Header = Inserts s cell
NeedsOn s size bare cell Room = Enters s bare cell

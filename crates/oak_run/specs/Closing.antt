-- What a closed table shows of a run.
use Rattle.std.specs.Prelude.{◌≡◌, ℕ, suc, Bool, List, Option}
use Rattle.oak_model.specs.declared.replies.Lack.{Lack}
use Rattle.oak_model.specs.declared.shapes.Usage.{Usage}
use Rattle.oak_model.specs.Limits.{Sizes}
use Rattle.oak_model.specs.History.{Histories}

-- The histories; which refusals stand in it, by thread, call and lack; that a thread's pass found in its call
-- nothing free of what the call on a key lacked, but for a spare block; which numbers of a key, and whether
-- the key was found without an entry, and which removals under a view of a key, a thread's pass found in its
-- call; what is used, the limits, the retired headers and the open rooms.
pub record Closing : Type 1 where
  pub history : Histories
  pub Refused : ℕ → ℕ → Lack → Type 0
  pub Lacked : ℕ → ℕ → Lack → List ℕ → Option ℕ → Type 0
  pub Found : ℕ → ℕ → List ℕ → ℕ → Bool → Type 0
  pub FoundGone : ℕ → ℕ → List ℕ → ℕ → Type 0
  pub usage : Usage
  pub sizes : Sizes
  pub retired : ℕ
  pub open_rooms : ℕ

-- the number of the key was found in the call
abbrev pub WasFound : Closing → ℕ → ℕ → List ℕ → ℕ → Type 0
WasFound c thread n q at = (bare : Bool) × c.Found thread n q at bare

-- the number is a write's, one more than one that was found
abbrev pub WasFoundBefore : Closing → ℕ → ℕ → List ℕ → ℕ → Type 0
WasFoundBefore c thread n q at = (m : ℕ) × (at ≡ suc m) × WasFound c thread n q m

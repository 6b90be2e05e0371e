-- What a search for a block found.
use Rattle.std.specs.Prelude.{◌≡◌, ℕ, ◌/◌, ◌%◌, ◌<◌, List}
use Rattle.std.specs.Int.{bit_at}
use Rattle.oak_model.specs.declared.classes.Class.{Class}
use Rattle.oak_model.specs.Class.{class_number}
use Rattle.oak_model.specs.Counts.{Each}
use Rattle.oak_model.specs.Limits.{Sizes}
use Rattle.arena_core.specs.Arena.{at_bits, blocks}
use Rattle.oak_core.specs.declared.states.Finding.{Finding}
use Rattle.oak_core.specs.declared.states.PassState.{PassState}
use Rattle.oak_core.specs.Memory.{Spot, in_arena, memory}
use Rattle.oak_core.specs.Finding.{grown, IsLoadOf, FoundThere}
use Rattle.oak_core.specs.AloneWords.{Runs}

-- the word that has the bit of the block
abbrev pub bit_spot : Class → ℕ → Spot
bit_spot c b = in_arena (at_bits (class_number c) (b / 64))

-- one of the findings is of the call, and shows the bit of the block set, which is no doing of the call: the pass had there what v has
abbrev pub FoundSet : Sizes → ℕ → Class → ℕ → PassState → List Finding → Type 0
FoundSet z call c b v met = FoundThere z call (bit_spot c b) v met (λ n. bit_at n (b % 64) ≡ 1)

-- the bit of the block is set in these words
abbrev pub IsSetIn : Sizes → Class → ℕ → List ℕ → Type 0
IsSetIn z c b words = bit_at ((memory z words).arena.bits (class_number c) (b / 64)) (b % 64) ≡ 1

-- the words stay, and in them the bit of each block of the class with P is set
abbrev pub AllSet : Sizes → Class → (ℕ → Type 0) → List ℕ → List ℕ → Type 0
AllSet z c P before after = (after ≡ before) × ((b : ℕ) → b < blocks z (class_number c) → P b → IsSetIn z c b before)

-- The pass only met more, all in the call and by steps that left their words as they were found, and of each block of the class with P the bit was found set. To a pass that is alone all of them are set at once, in words that stay.
pub record Looked (z : Sizes) (call : ℕ) (c : Class) (v w : PassState) (P : ℕ → Type 0) : Type 0 where
  pub more : List Finding
  pub after : w ≡ grown more v
  pub looks : Each (IsLoadOf z call) more
  pub set : (b : ℕ) → b < blocks z (class_number c) → P b → FoundSet z call c b v more
  pub still : Runs (AllSet z c P) v w

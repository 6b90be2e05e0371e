-- What loads of a pinned room's words find.
use Rattle.std.specs.Prelude.{◌≡◌, ℕ, ◌*◌, ◌<◌, ◌≤◌, ◌^◌, List, length}
use Rattle.oak_model.specs.declared.limits.TheConstants.{CLASSES}
use Rattle.oak_model.specs.Key.{IsKey}
use Rattle.oak_model.specs.Limits.{Sizes}
use Rattle.arena_core.specs.Arena.{block_words, blocks}
use Rattle.arena_core.specs.Place.{class_in, block_in, length_in}
use Rattle.chunk_core.specs.declared.holds.FoundEntry.{FoundEntry}
use Rattle.chunk_core.specs.Rooms.{at_base}
use Rattle.oak_core.specs.declared.states.PassState.{PassState}
use Rattle.oak_core.specs.CallSteps.{StepOfCall}
use Rattle.oak_core.specs.Memory.{in_rooms}
use Rattle.oak_core.specs.Step.{load}
use Rattle.chunk_ops.specs.PinRecords.{room_pin}

-- the base was loaded in the call, and is the one that the pin recorded
pub record FindsBase (z : Sizes) (call r base : ℕ) (v w : PassState) : Type 0 where
  pub step : StepOfCall z call (load (in_rooms (at_base r))) v w
  pub base_is : step.number ≡ base
  pub pinned : base ≡ (room_pin v).base
  pub small : base < 2 ^ 63

-- the word is the entry's, and names a block of the table with room for the key, which has as many bytes as it says
pub record FindsKeyWord (z : Sizes) (k : List ℕ) (e : FoundEntry) (word : ℕ) : Type 0 where
  pub is : word ≡ e.word
  pub class : class_in word < CLASSES
  pub block : block_in word < blocks z (class_in word)
  pub long : length_in word ≡ length k
  pub key : IsKey k
  pub room : length k ≤ 8 * block_words (class_in word)

-- What calls find and leave that set a header as the value of an entry, or clear one from it. v is the state of the pass at the call, w the one at its end.
use Rattle.std.specs.Prelude.{◌≡◌, ◌≢◌, ℕ, List, slice_set, false, Some, None}
use Rattle.oak_model.specs.declared.writes.Kind.{Kind}
use Rattle.oak_model.specs.Limits.{Sizes}
use Rattle.header_core.specs.HeaderHolds.{without_header}
use Rattle.chunk_core.specs.RoomStep.{set_value}
use Rattle.chunk_core.specs.Rooms.{at_value}
use Rattle.oak_core.specs.declared.states.PassState.{PassState}
use Rattle.oak_core.specs.CallSteps.{Stands, StepOfCall}
use Rattle.oak_core.specs.CallWrites.{Writes}
use Rattle.oak_core.specs.HeldRows.{BuriesLife}
use Rattle.oak_core.specs.KeyedHeaders.{unlinked}
use Rattle.oak_core.specs.Memory.{in_rooms, index, memory}
use Rattle.oak_core.specs.Step.{on_rooms}
use Rattle.chunk_ops.specs.PinRecords.{HasEntry}

-- The fresh header became the value of the key, which was absent: that is the call's write. The pass has the header no more, and else holds what it held.
pub record SetsLife (call : ℕ) (key : List ℕ) (h : ℕ) (kind : Kind) (bytes : List ℕ) (stamp : ℕ) (v w : PassState) : Type 0 where
  pub writes : Writes call key kind None (Some bytes) stamp v w
  pub blocks : w.blocks ≡ v.blocks
  pub headers : w.headers ≡ record v.headers { held = without_header h v.headers.held }
  pub rooms : w.rooms ≡ v.rooms

-- a step of the call that would have set a value found another number than the floor in the value word of the entry, which is one of the key
pub record FoundSet (z : Sizes) (call r i floor : ℕ) (key : List ℕ) (v w : PassState) : Type 0 where
  pub new : ℕ
  pub kind : Kind
  pub step : StepOfCall z call (on_rooms (set_value r i floor new kind)) v w
  pub entry : HasEntry r i key step.from
  pub other : step.number ≢ floor

-- The header that the pass buries is named by no entry any more; the pass learned nothing, and else holds what it held.
pub record Clears (call : ℕ) (key : List ℕ) (h g stamp : ℕ) (v w : PassState) : Type 0 where
  pub stands : Stands call v w
  pub blocks : w.blocks ≡ v.blocks
  pub headers : w.headers ≡ record v.headers { held = unlinked key v.headers.held }
  pub rooms : w.rooms ≡ v.rooms
  pub unnamed : BuriesLife key h g stamp false w

-- to a pass that is alone

-- the value word was the floor, and names the life; no other word changed
abbrev pub SetsIn : Sizes → (r i floor home : ℕ) → List ℕ → List ℕ → Type 0
SetsIn z r i floor home before after = ((memory z before).rooms.value r i ≡ floor) × (after ≡ slice_set before (index z (in_rooms (at_value r i))) home)

-- it was another number, and all words stay
abbrev pub LeavesIn : Sizes → (r i floor : ℕ) → List ℕ → List ℕ → Type 0
LeavesIn z r i floor before after = ((memory z before).rooms.value r i ≢ floor) × (after ≡ before)

-- the value word is the floor; no other word changed
abbrev pub ClearsIn : Sizes → (r i floor : ℕ) → List ℕ → List ℕ → Type 0
ClearsIn z r i floor before after = after ≡ slice_set before (index z (in_rooms (at_value r i))) floor

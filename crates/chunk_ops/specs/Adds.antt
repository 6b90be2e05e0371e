-- What a call that adds an entry finds and leaves. v is the state of the pass at the call, w the one at its end.
use Rattle.std.specs.Prelude.{◌≡◌, ◌≢◌, ℕ, ◌⊎◌, List, Option, Some}
use Rattle.oak_model.specs.declared.classes.Class.{Class}
use Rattle.oak_model.specs.Counts.{Has}
use Rattle.oak_model.specs.Key.{IsKey}
use Rattle.oak_model.specs.KeyNumber.{key_number}
use Rattle.oak_model.specs.Limits.{Sizes}
use Rattle.chunk_core.specs.declared.holds.FoundEntry.{FoundEntry}
use Rattle.chunk_core.specs.LinkWords.{link_spot}
use Rattle.chunk_core.specs.LinkedEntries.{entries_in}
use Rattle.chunk_core.specs.PinnedRooms.{span_of, found_in, found_key}
use Rattle.chunk_core.specs.RoomStep.{claim_entry, link_entry}
use Rattle.chunk_core.specs.Rooms.{RoomSpot, at_count, at_key}
use Rattle.oak_core.specs.declared.states.Finding.{Finding}
use Rattle.oak_core.specs.declared.states.PassState.{PassState}
use Rattle.oak_core.specs.CallSteps.{Learns, StepOfCall}
use Rattle.oak_core.specs.Memory.{in_rooms, index}
use Rattle.oak_core.specs.QuietSteps.{MetOnly, Quiet, StoredNone}
use Rattle.oak_core.specs.Step.{Step, load, on_rooms, spot}
use Rattle.chunk_ops.specs.declared.entries.AddHalt.{AddHalt}
use Rattle.chunk_ops.specs.declared.entries.AddHalt.TheVariants.{Crowded, Busy}
use Rattle.chunk_ops.specs.AskedRanges.{CoversKey}
use Rattle.chunk_ops.specs.Finds.{FoundAbsent}
use Rattle.arena_ops.specs.Storing.{HasBytes, given}
use Rattle.chunk_ops.specs.PinRecords.{PinStays, room_pin, HasEntry, KeepsPin}

-- the key may be added: it is one of the pinned room's range, and in such a block
pub record MayAdd (z : Sizes) (c : Class) (b : ℕ) (key : List ℕ) (v : PassState) : Type 0 where
  pub is_key : IsKey key
  pub block : HasBytes z c b key v
  pub covers : CoversKey key (span_of (room_pin v))

-- the room has an entry of the key, which the pin has found, and the block is not the pass's any more
pub record AddsEntry (z : Sizes) (call r i : ℕ) (c : Class) (b : ℕ) (key : List ℕ) (v w : PassState) : Type 0 where
  pub learns : Learns call v w
  pub headers : w.headers ≡ v.headers
  pub blocks : w.blocks ≡ given c b v.blocks
  pub pin : KeepsPin z r v w
  pub entry : HasEntry r i key w

-- Under its pin the call may have learned, and the pass holds what it held: the block still with the key.
pub record KeepsBlock (z : Sizes) (call r : ℕ) (c : Class) (b : ℕ) (key : List ℕ) (v w : PassState) : Type 0 where
  pub learns : Learns call v w
  pub has : HasBytes z c b key w
  pub blocks : given c b w.blocks ≡ given c b v.blocks
  pub headers : w.headers ≡ v.headers
  pub pin : KeepsPin z r v w

-- the step left the word as it found it
abbrev pub LeavesWord : Sizes → RoomSpot → Finding → Type 0
LeavesWord z p f = f.word ≡ index z (in_rooms p) → f.found ≡ Some f.left

-- The step stored neither to the count of the room, nor to the key word of one of its entries. Where no step does, no entry that the pass claims is linked, or given up, so it raises the count by none that it has claimed no more.
pub record LeavesCount (z : Sizes) (r : ℕ) (f : Finding) : Type 0 where
  pub count : StoredNone (index z (in_rooms (at_count r))) f
  pub keys : (i : ℕ) → StoredNone (index z (in_rooms (at_key r i))) f

-- The count was found at the room's size, when no entry that was found had the key, which was found absent behind that. The call raised the count by no entry.
pub record FoundCrowded (z : Sizes) (call r : ℕ) (key : List ℕ) (v w : PassState) : Type 0 where
  pub step : StepOfCall z call (load (in_rooms (at_count r))) v w
  pub full : entries_in step.number ≡ z.entries
  pub stays : PinStays (room_pin v) (room_pin step.to)
  pub none : (e : FoundEntry) → Has e (found_in (room_pin step.to)) → found_key e ≢ key_number key
  pub absent : FoundAbsent call (key_number key) (room_pin v).base v w
  pub left : MetOnly (LeavesCount z r) v w
  -- by loads, pins and their undoing alone
  pub quiet : Quiet v w

-- the count of the room, or one of its links
abbrev pub IsCountOrLink : ℕ → RoomSpot → Type 0
IsCountOrLink r p = (p ≡ at_count r) ⊎ ((from : Option ℕ) × (p ≡ link_spot r from))

-- how a count or a link is looked at again: by a load, by the exchange of the count that claims an entry, or by that of a link for one that names an entry
pub data Look : Type 0 where
  loads : Look
  claims : ℕ → Look
  links : Option ℕ → ℕ → ℕ → Look

abbrev pub look_step : ℕ → RoomSpot → Look → Step
look_step r place loads = load (in_rooms place)
look_step r place (claims old) = on_rooms (claim_entry r old)
look_step r place (links from i old) = on_rooms (link_entry r from i old)

-- The count or a link of the room was found other than it was loaded before in the call, with no step of the call between that changed it.
pub record FoundOther (z : Sizes) (call r : ℕ) (v w : PassState) : Type 0 where
  pub place : RoomSpot
  pub is : IsCountOrLink r place
  pub first : StepOfCall z call (load (in_rooms place)) v w
  pub look : Look
  pub names : spot (look_step r place look) ≡ in_rooms place
  pub second : StepOfCall z call (look_step r place look) first.to w
  pub other : second.number ≢ first.number
  pub left : MetOnly (LeavesWord z place) first.to second.from

abbrev pub NotAddedBy : AddHalt → Sizes → ℕ → ℕ → List ℕ → PassState → PassState → Type 0
NotAddedBy Crowded z call r key v w = FoundCrowded z call r key v w
NotAddedBy Busy z call r key v w = (f : FoundOther z call r v w) × PinStays (room_pin v) (room_pin f.first.from)

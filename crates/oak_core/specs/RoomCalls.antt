-- What a word names among the rooms, and what the steps on them tell.
use Rattle.std.specs.Prelude.{◌≡◌, ℕ, ◌<◌, Option}
use Rattle.oak_model.specs.declared.writes.Kind.{Kind}
use Rattle.oak_model.specs.Limits.{Sizes}
use Rattle.chunk_core.specs.LinkWords.{link_spot}
use Rattle.chunk_core.specs.Rooms.{RoomSpot, at_room_pin, at_count, IsInRooms}
use Rattle.chunk_core.specs.RoomStep.{EntryField, entry_spot, pin_room, unpin_room, claim_entry, own_entry, link_entry, set_value, unlink_entry, freeze_room, hold_room, claim_room, store_room, open_room, retire_room}
use Rattle.oak_core.specs.declared.states.PassState.{PassState}
use Rattle.oak_core.specs.Memory.{in_rooms, index}
use Rattle.oak_core.specs.Step.{on_rooms, Told}

-- the pin word of the room
pub record NamesRoomPin (z : Sizes) (r word : ℕ) : Type 0 where
  pub inside : r < z.chunks
  pub word_is : word ≡ index z (in_rooms (at_room_pin r))

-- the room was pinned
abbrev pub PinsRoomWord : Sizes → ℕ → ℕ → PassState → ℕ → PassState → Type 0
PinsRoomWord z call r v n w = Told z call (on_rooms (pin_room r)) v n w

-- the pin was undone
abbrev pub UnpinsRoomWord : Sizes → ℕ → ℕ → PassState → ℕ → PassState → Type 0
UnpinsRoomWord z call r v n w = Told z call (on_rooms (unpin_room r)) v n w

-- a word of the entry i of the room
pub record NamesEntryWord (z : Sizes) (f : EntryField) (r i word : ℕ) : Type 0 where
  pub inside : r < z.chunks
  pub entry : i < z.entries
  pub word_is : word ≡ index z (in_rooms (entry_spot f r i))

-- the word of the claimed entry became x
abbrev pub OwnsEntry : Sizes → ℕ → EntryField → (r i x : ℕ) → PassState → PassState → Type 0
OwnsEntry z call f r i x v w = (n : ℕ) × Told z call (on_rooms (own_entry f r i x)) v n w

-- the count word of the room
pub record NamesCount (z : Sizes) (r word : ℕ) : Type 0 where
  pub inside : r < z.chunks
  pub word_is : word ≡ index z (in_rooms (at_count r))

-- the entry past the count was claimed, where n is the old count
abbrev pub ClaimsEntry : Sizes → ℕ → (r old : ℕ) → PassState → ℕ → PassState → Type 0
ClaimsEntry z call r old v n w = Told z call (on_rooms (claim_entry r old)) v n w

-- the link word of the room, the first one or that of an entry
pub record NamesLink (z : Sizes) (r : ℕ) (from : Option ℕ) (word : ℕ) : Type 0 where
  pub inside : IsInRooms z (link_spot r from)
  pub word_is : word ≡ index z (in_rooms (link_spot r from))

-- the claimed entry was linked, where n is the old link
abbrev pub LinksEntry : Sizes → ℕ → (r : ℕ) → Option ℕ → (i old : ℕ) → PassState → ℕ → PassState → Type 0
LinksEntry z call r from i old v n w = Told z call (on_rooms (link_entry r from i old)) v n w

-- the value word was exchanged, where n is the floor `old`
abbrev pub SetsValueWord : Sizes → ℕ → (r i old new : ℕ) → Kind → PassState → ℕ → PassState → Type 0
SetsValueWord z call r i old new kind v n w = Told z call (on_rooms (set_value r i old new kind)) v n w

-- the value word became the floor x
abbrev pub UnlinksEntryWord : Sizes → ℕ → (r i x : ℕ) → PassState → PassState → Type 0
UnlinksEntryWord z call r i x v w = (n : ℕ) × Told z call (on_rooms (unlink_entry r i x)) v n w

-- the room became frozen, where its word was the old one
abbrev pub FreezesRoom : Sizes → ℕ → (r old : ℕ) → PassState → ℕ → PassState → Type 0
FreezesRoom z call r old v n w = Told z call (on_rooms (freeze_room r old)) v n w

-- the frozen room became held, where its word was the old one
abbrev pub HoldsRoomWord : Sizes → ℕ → (r old : ℕ) → PassState → ℕ → PassState → Type 0
HoldsRoomWord z call r old v n w = Told z call (on_rooms (hold_room r old)) v n w

-- the free room became held, where its word was the old one
abbrev pub ClaimsRoom : Sizes → ℕ → (r old : ℕ) → PassState → ℕ → PassState → Type 0
ClaimsRoom z call r old v n w = Told z call (on_rooms (claim_room r old)) v n w

-- the word of the rooms
pub record NamesRoomWord (z : Sizes) (p : RoomSpot) (word : ℕ) : Type 0 where
  pub inside : IsInRooms z p
  pub word_is : word ≡ index z (in_rooms p)

-- the word of the held room became x
abbrev pub StoresRoom : Sizes → ℕ → RoomSpot → (x : ℕ) → PassState → PassState → Type 0
StoresRoom z call p x v w = (n : ℕ) × Told z call (on_rooms (store_room p x)) v n w

-- the held room became open
abbrev pub OpensRoom : Sizes → ℕ → ℕ → PassState → ℕ → PassState → Type 0
OpensRoom z call r v n w = Told z call (on_rooms (open_room r)) v n w

-- the held room became free
abbrev pub RetiresRoom : Sizes → ℕ → ℕ → PassState → ℕ → PassState → Type 0
RetiresRoom z call r v n w = Told z call (on_rooms (retire_room r)) v n w

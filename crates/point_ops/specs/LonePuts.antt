-- What puts do to the words of the table, for a pass that is alone, from where the key was found on.
use Rattle.std.specs.Prelude.{◌≡◌, ℕ, ◌<◌, ◌⊎◌, List, Option, Result, Ok, Err}
use Rattle.pin_word.specs.PinWord.{state_of}
use Rattle.oak_model.specs.Limits.{Sizes}
use Rattle.chunk_core.specs.declared.states.TheConstants.{OPEN}
use Rattle.chunk_core.specs.Rooms.{at_count, at_first, at_key, at_next, at_value}
use Rattle.header_core.specs.declared.states.TheConstants.{LIVE}
use Rattle.oak_core.specs.Memory.{Spot, in_arena, in_headers, in_rooms, memory}
use Rattle.chunk_ops.specs.declared.entries.EntryNo.{EntryNo}
use Rattle.point_ops.specs.LoneInserts.{GetsEntryIn, InsertHaltsIn, InsertsIn, IsFreeIn, KeepsBut}
use Rattle.point_ops.specs.LoneLives.{AwayIn}
use Rattle.point_ops.specs.declared.halts.Halt.{Halt}

-- where the key was away, at the floor of its entry or without one, it gets an entry with that floor
abbrev pub EntersFor : Sizes → ℕ → Option EntryNo → ℕ → List ℕ → EntryNo → List ℕ → List ℕ → Type 0
EntersFor z r entry floor key i before after = AwayIn entry floor z r key before before → GetsEntryIn z r i.0 floor before after

-- or a value
abbrev pub InsertsFor : Result ℕ Halt → Sizes → ℕ → Option EntryNo → ℕ → (key value before after : List ℕ) → Type 0
InsertsFor result z r entry floor key value before after = AwayIn entry floor z r key before before → InsertsIn result z r key value before after

-- ---- a call that writes a value

-- a word that such a call may change: of the arena, of headers, and the count, the first link and the entries of rooms
abbrev pub IsPut : Spot → Type 0
IsPut (in_arena p) = Unit {0}
IsPut (in_headers p) = Unit {0}
IsPut (in_rooms (at_count r)) = Unit {0}
IsPut (in_rooms (at_key r i)) = Unit {0}
IsPut (in_rooms (at_value r i)) = Unit {0}
IsPut (in_rooms (at_first r)) = Unit {0}
IsPut (in_rooms (at_next r i)) = Unit {0}
IsPut _ = ⊥

-- No pin word of a room changed, nor a bound or a base. Each header's pin word is as before, but for one that was free and is live; so those that are retired are those that were.
pub record KeepsRooms (z : Sizes) (before after : List ℕ) : Type 0 where
  pub but : KeepsBut z IsPut before after
  pub pins : (h : ℕ) → ((memory z after).headers.pin h ≡ (memory z before).headers.pin h) ⊎ (IsFreeIn z h before × (state_of ((memory z after).headers.pin h) ≡ LIVE))

-- what the part of the call does that is made under the pin of the room r
abbrev pub PutsUnder : {A : Type 0} → Result A Halt → Sizes → ℕ → (key value before after : List ℕ) → Type 0
PutsUnder (Ok x) z r key value before after = KeepsRooms z before after
PutsUnder (Err why) z r key value before after = InsertHaltsIn why z r key value before after

-- the room is open
abbrev pub IsOpenIn : Sizes → ℕ → List ℕ → Type 0
IsOpenIn z r words = (r < z.chunks) × (state_of ((memory z words).rooms.pin r) ≡ OPEN)

-- why a pass that is alone does not insert a key: never for another's work, nor for want of a room that has the key in its range; else by what it lacks for the open room that has it
abbrev pub LoneHalts : Halt → Sizes → (key value before after : List ℕ) → Type 0
LoneHalts why z key value before after = (r : ℕ) × IsOpenIn z r before × InsertHaltsIn why z r key value before after

-- what the whole call does
abbrev pub PutsIn : {A : Type 0} → Result A Halt → Sizes → (key value before after : List ℕ) → Type 0
PutsIn (Ok x) z key value before after = KeepsRooms z before after
PutsIn (Err why) z key value before after = LoneHalts why z key value before after

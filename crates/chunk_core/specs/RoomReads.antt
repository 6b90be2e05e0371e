-- What a step of a pass takes over from the words of a room, and from the blocks that its key words name.
use Rattle.std.specs.Prelude.{ℕ, List, [], ◌∷◌, map, Option, Some, None}
use Rattle.oak_model.specs.Limits.{Sizes}
use Rattle.oak_model.specs.Counts.{rows}
use Rattle.chunk_core.specs.declared.layout.TheConstants.{BOUND_WORDS}
use Rattle.chunk_core.specs.declared.holds.FoundEntry.{FoundEntry}
use Rattle.chunk_core.specs.declared.holds.PinnedRoom.{PinnedRoom}
use Rattle.chunk_core.specs.declared.holds.EntryWords.{EntryWords}
use Rattle.chunk_core.specs.declared.holds.Claim.{Claim}
use Rattle.chunk_core.specs.declared.holds.RoomCopy.{RoomCopy}
use Rattle.chunk_core.specs.declared.holds.Carried.{Carried}
use Rattle.chunk_core.specs.declared.holds.MovingRange.{MovingRange}
use Rattle.chunk_core.specs.Rooms.{RoomMemory}
use Rattle.chunk_core.specs.LinkedEntries.{prefix_in, linked}

-- a pin, which has found no entries yet
abbrev pub pinned_at : RoomMemory → ℕ → PinnedRoom
pinned_at m r = record { room = r; found = m.pin r; base = m.base r; low = rows 0 BOUND_WORDS (m.low r); high = rows 0 BOUND_WORDS (m.high r); count = None; entries = []; walked = [] }

-- an entry, with the words of its key's block
abbrev pub found_at : RoomMemory → (ℕ → List ℕ) → ℕ → ℕ → FoundEntry
found_at m content r i = record { number = i; word = m.key r i; words = content (m.key r i) }

-- the entries of the prefix by a count, in their order
abbrev pub found_below : RoomMemory → (ℕ → List ℕ) → ℕ → ℕ → List FoundEntry
found_below m content r count = rows 0 (prefix_in count) (found_at m content r)

-- with it at the front of those that are found
abbrev pub found_more : Option FoundEntry → List FoundEntry → List FoundEntry
found_more None es = es
found_more (Some e) es = e ∷ es

-- the three words of an entry
abbrev pub words_at : RoomMemory → ℕ → ℕ → EntryWords
words_at m r i = record { word = m.key r i; value = m.value r i; next = m.next r i }

-- a claim of an entry
abbrev pub claimed_at : RoomMemory → (ℕ → List ℕ) → ℕ → ℕ → Claim
claimed_at m content r i = record { room = r; number = i; entry = words_at m r i; words = content (m.key r i) }

-- all words of a room but the pin word
abbrev pub copy_at : Sizes → RoomMemory → ℕ → RoomCopy
copy_at z m r = record {
  base = m.base r;
  count = m.count r;
  latch = m.latch r;
  first = m.first r;
  low = rows 0 BOUND_WORDS (m.low r);
  high = rows 0 BOUND_WORDS (m.high r);
  entries = rows 0 z.entries (words_at m r);
}

-- a linked entry, with the words of its key's block
abbrev pub carried_at : RoomMemory → (ℕ → List ℕ) → ℕ → ℕ → Carried
carried_at m content r i = record { word = m.key r i; value = m.value r i; words = content (m.key r i) }

-- the range of the room with its linked entries
abbrev pub moving_at : RoomMemory → (ℕ → List ℕ) → ℕ → MovingRange
moving_at m content r = record { room = r; base = m.base r; low = rows 0 BOUND_WORDS (m.low r); high = rows 0 BOUND_WORDS (m.high r); carried = map (carried_at m content r) (linked m r) }

-- Covers: ranges of keys with their linked entries. A room that is open or frozen is one, and so is a range that moves with the pass that holds its room.
use Rattle.std.specs.Prelude.{ℕ, List, map}
use Rattle.oak_model.specs.Counts.{rows}
use Rattle.chunk_core.specs.declared.layout.TheConstants.{BOUND_WORDS}
use Rattle.chunk_core.specs.declared.holds.Carried.{Carried}
use Rattle.chunk_core.specs.declared.holds.MovingRange.{MovingRange}
use Rattle.chunk_core.specs.declared.holds.RoomHolds.{RoomHolds}
use Rattle.chunk_core.specs.Rooms.{RoomMemory}
use Rattle.chunk_core.specs.KeyWords.{key_in, low_number, high_number}
use Rattle.chunk_core.specs.Spans.{Span}
use Rattle.chunk_core.specs.LinkedEntries.{in_use, linked}

-- a key word, a value word, and the number of the key
pub record Entry : Type 0 where
  pub word : ℕ
  pub value : ℕ
  pub key : ℕ

-- a range with its linked entries
pub record Cover : Type 0 where
  pub span : Span
  pub entries : List Entry

-- A room by its words. `content` gives the words of the block that a key word names.

-- the range
abbrev pub span_in : RoomMemory → ℕ → Span
span_in m r = record { low = low_number (rows 0 BOUND_WORDS (m.low r)); high = high_number (rows 0 BOUND_WORDS (m.high r)); base = m.base r }

-- the number of the key that a key word names
abbrev pub key_at : (ℕ → List ℕ) → ℕ → ℕ
key_at content word = key_in word (content word)

-- the entry with a number
abbrev pub entry_at : RoomMemory → (ℕ → List ℕ) → ℕ → ℕ → Entry
entry_at m content r i = record { word = m.key r i; value = m.value r i; key = key_at content (m.key r i) }

-- the room as a cover
abbrev pub cover_at : RoomMemory → (ℕ → List ℕ) → ℕ → Cover
cover_at m content r = record { span = span_in m r; entries = map (entry_at m content r) (linked m r) }

-- the same with all entries in use
abbrev pub used_at : RoomMemory → (ℕ → List ℕ) → ℕ → Cover
used_at m content r = record { span = span_in m r; entries = map (entry_at m content r) (in_use m r) }

-- A moving range by what its holder keeps.

-- a carried entry
abbrev pub entry_from : Carried → Entry
entry_from c = record { word = c.word; value = c.value; key = key_in c.word c.words }

-- the range as a cover
abbrev pub cover_from : MovingRange → Cover
cover_from g = record { span = record { low = low_number g.low; high = high_number g.high; base = g.base }; entries = map entry_from g.carried }

-- all moving ranges of a pass
abbrev pub moving_of : RoomHolds → List Cover
moving_of a = map cover_from a.moving

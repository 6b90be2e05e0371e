-- What stands while a good pin of a room stands.
use Rattle.std.specs.Prelude.{◌≡◌, ℕ, ◌<◌, List, [], ◌++◌, length, Option, Some, None}
use mathlib.Core.Option.{some}
use lib.ListN.{get_elem?}
use Rattle.pin_word.specs.PinWord.{state_of}
use Rattle.oak_model.specs.Limits.{Sizes}
use Rattle.oak_model.specs.Counts.{one_at, total, rows, Each}
use Rattle.chunk_core.specs.declared.layout.TheConstants.{BOUND_WORDS}
use Rattle.chunk_core.specs.declared.states.TheConstants.{OPEN}
use Rattle.chunk_core.specs.declared.holds.FoundEntry.{FoundEntry}
use Rattle.chunk_core.specs.declared.holds.PinnedRoom.{PinnedRoom}
use Rattle.chunk_core.specs.Rooms.{RoomMemory}
use Rattle.chunk_core.specs.KeyWords.{key_in, low_number, high_number}
use Rattle.chunk_core.specs.Spans.{Span}
use Rattle.chunk_core.specs.LinkedEntries.{prefix_in, linked}
use Rattle.chunk_core.specs.CoverSums.{weight}

-- P holds of the pin, where there is one
abbrev pub OnRoomPin : (PinnedRoom → Type 0) → Option PinnedRoom → Type 0
OnRoomPin P None = Unit {0}
OnRoomPin P (Some p) = P p

-- a pin is good where it found the room open, and else a dud
abbrev pub IsGoodRoom : PinnedRoom → Type 0
IsGoodRoom p = state_of p.found ≡ OPEN

-- the range and the base that it found
abbrev pub span_of : PinnedRoom → Span
span_of p = record { low = low_number p.low; high = high_number p.high; base = p.base }

-- the number of the key of an entry that was found
abbrev pub found_key : FoundEntry → ℕ
found_key e = key_in e.word e.words

-- all entries that it found: those of the prefix, and those that links name
abbrev pub found_in : PinnedRoom → List FoundEntry
found_in p = p.entries ++ p.walked

-- an entry that was found is linked, and has the key word and the bytes that it had then
pub record EntryStands (links : List ℕ) (key : ℕ → ℕ) (content : ℕ → List ℕ) (e : FoundEntry) : Type 0 where
  pub linked : total (λ j. one_at j e.number) links ≡ 1
  pub word : key e.number ≡ e.word
  pub words : content e.word ≡ e.words

-- before the count was loaded under the pin no entries of the prefix are found, and behind it as many as it said, each with its number
abbrev pub AreCounted : Option ℕ → List FoundEntry → Type 0
AreCounted None es = es ≡ []
AreCounted (Some c) es = (length es ≡ prefix_in c) × ((j : ℕ) (e : FoundEntry) → get_elem? es j ≡ some e → e.number ≡ j)

-- the prefix is as long as it was found
abbrev pub IsPrefixStill : ℕ → Option ℕ → Type 0
IsPrefixStill count None = Unit {0}
IsPrefixStill count (Some c) = prefix_in count ≡ prefix_in c

-- the room is a cover with the bounds and the base that the pin found, and the entries that were found under it stand
pub record RoomPinHolds (z : Sizes) (m : RoomMemory) (content : ℕ → List ℕ) (p : PinnedRoom) : Type 0 where
  pub inside : p.room < z.chunks
  pub cover : weight (m.pin p.room) ≡ 1
  pub base : m.base p.room ≡ p.base
  pub low : rows 0 BOUND_WORDS (m.low p.room) ≡ p.low
  pub high : rows 0 BOUND_WORDS (m.high p.room) ≡ p.high
  pub counted : AreCounted p.count p.entries
  pub prefix : IsPrefixStill (m.count p.room) p.count
  pub entries : Each (EntryStands (linked m p.room) (m.key p.room) content) p.entries
  pub walked : Each (EntryStands (linked m p.room) (m.key p.room) content) p.walked

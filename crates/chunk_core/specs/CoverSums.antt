-- What is added up over all covers. Each point on covers is such a sum.
use Rattle.std.specs.Prelude.{ℕ, ◌+◌, ◌-◌, ◌*◌, nat_lt, List, map}
use Rattle.pin_word.specs.PinWord.{state_of}
use Rattle.oak_model.specs.Limits.{Sizes}
use Rattle.oak_model.specs.Counts.{one_if, one_at, total, below}
use Rattle.chunk_core.specs.declared.states.TheConstants.{OPEN, FROZEN}
use Rattle.chunk_core.specs.declared.holds.RoomHolds.{RoomHolds}
use Rattle.chunk_core.specs.Rooms.{RoomMemory}
use Rattle.chunk_core.specs.ValueWord.{names_header, header_in}
use Rattle.chunk_core.specs.KeyWords.{least_number}
use Rattle.chunk_core.specs.Spans.{Span, past_high, within}
use Rattle.chunk_core.specs.Covers.{Entry, Cover, cover_at, used_at, moving_of}

-- 1 where a room with the pin word is a cover, and else 0
abbrev pub weight : ℕ → ℕ
weight w = one_at (state_of w) OPEN + one_at (state_of w) FROZEN

-- F added up over n rooms, with these pin words and as these covers, and over the moving ranges
unfoldable pub covers : ℕ → (ℕ → ℕ) → (ℕ → Cover) → List (List Cover) → (Cover → ℕ) → ℕ
covers n pin cover ms F = below (λ r. weight (pin r) * F (cover r)) n + total (total F) ms

-- F added up over all covers
abbrev pub all_of : Sizes → RoomMemory → (ℕ → List ℕ) → List RoomHolds → (Cover → ℕ) → ℕ
all_of z m content hs F = covers z.chunks m.pin (cover_at m content) (map moving_of hs) F

-- f added up over the entries of a cover
abbrev pub each : (Span → Entry → ℕ) → Cover → ℕ
each f c = total (f c.span) c.entries

-- What is added up.

-- 1 where the key is in the range
abbrev pub is_in : ℕ → Cover → ℕ
is_in k c = within c.span k

-- the base, where the key is in the range
abbrev pub base_for : ℕ → Cover → ℕ
base_for k c = within c.span k * c.span.base

-- 1 where the entry has the key
abbrev pub has_key : ℕ → Span → Entry → ℕ
has_key k s x = one_at x.key k

-- the value word plus one of an entry of the key
abbrev pub word_for : ℕ → Span → Entry → ℕ
word_for k s x = one_at x.key k * (x.value + 1)

-- 1 where the value word names the header
abbrev pub names : ℕ → ℕ → ℕ
names h v = names_header v * one_at (header_in v) h

-- 1 where the entry names the header
abbrev pub naming : ℕ → Span → Entry → ℕ
naming h s x = names h x.value

-- 1 where the range ends at or before the least key, so that it has no key
abbrev pub keyless : Span → ℕ
keyless s = past_high s.high least_number

-- 1 where the entry's key is outside the range
abbrev pub stray : Span → Entry → ℕ
stray s x = 1 - within s x.key

-- 1 where the entry has the block that key words name for which `names_it` is 1; a key word of 0 names none
abbrev pub owning : (ℕ → ℕ) → Span → Entry → ℕ
owning names_it s x = one_if (nat_lt 0 x.word) * names_it x.word

-- The sums that are looked up.

-- the value word plus one of the entry of a key, or 0 where it has none
abbrev pub word_of : Sizes → RoomMemory → (ℕ → List ℕ) → List RoomHolds → ℕ → ℕ
word_of z m content hs k = all_of z m content hs (each (word_for k))

-- the base of the key's cover
abbrev pub base_of : Sizes → RoomMemory → (ℕ → List ℕ) → List RoomHolds → ℕ → ℕ
base_of z m content hs k = all_of z m content hs (base_for k)

-- how many entries in use, of open and frozen rooms, and carried ones have the block
abbrev pub owners_in_rooms : Sizes → RoomMemory → (ℕ → List ℕ) → List RoomHolds → (ℕ → ℕ) → ℕ
owners_in_rooms z m content hs names_it = covers z.chunks m.pin (used_at m content) (map moving_of hs) (each (owning names_it))

-- What is used of a table.
use Rattle.std.specs.Prelude.{ℕ, ◌==◌, ◌&&◌, not, Bool, count_ones}
use Rattle.pin_word.specs.PinWord.{state_of, count_of}
use Rattle.oak_model.specs.declared.limits.TheConstants.{CLASSES}
use Rattle.oak_model.specs.declared.shapes.Usage.{Usage}
use Rattle.oak_model.specs.Limits.{Sizes}
use Rattle.oak_model.specs.Counts.{one_if, below, rows}
use Rattle.arena_core.specs.Arena.{bit_words}
use Rattle.header_core.specs.declared.states.TheConstants as header
use Rattle.chunk_core.specs.declared.states.TheConstants as room
use Rattle.oak_core.specs.Memory.{Memory}

-- the set bits of a class
abbrev pub used_blocks : Sizes → Memory → ℕ → ℕ
used_blocks z m c = below (λ i. count_ones (m.arena.bits c i)) (bit_words z c)

-- the header is in the free state, and no pin stands on it
abbrev pub is_free : ℕ → Bool
is_free w = (state_of w == header.FREE) && (count_of w == 0)

abbrev pub used_headers : Sizes → Memory → ℕ
used_headers z m = below (λ h. one_if (not (is_free (m.headers.pin h)))) z.headers

abbrev pub is_open : ℕ → Bool
is_open w = state_of w == room.OPEN

-- the open rooms
abbrev pub used_chunks : Sizes → Memory → ℕ
used_chunks z m = below (λ r. one_if (is_open (m.rooms.pin r))) z.chunks

abbrev pub usage_of : Sizes → Memory → Usage
usage_of z m = record { blocks = rows 0 CLASSES (used_blocks z m); headers = used_headers z m; chunks = used_chunks z m }

-- Where the parts of a table begin.
use Rattle.std.specs.Prelude.{ℕ, ◌+◌}
use Rattle.oak_model.specs.declared.limits.TheConstants.{CLASSES}
use Rattle.oak_model.specs.Counts.{below, rows}
use Rattle.oak_model.specs.Limits.{Sizes}
use Rattle.arena_core.specs.Arena.{bit_words, byte_words}
use Rattle.chunk_core.specs.Rooms.{room_width}
use Rattle.oak_core.specs.declared.offsets.Offsets.{Offsets}
use Rattle.oak_core.specs.Memory.{headers_at, rooms_at}

-- the bits of a class lie behind word 0 and the bits of the classes below it
abbrev pub bits_begin : Sizes → ℕ → ℕ
bits_begin z c = 1 + below (bit_words z) c

-- its bytes lie behind all bits and the bytes of the classes below it
abbrev pub bytes_begin : Sizes → ℕ → ℕ
bytes_begin z c = 1 + below (bit_words z) CLASSES + below (byte_words z) c

abbrev pub offsets_of : Sizes → Offsets
offsets_of z = record { bits = rows 0 CLASSES (bits_begin z); bytes = rows 0 CLASSES (bytes_begin z); headers = headers_at z; rooms = rooms_at z; room_width = room_width z }

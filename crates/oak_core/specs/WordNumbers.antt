-- Where each word of the table lies, with the numbers written out, for a shape with a blocks of 16 bytes, b of 64, c of 256 and d of 1,024.
use Rattle.std.specs.Prelude.{◌≡◌, ℕ, ◌+◌, ◌*◌, ◌/◌}
use Rattle.oak_model.specs.Limits.{Sizes}
use Rattle.arena_core.specs.Arena.{at_bits, at_bytes}
use Rattle.header_core.specs.Headers.{at_pin, at_place, at_stamp}
use Rattle.chunk_core.specs.Rooms.{at_room_pin, at_base, at_count, at_latch, at_first, at_low, at_high, at_key, at_value, at_next}
use Rattle.oak_core.specs.Memory.{at_given, in_arena, in_headers, in_rooms, index, word_count}

-- how many words hold the bits of so many blocks
abbrev pub words_of_bits : ℕ → ℕ
words_of_bits n = (n + 63) / 64

-- where the bytes of the blocks begin, then the headers, then the rooms
abbrev pub bytes_from : (a b c d : ℕ) → ℕ
bytes_from a b c d = 1 + words_of_bits a + words_of_bits b + words_of_bits c + words_of_bits d

abbrev pub headers_from : (a b c d : ℕ) → ℕ
headers_from a b c d = bytes_from a b c d + 2 * a + 8 * b + 32 * c + 128 * d

abbrev pub rooms_from : (a b c d headers : ℕ) → ℕ
rooms_from a b c d headers = headers_from a b c d + 3 * headers

-- where the room r begins, of a shape with so many headers and entries
abbrev pub room_from : (a b c d headers entries r : ℕ) → ℕ
room_from a b c d headers entries r = rooms_from a b c d headers + r * (23 + 3 * entries)

pub record WordNumbers (z : Sizes) (a b c d : ℕ) : Type 0 where
  pub given : index z at_given ≡ 0
  pub bits_of_16 : (i : ℕ) → index z (in_arena (at_bits 0 i)) ≡ 1 + i
  pub bits_of_64 : (i : ℕ) → index z (in_arena (at_bits 1 i)) ≡ 1 + words_of_bits a + i
  pub bits_of_256 : (i : ℕ) → index z (in_arena (at_bits 2 i)) ≡ 1 + words_of_bits a + words_of_bits b + i
  pub bits_of_1024 : (i : ℕ) → index z (in_arena (at_bits 3 i)) ≡ 1 + words_of_bits a + words_of_bits b + words_of_bits c + i
  pub bytes_of_16 : (n k : ℕ) → index z (in_arena (at_bytes 0 n k)) ≡ bytes_from a b c d + n * 2 + k
  pub bytes_of_64 : (n k : ℕ) → index z (in_arena (at_bytes 1 n k)) ≡ bytes_from a b c d + 2 * a + n * 8 + k
  pub bytes_of_256 : (n k : ℕ) → index z (in_arena (at_bytes 2 n k)) ≡ bytes_from a b c d + 2 * a + 8 * b + n * 32 + k
  pub bytes_of_1024 : (n k : ℕ) → index z (in_arena (at_bytes 3 n k)) ≡ bytes_from a b c d + 2 * a + 8 * b + 32 * c + n * 128 + k
  pub header_pin : (h : ℕ) → index z (in_headers (at_pin h)) ≡ headers_from a b c d + 3 * h
  pub header_place : (h : ℕ) → index z (in_headers (at_place h)) ≡ headers_from a b c d + 3 * h + 1
  pub header_stamp : (h : ℕ) → index z (in_headers (at_stamp h)) ≡ headers_from a b c d + 3 * h + 2
  pub room_pin : (r : ℕ) → index z (in_rooms (at_room_pin r)) ≡ room_from a b c d z.headers z.entries r
  pub room_base : (r : ℕ) → index z (in_rooms (at_base r)) ≡ room_from a b c d z.headers z.entries r + 1
  pub room_count : (r : ℕ) → index z (in_rooms (at_count r)) ≡ room_from a b c d z.headers z.entries r + 2
  pub room_latch : (r : ℕ) → index z (in_rooms (at_latch r)) ≡ room_from a b c d z.headers z.entries r + 3
  pub first_link : (r : ℕ) → index z (in_rooms (at_first r)) ≡ room_from a b c d z.headers z.entries r + 4
  pub low_bound : (r j : ℕ) → index z (in_rooms (at_low r j)) ≡ room_from a b c d z.headers z.entries r + 5 + j
  pub high_bound : (r j : ℕ) → index z (in_rooms (at_high r j)) ≡ room_from a b c d z.headers z.entries r + 14 + j
  pub entry_key : (r i : ℕ) → index z (in_rooms (at_key r i)) ≡ room_from a b c d z.headers z.entries r + 23 + 3 * i
  pub entry_value : (r i : ℕ) → index z (in_rooms (at_value r i)) ≡ room_from a b c d z.headers z.entries r + 23 + 3 * i + 1
  pub entry_next : (r i : ℕ) → index z (in_rooms (at_next r i)) ≡ room_from a b c d z.headers z.entries r + 23 + 3 * i + 2
  pub words : word_count z ≡ rooms_from a b c d z.headers + z.chunks * (23 + 3 * z.entries)

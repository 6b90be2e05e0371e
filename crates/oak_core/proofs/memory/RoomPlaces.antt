-- Where the words of the rooms lie among the words of the table.
use Rattle.std.proofs.Common.{◌≡◌, ℕ, ◌+◌, ◌*◌, ◌<◌, ap, arith}
use Rattle.std.proofs.lemmas.Nat.{mul-add-lt}
use Rattle.oak_model.specs.Limits.{Sizes}
use Rattle.chunk_core.specs.Rooms.{RoomSpot, at_room_pin, at_base, at_count, at_latch, at_first, at_low, at_high, at_key, at_value, at_next, room_at, place_in_room, room_width, room_index}
use Rattle.oak_core.specs.Memory.{in_rooms, rooms_at, word_count, index}

pub room_place : (z : Sizes) (r : ℕ) → rooms_at z + r * room_width z ≡ index z (in_rooms (at_room_pin r))
unfolding index room_index place_in_room
room_place z r = ap (λ (n : ℕ). rooms_at z + n) (let x : ℕ = r * room_width z in let e : x ≡ x + 0 = omega arith in e)

-- a word lies behind the pin word of its room
pub behind_pin : (z : Sizes) (p : RoomSpot) → index z (in_rooms (at_room_pin (room_at p))) + place_in_room p ≡ index z (in_rooms p)
unfolding index room_index place_in_room
behind_pin z p = let x : ℕ = room_at p * room_width z in let y : ℕ = rooms_at z in let k : ℕ = place_in_room p in let e : y + (x + 0) + k ≡ y + (x + k) = omega arith in e

-- and in front of the end of the table
pub behind_below : (z : Sizes) (r place : ℕ) → r < z.chunks → place < room_width z → index z (in_rooms (at_room_pin r)) + place < word_count z
behind_below z r place inside lt = let e = room_place z r in let m = mul-add-lt r (room_width z) place z.chunks inside lt in let x : ℕ = r * room_width z in let y : ℕ = z.chunks * room_width z in let w : room_width z * z.chunks ≡ y = omega arith in omega arith

module _ (z : Sizes) (r : ℕ) where
  pub base_behind : index z (in_rooms (at_room_pin r)) + 1 ≡ index z (in_rooms (at_base r))
  unfolding place_in_room
  base_behind = behind_pin z (at_base r)

  pub count_behind : index z (in_rooms (at_room_pin r)) + 2 ≡ index z (in_rooms (at_count r))
  unfolding place_in_room
  count_behind = behind_pin z (at_count r)

  pub latch_behind : index z (in_rooms (at_room_pin r)) + 3 ≡ index z (in_rooms (at_latch r))
  unfolding place_in_room
  latch_behind = behind_pin z (at_latch r)

  pub first_behind : index z (in_rooms (at_room_pin r)) + 4 ≡ index z (in_rooms (at_first r))
  unfolding place_in_room
  first_behind = behind_pin z (at_first r)

  pub low_behind : (j : ℕ) → index z (in_rooms (at_room_pin r)) + (5 + j) ≡ index z (in_rooms (at_low r j))
  unfolding place_in_room
  low_behind j = behind_pin z (at_low r j)

  pub high_behind : (j : ℕ) → index z (in_rooms (at_room_pin r)) + (14 + j) ≡ index z (in_rooms (at_high r j))
  unfolding place_in_room
  high_behind j = behind_pin z (at_high r j)

  pub key_behind : (i : ℕ) → index z (in_rooms (at_room_pin r)) + (23 + i * 3) ≡ index z (in_rooms (at_key r i))
  unfolding place_in_room
  key_behind i = behind_pin z (at_key r i)

  -- the other words of an entry lie behind its key word

  pub value_behind : (i : ℕ) → index z (in_rooms (at_key r i)) + 1 ≡ index z (in_rooms (at_value r i))
  unfolding place_in_room
  value_behind i = let k = key_behind i in let v = behind_pin z (at_value r i) in omega arith

  pub next_behind : (i : ℕ) → index z (in_rooms (at_key r i)) + 2 ≡ index z (in_rooms (at_next r i))
  unfolding place_in_room
  next_behind i = let k = key_behind i in let n = behind_pin z (at_next r i) in omega arith

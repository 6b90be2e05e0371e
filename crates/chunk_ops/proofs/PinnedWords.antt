-- Loads of the entries of a room that is searched.
use Rattle.std.proofs.Common.{◌≡◌, ℕ, ◌-◌, ◌*◌, ◌<◌, List, length, take, sym, ap, ◌∙◌, subst, arith, Option}
use Rattle.oak_model.specs.Limits.{Sizes}
use Rattle.oak_model.specs.WordBytes.{word_bytes}
use Rattle.arena_core.specs.Arena.{at_bytes, block_words, IsInArena}
use Rattle.arena_core.specs.Place.{class_in, block_in}
use Rattle.arena_core.specs.Words.{bytes_in}
use Rattle.chunk_core.specs.declared.holds.FoundEntry.{FoundEntry}
use Rattle.chunk_core.specs.Rooms.{at_key, IsInRooms}
use Rattle.oak_core.specs.declared.states.PassState.{PassState}
use Rattle.oak_core.specs.Memory.{in_arena, in_rooms}
use Rattle.oak_core.specs.Step.{load, Told}
use Rattle.chunk_ops.specs.PinRecords.{HasRoomPin, room_pin}
use Rattle.chunk_ops.specs.Room.{HasFound, key_at}
use Rattle.chunk_ops.specs.RoomLoads.{key_found, room_in}
use Rattle.chunk_ops.proofs.FoundEntries.{key_word_is}
use Rattle.chunk_ops.specs.FoundNumbers.{there, well_there, entry_there, place_there}
use Rattle.chunk_ops.proofs.KeyLoads.{part_found}

module _ (z : Sizes) (r i : ℕ) (v : PassState) (p : HasRoomPin z r v) (found : HasFound (room_in (room_pin v)) i) where
  abbrev k : List ℕ
  k = key_at (room_in (room_pin v)) i

  abbrev word : ℕ
  word = (there z r v p i found).entry.word

  pub entry_inside : IsInRooms z (at_key r i)
  entry_inside = let w = (well_there z r v p i found).number in let n = (there z r v p i found).number in (p.inside, omega arith)

  pub word_is : (call n : ℕ) (w : PassState) → Told z call (load (in_rooms (at_key r i))) v n w → n ≡ (room_in (room_pin v)).place i
  word_is call n w t = key_word_is z call r n v w p i k (entry_there z r v p i found) t ∙ sym (place_there z r v p i found)

  -- a word of the block that the entry's key word names is one of the table's
  pub named_inside : (place j : ℕ) → place ≡ (room_in (room_pin v)).place i → 8 * j < length (key_at (room_in (room_pin v)) i) → IsInArena z (at_bytes (class_in place) (block_in place) j)
  named_inside place j at few = subst (λ (y : ℕ). IsInArena z (at_bytes (class_in y) (block_in y) j)) (sym (at ∙ place_there z r v p i found))
      (let w = well_there z r v p i found in let room = w.room in let long = ap (λ (o : Option FoundEntry). length (key_found o)) (there z r v p i found).is in let b : ℕ = block_words (class_in word) in (w.class, w.block, (let q : j < b = omega arith in q)))

  -- and it has its part of the key
  pub block_is : (call n place j : ℕ) (w : PassState) → place ≡ (room_in (room_pin v)).place i → 8 * j < length (key_at (room_in (room_pin v)) i) → Told z call (load (in_arena (at_bytes (class_in place) (block_in place) j))) v n w
      → take (length (key_at (room_in (room_pin v)) i) - 8 * j) (word_bytes n) ≡ bytes_in j (key_at (room_in (room_pin v)) i)
  block_is call n place j w at few t = part_found z call r n v w p i k (entry_there z r v p i found) j few
      (subst (λ (y : ℕ). Told z call (load (in_arena (at_bytes (class_in y) (block_in y) j))) v n w) (at ∙ place_there z r v p i found) t)

-- The bounds of a room, and the keys that are loaded from them.
use Rattle.std.specs.Prelude.{◌≡◌, ℕ, List, take, drop, Option, Some, None}
use Rattle.oak_model.specs.Counts.{rows}
use Rattle.oak_model.specs.WordBytes.{bytes_of}
use Rattle.chunk_core.specs.declared.layout.TheConstants.{BOUND_WORDS}
use Rattle.chunk_core.specs.KeyWords.{high_bytes}
use Rattle.chunk_core.specs.Rooms.{RoomMemory}
use Rattle.chunk_ops.specs.declared.stored.StoredKey.{StoredKey}
use Rattle.chunk_ops.specs.Stored.{IsStored}
use Rattle.rebalance.specs.declared.ranges.Bound.{Bound}
use Rattle.rebalance.specs.declared.ranges.Bound.TheVariants.{Low, High}
use Rattle.rebalance.specs.declared.held_rooms.RoomWord.{RoomWord}
use Rattle.rebalance.specs.declared.held_rooms.RoomWord.TheVariants as room_word

-- word j of a bound
abbrev pub word_of_bound : Bound → ℕ → RoomWord
word_of_bound Low j = room_word.Low j
word_of_bound High j = room_word.High j

-- the words of the low bound of a room
abbrev pub low_words : RoomMemory → ℕ → List ℕ
low_words m r = rows 0 BOUND_WORDS (m.low r)

-- the words of its high bound
abbrev pub high_words : RoomMemory → ℕ → List ℕ
high_words m r = rows 0 BOUND_WORDS (m.high r)

-- those of either
abbrev pub bound_words : Bound → RoomMemory → ℕ → List ℕ
bound_words Low m r = low_words m r
bound_words High m r = high_words m r

-- the first n bytes of a bound, which stand behind its first word
abbrev pub bound_bytes : ℕ → List ℕ → List ℕ
bound_bytes n ws = take n (bytes_of (drop 1 ws))

-- the bound has a key, and this is it
pub record IsKeyOf (ws : List ℕ) (k : StoredKey) : Type 0 where
  pub bytes : List ℕ
  pub are : high_bytes ws ≡ Some bytes
  pub stored : IsStored k bytes

-- the key of a high bound, where there is one
abbrev pub IsHighKey : List ℕ → Option StoredKey → Type 0
IsHighKey ws None = high_bytes ws ≡ None
IsHighKey ws (Some k) = IsKeyOf ws k

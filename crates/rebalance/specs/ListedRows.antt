-- The rooms that a pass has, without their words, and copies that have the same words.
use Rattle.std.specs.Prelude.{◌≡◌, ℕ, List, map, slice_index}
use Rattle.chunk_core.specs.declared.holds.HeldRoom.{HeldRoom}
use Rattle.chunk_core.specs.declared.holds.RoomCopy.{RoomCopy}
use Rattle.chunk_core.specs.RoomRule.{room_state}
use Rattle.rebalance.specs.Mirrors.{entry_words}

-- a room that a pass has, and its state
abbrev pub row_of : HeldRoom → ℕ × ℕ
row_of h = (h.room, room_state h.held_as)

-- the rooms that it has, each with its state, in their order
abbrev pub rows_of : List HeldRoom → List (ℕ × ℕ)
rows_of hs = map row_of hs

-- each word of the second copy is that of the first
pub record SameWords (w x : RoomCopy) : Type 0 where
  pub base : x.base ≡ w.base
  pub count : x.count ≡ w.count
  pub latch : x.latch ≡ w.latch
  pub first : x.first ≡ w.first
  pub low : (j : ℕ) → slice_index x.low j ≡ slice_index w.low j
  pub high : (j : ℕ) → slice_index x.high j ≡ slice_index w.high j
  pub key : (i : ℕ) → entry_words x i (λ e. e.word) ≡ entry_words w i (λ e. e.word)
  pub value : (i : ℕ) → entry_words x i (λ e. e.value) ≡ entry_words w i (λ e. e.value)
  pub next : (i : ℕ) → entry_words x i (λ e. e.next) ≡ entry_words w i (λ e. e.next)

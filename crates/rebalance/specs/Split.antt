-- A held room that was split into two.
use Rattle.std.specs.Prelude.{◌≡◌, ◌≢◌, ℕ, ◌+◌, ◌<◌, List}
use Rattle.chunk_core.specs.declared.layout.TheConstants.{BOUND_WORDS}
use Rattle.chunk_core.specs.Rooms.{RoomMemory}
use Rattle.chunk_ops.specs.declared.stored.StoredKey.{StoredKey}
use Rattle.oak_core.specs.declared.sorting.SortSlot.{SortSlot}
use Rattle.rebalance.specs.Bounds.{bound_word}
use Rattle.rebalance.specs.Filled.{IsFilled}

-- The lower room, of e entries as the upper one, has these entries up to the key, the upper one the others from the key on and up to the old high bound; both have this base, and no other room was changed.
pub record Splits (e low high : ℕ) (below above : List SortSlot) (k : StoredKey) (shared : ℕ) (m m' : RoomMemory) : Type 0 where
  pub low_filled : IsFilled e low below shared m'
  pub high_filled : IsFilled e high above shared m'
  pub lower : (j : ℕ) → m'.low low j ≡ m.low low j
  pub middle_high : (j : ℕ) → j < BOUND_WORDS → m'.high low j ≡ bound_word (k.length + 1) k.words j
  pub middle_low : (j : ℕ) → j < BOUND_WORDS → m'.low high j ≡ bound_word k.length k.words j
  pub upper : (j : ℕ) → j < BOUND_WORDS → m'.high high j ≡ m.high low j
  pub pin : m'.pin ≡ m.pin
  pub latch : m'.latch ≡ m.latch
  pub low_kept : (q j : ℕ) → q ≢ low → q ≢ high → m'.low q j ≡ m.low q j
  pub high_kept : (q j : ℕ) → q ≢ low → q ≢ high → m'.high q j ≡ m.high q j
  pub key : (q j : ℕ) → q ≢ low → q ≢ high → m'.key q j ≡ m.key q j
  pub value : (q j : ℕ) → q ≢ low → q ≢ high → m'.value q j ≡ m.value q j
  pub next : (q j : ℕ) → q ≢ low → q ≢ high → m'.next q j ≡ m.next q j
  pub base : (q : ℕ) → q ≢ low → q ≢ high → m'.base q ≡ m.base q
  pub count : (q : ℕ) → q ≢ low → q ≢ high → m'.count q ≡ m.count q
  pub first : (q : ℕ) → q ≢ low → q ≢ high → m'.first q ≡ m.first q

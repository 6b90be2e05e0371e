-- A held room whose entries without a value are dropped, and the ranges that carried these.
use Rattle.std.specs.Prelude.{◌≡◌, ℕ, ◌<◌, ◌≤◌, List, [], ◌∷◌}
use Rattle.chunk_core.specs.declared.holds.MovingRange.{MovingRange}
use Rattle.chunk_core.specs.MovingRanges.{ranges_with}
use Rattle.chunk_core.specs.Rooms.{RoomMemory}
use Rattle.chunk_core.specs.ValueWord.{names_header}
use Rattle.rebalance.specs.declared.entries.Entry.{Entry}

-- the ranges once the entries' key words were taken away, one after the other
unfoldable pub dropped_ranges : List Entry → List MovingRange → List MovingRange
dropped_ranges [] gs = gs
dropped_ranges (e ∷ es) gs = dropped_ranges es (ranges_with e.place gs)

-- Of the first n entries of room r those without a value have the key word 0, and all else is as before.
pub record DropsKeys (r n : ℕ) (m m' : RoomMemory) : Type 0 where
  pub pin : m'.pin ≡ m.pin
  pub base : m'.base ≡ m.base
  pub count : m'.count ≡ m.count
  pub latch : m'.latch ≡ m.latch
  pub first : m'.first ≡ m.first
  pub low : m'.low ≡ m.low
  pub high : m'.high ≡ m.high
  pub value : m'.value ≡ m.value
  pub next : m'.next ≡ m.next
  pub others : (q j : ℕ) → (q ≡ r → n ≤ j) → m'.key q j ≡ m.key q j
  pub valued : (j : ℕ) → j < n → names_header (m.value r j) ≡ 1 → m'.key r j ≡ m.key r j
  pub gone : (j : ℕ) → j < n → names_header (m.value r j) ≡ 0 → m'.key r j ≡ 0

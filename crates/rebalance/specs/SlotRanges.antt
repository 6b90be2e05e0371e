-- Sorted slots that have the entries of a moving range, and a room that has its bounds.
use Rattle.std.specs.Prelude.{◌≡◌, ℕ, List, map, slice_index}
use Rattle.oak_model.specs.Counts.{rows, Has}
use Rattle.chunk_core.specs.declared.holds.Carried.{Carried}
use Rattle.chunk_core.specs.declared.holds.MovingRange.{MovingRange}
use Rattle.chunk_core.specs.declared.layout.TheConstants.{BOUND_WORDS}
use Rattle.chunk_core.specs.RoomRule.{AreBounds}
use Rattle.chunk_core.specs.Rooms.{RoomMemory}
use Rattle.chunk_core.specs.ValueWord.{names_header}
use Rattle.oak_core.specs.declared.sorting.SortSlot.{SortSlot}
use Rattle.rebalance.specs.CarriedKeys.{HaveKeys}
use Rattle.rebalance.specs.Compacted.{KeysRise}
use Rattle.rebalance.specs.DroppedRange.{sum_of, sum_carried}
use Rattle.rebalance.specs.Slots.{entry_of}

-- The slots have the range's entries, each with a value, in the order of their keys.
pub record SlotsHave (keys : ℕ → List ℕ) (xs : List SortSlot) (g : MovingRange) : Type 0 where
  pub sums : (f : ℕ → ℕ → ℕ) → sum_of f (map entry_of xs) ≡ sum_carried f g.carried
  pub rise : KeysRise keys xs
  pub have : HaveKeys keys g.carried
  pub valued : (c : Carried) → Has c g.carried → names_header c.value ≡ 1

-- The room has the range's bounds, and the word that was its latch is 0.
pub record BoundsAre (m : RoomMemory) (r : ℕ) (g : MovingRange) : Type 0 where
  pub low : rows 0 BOUND_WORDS (m.low r) ≡ g.low
  pub high : rows 0 BOUND_WORDS (m.high r) ≡ g.high
  pub latch : m.latch r ≡ 0
  pub fit : AreBounds (slice_index g.low 0) (slice_index g.high 0)

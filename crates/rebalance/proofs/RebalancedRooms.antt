-- What compacting, splitting and merging leave, as their functions say it: the rooms may be opened over the ranges of the pass.
use Rattle.std.proofs.Common.{◌≡◌, ℕ, ◌+◌, ◌≤◌, true, List, map, take, length, ap, refl}
use Rattle.oak_model.specs.declared.limits.TheConstants.{GREATEST_ENTRIES}
use Rattle.oak_model.specs.Limits.{Sizes}
use Rattle.chunk_core.specs.declared.holds.MovingRange.{MovingRange}
use Rattle.chunk_core.specs.MovingRanges.{greater, is_below, joined_by}
use Rattle.chunk_core.specs.RoomReads.{copy_at}
use Rattle.chunk_core.specs.Rooms.{RoomMemory}
use Rattle.oak_core.specs.declared.sorting.SortSlot.{SortSlot}
use Rattle.rebalance.specs.declared.reading.Read.{Read}
use Rattle.rebalance.specs.CarriedKeys.{HaveKeys}
use Rattle.rebalance.specs.Compacted.{linked_in, ReadsSorted, IsCompacted}
use Rattle.rebalance.specs.DroppedRange.{dropped_range, WordsDiffer}
use Rattle.rebalance.specs.Entries.{entries, dropped}
use Rattle.rebalance.specs.Filled.{AreBare, Appends}
use Rattle.rebalance.specs.Mirrors.{Mirrors, RangeStands}
use Rattle.rebalance.specs.SlotRanges.{SlotsHave, BoundsAre}
use Rattle.rebalance.specs.Slots.{entry_of}
use Rattle.rebalance.proofs.CompactedMirrors.{slots_have, bounds_still, compacted_mirrors, used_sum}
use Rattle.rebalance.proofs.MergedMirrors.{appended_filled, merged_mirrors}
use Rattle.rebalance.proofs.MirroredEntries.{dropped_stands}

-- A room that mirrors the range g was read, and its entries sorted.
module _ (z : Sizes) (limit : z.entries ≤ GREATEST_ENTRIES) (m : RoomMemory) (r : ℕ) (g : MovingRange) (mirrors : Mirrors z (copy_at z m r) g) (stands : RangeStands g) (differ : WordsDiffer g) (keys : ℕ → List ℕ) (have : HaveKeys keys g.carried) (slots : List SortSlot) (x : Read) (reads : ReadsSorted keys m r slots x) where
  -- what is left of the range
  abbrev left : MovingRange
  left = dropped_range (dropped (linked_in m r)) g

  -- the slots have that
  pub read_slots : SlotsHave keys (take x.kept slots) (dropped_range (dropped (linked_in m r)) g)
  read_slots = slots_have z m r g mirrors stands differ keys have (take x.kept slots) reads.same reads.rise

  pub left_stands : RangeStands (dropped_range (dropped (linked_in m r)) g)
  left_stands = dropped_stands (linked_in m r) g stands differ (used_sum z m r g mirrors stands differ)

  -- once it is filled with them, it mirrors what is left
  pub compacted : (n : ℕ) (m' : RoomMemory) → IsCompacted z.entries r n (take x.kept slots) x.base m m' → Mirrors z (copy_at z m' r) (dropped_range (dropped (linked_in m r)) g)
  compacted n m' c = compacted_mirrors z m r g mirrors stands differ keys have (take x.kept slots) reads.same x.base n c.between m' limit reads.rise reads.base c.drops c.fills

-- A room with the entries of the range h, behind which those of the range g just above it were stored, with the high bound of that and the greater base.
pub merged : (z : Sizes) (limit : z.entries ≤ GREATEST_ENTRIES) (m m' : RoomMemory) (r : ℕ) (keys : ℕ → List ℕ) (ys xs : List SortSlot) (g h : MovingRange) (base : ℕ) → RangeStands g → RangeStands h → is_below g h ≡ true → SlotsHave keys ys h → SlotsHave keys xs g
    → entries m r (length ys) ≡ map entry_of ys → AreBare z.entries r (length ys) m → Appends r (length ys) xs base m m' → length ys + length xs ≤ z.entries → base ≡ greater g.base h.base → BoundsAre m r (joined_by g h) → Mirrors z (copy_at z m' r) (joined_by g h)
merged z limit m m' r keys ys xs g h base stands_g stands_h below lower upper own bare a few base_is bounds = let b = a.bounds_kept in
    merged_mirrors z m' r keys ys xs g h base limit stands_g stands_h below lower upper (appended_filled z.entries r ys xs base m m' own bare a) few base_is
    (bounds_still m m' r (joined_by g h) (joined_by g h) bounds (ap (λ (f : ℕ → ℕ → ℕ). f r) b.low) (ap (λ (f : ℕ → ℕ → ℕ). f r) b.high) (ap (λ (f : ℕ → ℕ). f r) b.latch) refl refl)

-- Each entry that the ranges of a pass carry has a value, once the others were dropped.
use Rattle.std.proofs.Common.{◌≡◌, ℕ, List, ◌∷◌, map, sym, ap, ◌∙◌, subst}
use Rattle.oak_model.specs.Counts.{Each}
use Rattle.oak_model.specs.Limits.{Sizes}
use Rattle.chunk_core.specs.declared.holds.Carried.{Carried}
use Rattle.chunk_core.specs.declared.holds.HeldRoom.{HeldRoom}
use Rattle.chunk_core.specs.declared.holds.MovingRange.{MovingRange}
use Rattle.chunk_core.specs.declared.holds.RoomCopy.{RoomCopy}
use Rattle.chunk_core.specs.ValueWord.{names_header}
use Rattle.oak_core.specs.declared.sorting.SortSlot.{SortSlot}
use Rattle.oak_core.specs.declared.states.PassState.{PassState}
use Rattle.rebalance.specs.declared.entries.Entry.{Entry}
use Rattle.rebalance.specs.declared.reading.Read.{Read}
use Rattle.rebalance.specs.Chunks.{HoldsFront, ReadsFront}
use Rattle.rebalance.specs.Compacted.{linked_in}
use Rattle.rebalance.specs.DroppedRange.{dropped_range}
use Rattle.rebalance.specs.Dropping.{dropped_ranges}
use Rattle.rebalance.specs.Entries.{dropped}
use Rattle.rebalance.specs.Halving.{HasWhole, HoldsPair}
use Rattle.rebalance.specs.HeldRooms.{AllValued}
use Rattle.rebalance.specs.Mirrors.{held_memory}
use Rattle.rebalance.proofs.CompactedMirrors.{used_sum}
use Rattle.rebalance.proofs.FrontCompacts.{all_stay}
use Rattle.rebalance.proofs.FrontRooms.{front_differ, front_mirrors, front_stands}
use Rattle.rebalance.proofs.HeldPairs.{whole_slots}
use Rattle.rebalance.proofs.MirroredEntries.{all_valued, dropped_each, each_of}

module _ (z : Sizes) (r : ℕ) (w : RoomCopy) (g : MovingRange) (hs : List HeldRoom) (gs : List MovingRange) (v : PassState) (f : HoldsFront z r w g hs gs v) (others : Each AllValued gs) where
  abbrev gone : List Entry
  gone = dropped (linked_in (held_memory v.rooms.held) r)

  front_left : AllValued (dropped_range gone g)
  front_left = let mirrors = front_mirrors z r w g hs gs v f in let stands = front_stands z r w g hs gs v f in let differ = front_differ z r w g hs gs v f in
      each_of (λ (c : Carried). names_header c.value ≡ 1) (dropped_range gone g).carried (all_valued (linked_in (held_memory v.rooms.held) r) g stands differ (used_sum z (held_memory v.rooms.held) r g mirrors stands differ))

  -- the front room's were dropped
  pub front_valued : Each AllValued (dropped_ranges (dropped (linked_in (held_memory v.rooms.held) r)) v.rooms.moving)
  front_valued = subst (λ (xs : List MovingRange). Each AllValued xs)
      (sym (dropped_each gone v.rooms.moving ∙ (ap (map (dropped_range gone)) f.moving ∙ ap (λ (l : List MovingRange). dropped_range gone g ∷ l) (all_stay gone gs others))))
      (front_left, others)

  -- it was read
  pub read_valued : (call : ℕ) (slots : List SortSlot) (x : Read) (u : PassState) → ReadsFront z call r slots x v u → Each AllValued u.rooms.moving
  read_valued call slots x u reads = subst (λ (xs : List MovingRange). Each AllValued xs) (sym reads.ranges) front_valued

-- the room was full, and another one was claimed
pub pair_valued : (z : Sizes) (r q : ℕ) (w c : RoomCopy) (g : MovingRange) (v : PassState) → HoldsPair z r q w c g v → (slots : List SortSlot) (x : Read) → HasWhole z r slots x v → Each AllValued v.rooms.moving
pair_valued z r q w c g v h slots x all = subst (λ (xs : List MovingRange). Each AllValued xs) (sym h.moving) (each_of (λ (y : Carried). names_header y.value ≡ 1) g.carried (whole_slots z r q w c g v h slots x all).valued, tt)

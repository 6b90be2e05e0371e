-- A compaction of the room that the pass came to hold last leaves it as such, with what is left of its range.
use Rattle.std.proofs.Common.{◌≡◌, ◌≢◌, ℕ, ◌≤◌, ◌==◌, cond, List, [], ◌∷◌, map, take, refl, sym, ap, ◌∙◌, subst}
use Rattle.oak_model.specs.declared.limits.TheConstants.{GREATEST_ENTRIES}
use Rattle.oak_model.specs.Counts.{Each}
use Rattle.oak_model.specs.Limits.{Sizes}
use Rattle.oak_model.proofs.Counting.{test-cases}
use Rattle.chunk_core.specs.MovingRanges.{range_without}
use Rattle.rebalance.specs.declared.entries.Entry.{Entry}
use Rattle.chunk_core.specs.declared.holds.HeldRoom.{HeldRoom}
use Rattle.chunk_core.specs.declared.holds.MovingRange.{MovingRange}
use Rattle.chunk_core.specs.declared.holds.RoomCopy.{RoomCopy}
use Rattle.chunk_core.specs.LinkedEntries.{entries_in}
use Rattle.chunk_core.specs.RoomReads.{copy_at}
use Rattle.chunk_core.specs.RoomRule.{IsWholeCopy}
use Rattle.chunk_core.specs.Rooms.{RoomMemory}
use Rattle.oak_core.specs.declared.sorting.SortSlot.{SortSlot}
use Rattle.oak_core.specs.declared.states.PassState.{PassState}
use Rattle.chunk_ops.specs.RoomPins.{HadMoment}
use Rattle.rebalance.specs.declared.reading.Read.{Read}
use Rattle.rebalance.specs.Chunks.{CompactsFront, HoldsFront, held_row, keys_in}
use Rattle.rebalance.specs.Compacted.{IsCompacted, ReadsSorted, linked_in}
use Rattle.rebalance.specs.DroppedRange.{dropped_range, range_with}
use Rattle.rebalance.specs.Dropping.{dropped_ranges}
use Rattle.rebalance.specs.Entries.{dropped}
use Rattle.rebalance.specs.Filled.{IsFilled}
use Rattle.rebalance.specs.HeldRooms.{AllValued}
use Rattle.rebalance.specs.HeldTables.{Apart, HoldsOnlyRooms, IsHeldRow, RowsStay, WorksOnRooms, key_of_entry, with_word}
use Rattle.rebalance.specs.Mirrors.{held_memory}
use Rattle.rebalance.specs.SlotRanges.{SlotsHave}
use Rattle.rebalance.specs.Slots.{AllNamed}
use Rattle.rebalance.proofs.FrontCompacts.{all_stay, kept_values, now_counted, now_rewritten, still_has, still_mirrors}
use Rattle.rebalance.proofs.HeldRows.{SameWords, rows_are}
use Rattle.rebalance.proofs.MirroredEntries.{dropped_each}
use Rattle.chunk_core.specs.declared.holds.Carried.{Carried}

-- the sizes of a table are within their limits at each moment
pub entries_limited : (z : Sizes) (v : PassState) → HadMoment z v → z.entries ≤ GREATEST_ENTRIES
entries_limited z v m = m.1.rule.sizes.entries_greatest

-- a pass that worked on its rooms holds nothing else still
pub only_still : (z : Sizes) (call : ℕ) (v u : PassState) → WorksOnRooms z call v u → HoldsOnlyRooms v → HoldsOnlyRooms u
only_still z call v u w o = record { blocks = w.blocks ∙ o.blocks; headers = w.headers ∙ o.headers; pin = w.pin ∙ o.pin; claim = w.claim ∙ o.claim }

-- a compaction of one room leaves the words of the others
pub compacted_else : (z : Sizes) (e r n : ℕ) (xs : List SortSlot) (base : ℕ) (m m' : RoomMemory) → IsCompacted e r n xs base m m' → (q : ℕ) → q ≢ r → SameWords z q m m'
compacted_else z e r n xs base m m' c q ne = let d = c.drops in let f = c.fills in record {
  base = f.counts_kept.base q ne ∙ ap (λ (g : ℕ → ℕ). g q) d.base;
  count = f.counts_kept.count q ne ∙ ap (λ (g : ℕ → ℕ). g q) d.count;
  latch = ap (λ (g : ℕ → ℕ). g q) (f.bounds_kept.latch ∙ d.latch);
  first = f.counts_kept.first q ne ∙ ap (λ (g : ℕ → ℕ). g q) d.first;
  low = λ j _. ap (λ (g : ℕ → ℕ → ℕ). g q j) (f.bounds_kept.low ∙ d.low);
  high = λ j _. ap (λ (g : ℕ → ℕ → ℕ). g q j) (f.bounds_kept.high ∙ d.high);
  key = λ i _. f.entries_kept.key q i (λ e. absurd (ne e)) ∙ d.others q i (λ e. absurd (ne e));
  value = λ i _. f.entries_kept.value q i (λ e. absurd (ne e)) ∙ ap (λ (g : ℕ → ℕ → ℕ). g q i) d.value;
  next = λ i _. f.entries_kept.next q i (λ e. absurd (ne e)) ∙ ap (λ (g : ℕ → ℕ → ℕ). g q i) d.next;
}

-- the room that the first range came with
abbrev first_origin : List MovingRange → ℕ
first_origin [] = 0
first_origin (g ∷ gs) = g.room

-- a range comes with the room that it came with, whatever is dropped
dropped_origin : (es : List Entry) (g : MovingRange) → (dropped_range es g).room ≡ g.room
unfolding dropped_range
dropped_origin [] g = refl
dropped_origin (e ∷ es) g = dropped_origin es (range_with e.place g) ∙ test-cases (e.place == 0) (λ b. (cond b g (range_without e.place g)).room ≡ g.room) (λ _. refl) (λ _. refl)

module _ (z : Sizes) (call r : ℕ) (w : RoomCopy) (g : MovingRange) (hs : List HeldRoom) (gs : List MovingRange) (v : PassState) (f : HoldsFront z r w g hs gs v) (others : Each AllValued gs) (rows : Each (IsHeldRow z) hs) (several : Apart hs)
    (u : PassState) (works : WorksOnRooms z call v u) (slots : List SortSlot) (x : Read) (ranges : u.rooms.moving ≡ dropped_ranges (dropped (linked_in (held_memory v.rooms.held) r)) v.rooms.moving) (read : ReadsSorted (keys_in v.rooms.moving) (held_memory v.rooms.held) r slots x)
    (compacts : IsCompacted z.entries r (entries_in ((held_memory v.rooms.held).count r)) (take x.kept slots) x.base (held_memory v.rooms.held) (held_memory u.rooms.held)) where
  abbrev limit : z.entries ≤ GREATEST_ENTRIES
  limit = entries_limited z v f.moment

  abbrev words : RoomCopy
  words = copy_at z (held_memory u.rooms.held) r

  abbrev range : MovingRange
  range = dropped_range (dropped (linked_in (held_memory v.rooms.held) r)) g

  now_rows : (u.rooms.held ≡ held_row r (copy_at z (held_memory u.rooms.held) r) ∷ hs) × IsWholeCopy z (copy_at z (held_memory u.rooms.held) r)
  now_rows = rows_are z r w hs u.rooms.held f.whole rows f.apart several (subst (λ (vs : List HeldRoom). RowsStay z vs u.rooms.held) f.held works.rows)
      (λ q ne _. subst (λ (vs : List HeldRoom). SameWords z q (held_memory vs) (held_memory u.rooms.held)) f.held (compacted_else z z.entries r (entries_in ((held_memory v.rooms.held).count r)) (take x.kept slots) x.base (held_memory v.rooms.held) (held_memory u.rooms.held) compacts q ne))

  now_front : HoldsFront z r words range hs gs u
  now_front = record {
    inside = f.inside;
    held = now_rows.0;
    moving = ranges ∙ (dropped_each (dropped (linked_in (held_memory v.rooms.held) r)) v.rooms.moving ∙ (ap (map (dropped_range (dropped (linked_in (held_memory v.rooms.held) r)))) f.moving ∙ ap (λ (l : List MovingRange). range ∷ l) (all_stay (dropped (linked_in (held_memory v.rooms.held) r)) gs others)));
    apart = f.apart;
    only = only_still z call v u works f.only;
    whole = now_rows.1;
    mirrors = still_mirrors z limit r w g hs gs v f slots x read (held_memory u.rooms.held) compacts;
    moment = works.moment f.moment;
  }

  pub front_compacts : AllNamed (take x.kept slots) → CompactsFront z call r x.dropped (take x.kept slots) w hs gs v u
  front_compacts named = record {
    words = words;
    range = range;
    front = now_front;
    origin = λ h e. dropped_origin (dropped (linked_in (held_memory v.rooms.held) r)) g ∙ ap first_origin (sym f.moving ∙ e);
    works = works;
    rewritten = now_rewritten z limit r w g hs gs v f slots x read (held_memory u.rooms.held) compacts;
    kept_is = kept_values z limit r w g hs gs v f slots x read (held_memory u.rooms.held) compacts;
    count_is = now_counted z limit r w g hs gs v f slots x read (held_memory u.rooms.held) compacts;
    has = subst (λ (cs : List Carried). SlotsHave (λ k. key_of_entry (with_word k cs)) (take x.kept slots) range) (sym works.carried) (still_has z limit r w g hs gs v f slots x read (held_memory u.rooms.held) compacts);
    filled = subst (λ (b : ℕ). IsFilled z.entries r (take x.kept slots) b (held_memory u.rooms.held)) (sym compacts.fills.filled.base_is) compacts.fills.filled;
    named = named;
  }

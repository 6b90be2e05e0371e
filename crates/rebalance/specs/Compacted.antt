-- A held room whose entries are read and sorted, and what it has before that.
use Rattle.std.specs.Prelude.{◌≡◌, ◌≢◌, ℕ, ◌+◌, ◌/◌, ◌<◌, ◌≤◌, List, map, take, length}
use Rattle.std.specs.List.{slice_index_or}
use Rattle.std.specs.List.Sorted.{IsPermutation}
use Rattle.oak_model.specs.Counts.{one_if, total}
use Rattle.oak_model.specs.Key.{IsKeyBefore, same_key}
use Rattle.chunk_core.specs.declared.holds.MovingRange.{MovingRange}
use Rattle.chunk_core.specs.LinkedEntries.{entries_in, linked}
use Rattle.chunk_core.specs.Rooms.{RoomMemory}
use Rattle.chunk_core.specs.ValueWord.{names_header}
use Rattle.chunk_ops.specs.Stored.{IsStored}
use Rattle.oak_core.specs.declared.sorting.SortSlot.{SortSlot}
use Rattle.rebalance.specs.declared.entries.Entry.{Entry}
use Rattle.rebalance.specs.declared.reading.Read.{Read}
use Rattle.rebalance.specs.Dropping.{DropsKeys}
use Rattle.rebalance.specs.Entries.{AreValued, kept, dropped, greatest, linked_among}
use Rattle.rebalance.specs.Filled.{Fills}
use Rattle.rebalance.specs.HeldRooms.{IsLoose}
use Rattle.rebalance.specs.Slots.{entry_of, key_of}

-- the linked entries
abbrev pub linked_in : RoomMemory → ℕ → List Entry
linked_in m r = linked_among m r (entries_in (m.count r))

-- 1 where the entry is of the key
abbrev pub is_of : (ℕ → List ℕ) → List ℕ → Entry → ℕ
is_of keys k e = one_if (same_key k (keys e.place))

-- the keys of the entries that links reach strictly rise along the links
abbrev pub KeysRiseAlong : (ℕ → List ℕ) → RoomMemory → ℕ → Type 0
KeysRiseAlong keys m r = (i j d : ℕ) → i < j → j < length (linked m r) → IsKeyBefore (keys (m.key r (slice_index_or (linked m r) i d))) (keys (m.key r (slice_index_or (linked m r) j d)))

-- Of the linked ones of the first n entries each with a value names a key, and no two the same; each without a value may be dropped; and no two have one key word. Where each has a value, their keys rise along the links.
pub record IsHeldRoom (names : ℕ → Type 0) (keys : ℕ → List ℕ) (gs : List MovingRange) (m : RoomMemory) (r n : ℕ) : Type 0 where
  pub named : (i : ℕ) → i < n → 0 < m.key r i → names_header (m.value r i) ≡ 1 → names (m.key r i)
  pub distinct : (k : List ℕ) → total (is_of keys k) (kept (linked_among m r n)) ≤ 1
  pub loose : (i : ℕ) → i < n → 0 < m.key r i → names_header (m.value r i) ≡ 0 → IsLoose (m.key r i) gs
  pub apart : (i j : ℕ) → i < j → j < n → 0 < m.key r i → m.key r i ≢ m.key r j
  pub along : AreValued m r n → KeysRiseAlong keys m r

-- the keys of the slots' entries strictly rise
abbrev pub KeysRise : (ℕ → List ℕ) → List SortSlot → Type 0
KeysRise keys xs = (i j : ℕ) (d : SortSlot) → i < j → j < length xs → IsKeyBefore (keys (slice_index_or xs i d).key) (keys (slice_index_or xs j d).key)

-- The first slots have the linked entries with a value, in the order of their keys, and that at which the upper half of them begins has its key; the others were dropped, and the base is the greatest of the room's and of the floors of the linked ones among these.
pub record ReadsSorted (keys : ℕ → List ℕ) (m : RoomMemory) (r : ℕ) (slots : List SortSlot) (x : Read) : Type 0 where
  pub many : x.kept + x.dropped ≡ entries_in (m.count r)
  pub fits : x.kept ≤ length slots
  pub same : IsPermutation (kept (linked_in m r)) (map entry_of (take x.kept slots))
  pub rise : KeysRise keys (take x.kept slots)
  pub middle : (d : SortSlot) → x.kept / 2 < x.kept → IsStored (key_of (slice_index_or slots (x.kept / 2) d)) (keys (slice_index_or slots (x.kept / 2) d).key)
  pub base : x.base ≡ greatest (m.base r) (dropped (linked_in m r))

-- Of the first n of the e entries of the room those without a value were dropped, and then it was filled with the slots.
pub record IsCompacted (e r n : ℕ) (slots : List SortSlot) (base : ℕ) (m m' : RoomMemory) : Type 0 where
  pub between : RoomMemory
  pub drops : DropsKeys r n m between
  pub fills : Fills e r slots base between m'

-- What was read of the entries of a held room.
use Rattle.std.specs.Prelude.{◌≡◌, ℕ, ◌+◌, ◌/◌, ◌<◌, ◌≤◌, Bool, true, List, map, take, length, slice_set}
use Rattle.std.specs.List.{slice_index_or}
use Rattle.std.specs.List.Sorted.{IsPermutation}
use Rattle.oak_model.specs.Counts.{Begins}
use Rattle.chunk_core.specs.LinkedEntries.{linked}
use Rattle.chunk_core.specs.Rooms.{RoomMemory}
use Rattle.chunk_ops.specs.Stored.{IsStored}
use Rattle.oak_core.specs.declared.sorting.SortSlot.{SortSlot}
use Rattle.rebalance.specs.declared.entries.Entry.{Entry}
use Rattle.rebalance.specs.declared.reading.Read.{Read}
use Rattle.rebalance.specs.Entries.{entries, entry_at, kept, dropped, greatest, linked_among}
use Rattle.rebalance.specs.Slots.{entry_of, key_of}

-- Of the first n entries the first slots have the linked ones with a value, in some order and each with its key, and the others were dropped; the base is the greatest of b and of the floors of the linked ones among these.
pub record HasRead (keys : ℕ → List ℕ) (m : RoomMemory) (r b n : ℕ) (slots : List SortSlot) (x : Read) : Type 0 where
  pub many : x.kept + x.dropped ≡ n
  pub fits : x.kept ≤ length slots
  pub front : IsPermutation (kept (linked_among m r n)) (map entry_of (take x.kept slots))
  pub named : (j : ℕ) (d : SortSlot) → j < x.kept → 0 < (slice_index_or slots j d).key
  pub stored : (j : ℕ) (d : SortSlot) → j < x.kept → IsStored (key_of (slice_index_or slots j d)) (keys (slice_index_or slots j d).key)
  pub base : x.base ≡ greatest b (dropped (linked_among m r n))

-- The first n slots have the first n entries, in some order, and that at which the upper half of them begins has its key.
pub record HasAll (keys : ℕ → List ℕ) (m : RoomMemory) (r n : ℕ) (slots : List SortSlot) : Type 0 where
  pub fits : n ≤ length slots
  pub front : IsPermutation (entries m r n) (map entry_of (take n slots))
  pub named : (j : ℕ) (d : SortSlot) → j < n → 0 < (slice_index_or slots j d).key
  pub middle : (d : SortSlot) → n / 2 < n → IsStored (key_of (slice_index_or slots (n / 2) d)) (keys (slice_index_or slots (n / 2) d).key)

-- The first n slots have the first entries that links reach, in the order of the links.
abbrev pub AreAlong : RoomMemory → ℕ → ℕ → List SortSlot → Type 0
AreAlong m r n slots = Begins (map entry_of (take n slots)) (map (entry_at m r) (linked m r))

-- Slot i became that of the entry, with its key.
pub record ReadsEntry (key : List ℕ) (e : Entry) (i : ℕ) (slots slots' : List SortSlot) : Type 0 where
  pub slot : SortSlot
  pub is : entry_of slot ≡ e
  pub stored : IsStored (key_of slot) key
  pub put : slots' ≡ slice_set slots i slot

-- Slot i became one of the entry, with its key where that was asked for.
pub record PutsEntry (key : List ℕ) (whole : Bool) (e : Entry) (i : ℕ) (slots slots' : List SortSlot) : Type 0 where
  pub slot : SortSlot
  pub is : entry_of slot ≡ e
  pub stored : whole ≡ true → IsStored (key_of slot) key
  pub put : slots' ≡ slice_set slots i slot

-- A held room in which slots were stored.
use Rattle.std.specs.Prelude.{◌≡◌, ◌≢◌, ℕ, zero, suc, ◌+◌, ◌*◌, ◌^◌, ◌<◌, ◌≤◌, ◌⊎◌, nat_lt, if◌then◌else◌, List, ◌++◌, map, length, take, drop}
use Rattle.std.specs.List.{slice_index_or}
use Rattle.chunk_core.specs.RoomStep.{put_room}
use Rattle.chunk_core.specs.Rooms.{RoomMemory, at_key, at_value, at_next}
use Rattle.oak_core.specs.declared.sorting.SortSlot.{SortSlot}
use Rattle.rebalance.specs.declared.held_rooms.RoomWord.{RoomWord}
use Rattle.rebalance.specs.declared.held_rooms.RoomWord.TheVariants.{First, Next}
use Rattle.rebalance.specs.Entries.{entries}
use Rattle.rebalance.specs.Slots.{entry_of}

-- the link of entry i of n that are linked one behind the other: the next entry's number plus one, 0 behind the last
abbrev pub next_of : ℕ → ℕ → ℕ
next_of i n = if nat_lt (i + 1) n then i + 2 else 0

-- the first link of n such entries
abbrev pub first_of : ℕ → ℕ
first_of n = if nat_lt 0 n then 1 else 0

-- n entries, all of them in the sorted prefix
abbrev pub count_of : ℕ → ℕ
count_of n = n + n * 2 ^ 16

-- the word with the link to entry i of entries that are linked one behind the other
abbrev pub link_to : ℕ → RoomWord
link_to zero = First
link_to (suc i) = Next i

-- the n slots from this one on
abbrev pub slots_from : ℕ → ℕ → List SortSlot → List SortSlot
slots_from i n slots = take n (drop i slots)

-- the memory with a slot and a link at entry i
abbrev pub write_slot : RoomMemory → ℕ → ℕ → SortSlot → ℕ → RoomMemory
write_slot m r i s x = put_room (put_room (put_room m (at_key r i) s.key) (at_value r i) s.value) (at_next r i) x

-- the first i of the slots are entries, from this one on, linked as n are
abbrev pub AreAt : ℕ → ℕ → List SortSlot → ℕ → ℕ → RoomMemory → Type 0
AreAt r start slots n i m = (j : ℕ) (d : SortSlot) → j < i → (m.key r (start + j) ≡ (slice_index_or slots j d).key) × (m.value r (start + j) ≡ (slice_index_or slots j d).value) × (m.next r (start + j) ≡ next_of (start + j) n)

-- the first n entries of the room are as before
pub record KeepsBelow (r n : ℕ) (m m' : RoomMemory) : Type 0 where
  pub key : (j : ℕ) → j < n → m'.key r j ≡ m.key r j
  pub value : (j : ℕ) → j < n → m'.value r j ≡ m.value r j
  pub next : (j : ℕ) → j < n → m'.next r j ≡ m.next r j

-- of the entries only the first n of the room may be others
pub record KeepsEntries (r n : ℕ) (m m' : RoomMemory) : Type 0 where
  pub key : (q j : ℕ) → (q ≡ r → n ≤ j) → m'.key q j ≡ m.key q j
  pub value : (q j : ℕ) → (q ≡ r → n ≤ j) → m'.value q j ≡ m.value q j
  pub next : (q j : ℕ) → (q ≡ r → n ≤ j) → m'.next q j ≡ m.next q j

-- pins, bounds and the words that were latches are as before
pub record KeepsBounds (m m' : RoomMemory) : Type 0 where
  pub pin : m'.pin ≡ m.pin
  pub latch : m'.latch ≡ m.latch
  pub low : m'.low ≡ m.low
  pub high : m'.high ≡ m.high

-- base, count and first link of the other rooms are as before
pub record KeepsCounts (r : ℕ) (m m' : RoomMemory) : Type 0 where
  pub base : (q : ℕ) → q ≢ r → m'.base q ≡ m.base q
  pub count : (q : ℕ) → q ≢ r → m'.count q ≡ m.count q
  pub first : (q : ℕ) → q ≢ r → m'.first q ≡ m.first q

-- the first i of the slots were stored as entries, from this one on, linked as n are, and nothing else was changed
pub record StoresSlots (r start : ℕ) (slots : List SortSlot) (n i : ℕ) (m m' : RoomMemory) : Type 0 where
  pub are : AreAt r start slots n i m'
  pub below : KeepsBelow r start m m'
  pub entries_kept : KeepsEntries r (start + i) m m'
  pub bounds_kept : KeepsBounds m m'
  pub base : m'.base ≡ m.base
  pub count : m'.count ≡ m.count
  pub first : m'.first ≡ m.first

-- of the e entries of the room those from n on have neither a key word nor a value word
abbrev pub AreBare : ℕ → ℕ → ℕ → RoomMemory → Type 0
AreBare e r n m = (j : ℕ) → n ≤ j → j < e → (m.key r j ≡ 0) × (m.value r j ≡ 0)

-- room r, of e entries, has exactly the slots' entries, linked one behind the other and all in the sorted prefix, with nothing behind them, and this base
pub record IsFilled (e r : ℕ) (slots : List SortSlot) (base : ℕ) (m : RoomMemory) : Type 0 where
  pub is : entries m r (length slots) ≡ map entry_of slots
  pub linked : (j : ℕ) → j < length slots → m.next r j ≡ next_of j (length slots)
  pub count : m.count r ≡ count_of (length slots)
  pub first : m.first r ≡ first_of (length slots)
  pub base_is : m.base r ≡ base
  pub rest : AreBare e r (length slots) m

-- the room, of e entries, was filled with the slots, and nothing else was changed
pub record Fills (e r : ℕ) (slots : List SortSlot) (base : ℕ) (m m' : RoomMemory) : Type 0 where
  pub filled : IsFilled e r slots base m'
  pub entries_kept : KeepsEntries r e m m'
  pub counts_kept : KeepsCounts r m m'
  pub bounds_kept : KeepsBounds m m'

-- both rooms have exactly these slots' entries, and no other room was changed
pub record FillsBoth (e low high : ℕ) (below above : List SortSlot) (shared : ℕ) (m m' : RoomMemory) : Type 0 where
  pub low_filled : IsFilled e low below shared m'
  pub high_filled : IsFilled e high above shared m'
  pub bounds_kept : KeepsBounds m m'
  pub key : (q j : ℕ) → q ≢ low → q ≢ high → m'.key q j ≡ m.key q j
  pub value : (q j : ℕ) → q ≢ low → q ≢ high → m'.value q j ≡ m.value q j
  pub next : (q j : ℕ) → q ≢ low → q ≢ high → m'.next q j ≡ m.next q j
  pub base : (q : ℕ) → q ≢ low → q ≢ high → m'.base q ≡ m.base q
  pub count : (q : ℕ) → q ≢ low → q ≢ high → m'.count q ≡ m.count q
  pub first : (q : ℕ) → q ≢ low → q ≢ high → m'.first q ≡ m.first q

-- the memory with neither a key word nor a value word at entry i
abbrev pub bare_entry : RoomMemory → ℕ → ℕ → RoomMemory
bare_entry m r i = put_room (put_room m (at_key r i) 0) (at_value r i) 0

-- n entries of the room, from this one on, have neither a key word nor a value word, and nothing else was changed
pub record ClearsEntries (r from n : ℕ) (m m' : RoomMemory) : Type 0 where
  pub bare : (j : ℕ) → j < n → (m'.key r (from + j) ≡ 0) × (m'.value r (from + j) ≡ 0)
  pub key : (q j : ℕ) → (q ≡ r → (j < from) ⊎ (from + n ≤ j)) → m'.key q j ≡ m.key q j
  pub value : (q j : ℕ) → (q ≡ r → (j < from) ⊎ (from + n ≤ j)) → m'.value q j ≡ m.value q j
  pub next : m'.next ≡ m.next
  pub base : m'.base ≡ m.base
  pub count : m'.count ≡ m.count
  pub first : m'.first ≡ m.first
  pub bounds_kept : KeepsBounds m m'

-- the first n entries of the room are linked one behind the other
pub record IsLinked (r n : ℕ) (m : RoomMemory) : Type 0 where
  pub linked : (j : ℕ) → j < n → m.next r j ≡ next_of j n
  pub first : m.first r ≡ first_of n

-- behind its first entries the room has those of the slots, linked with them one behind the other and all in the sorted prefix, and this base; and nothing else was changed
pub record Appends (r start : ℕ) (slots : List SortSlot) (base : ℕ) (m m' : RoomMemory) : Type 0 where
  pub is : entries m' r (start + length slots) ≡ entries m r start ++ map entry_of slots
  pub linked : IsLinked r (start + length slots) m'
  pub count : m'.count r ≡ count_of (start + length slots)
  pub base_is : m'.base r ≡ base
  pub entries_kept : KeepsEntries r (start + length slots) m m'
  pub counts_kept : KeepsCounts r m m'
  pub bounds_kept : KeepsBounds m m'

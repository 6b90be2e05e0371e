-- What reading a held room tells: of its words as they were before, and of the slots once they are in order.
use Rattle.std.proofs.Common.{◌≡◌, ℕ, ◌/◌, ◌<◌, ◌≤◌, List, take, map, length, sym, ap, ◌∙◌, subst}
use Rattle.std.specs.List.{All}
use Rattle.std.specs.List.Sorted.{IsPermutation}
use Rattle.std.proofs.lemmas.List.Sorted.{IsPermutation-map, IsPermutation-trans}
use Rattle.chunk_core.specs.declared.holds.MovingRange.{MovingRange}
use Rattle.chunk_core.specs.LinkedEntries.{entries_in}
use Rattle.chunk_core.specs.Rooms.{RoomMemory}
use Rattle.chunk_core.specs.ValueWord.{names_header}
use Rattle.oak_core.specs.declared.sorting.SortSlot.{SortSlot}
use Rattle.rebalance.specs.declared.reading.Read.{Read}
use Rattle.rebalance.specs.Compacted.{linked_in, IsHeldRoom, ReadsSorted}
use Rattle.rebalance.specs.Entries.{kept}
use Rattle.rebalance.specs.Read.{HasRead}
use Rattle.rebalance.specs.Slots.{entry_of, AllNamed, AreDistinct, Rise}
use Rattle.rebalance.proofs.SortLaws.{IsSlot, distinct_slots, keys_rise, front_slots, each_slot, sorted_slots}

-- the words are the same later, and so are the keys that they name
pub same_keys : (names : ℕ → Type 0) (keys keys' : ℕ → List ℕ) (gs : List MovingRange) (m n : RoomMemory) (r k : ℕ) → IsHeldRoom names keys gs m r (entries_in (m.count r)) → n ≡ m → k ≡ entries_in (m.count r) → ((w : ℕ) → names w → keys' w ≡ keys w)
    → (i : ℕ) → i < k → 0 < n.key r i → names_header (n.value r i) ≡ 1 → keys (n.key r i) ≡ keys' (n.key r i)
same_keys names keys keys' gs m n r k room same count still i l word top = sym (still (n.key r i) (subst (λ (w : RoomMemory). names (w.key r i)) (sym same)
    (room.named i (subst (λ (j : ℕ). i < j) count l) (subst (λ (w : RoomMemory). 0 < w.key r i) same word) (ap (λ (w : RoomMemory). names_header (w.value r i)) (sym same) ∙ top))))

pub same_read : (keys : ℕ → List ℕ) (m n : RoomMemory) (r k : ℕ) (slots : List SortSlot) (x : Read) → n ≡ m → k ≡ entries_in (m.count r) → HasRead keys n r (n.base r) k slots x → HasRead keys m r (m.base r) (entries_in (m.count r)) slots x
same_read keys m n r k slots x same count read = subst (λ (j : ℕ). HasRead keys m r (m.base r) j slots x) count (subst (λ (w : RoomMemory). HasRead keys w r (w.base r) k slots x) same read)

-- The entries in use were read to the first slots.
module _ (keys : ℕ → List ℕ) (m : RoomMemory) (r : ℕ) (slots : List SortSlot) (x : Read) (read : HasRead keys m r (m.base r) (entries_in (m.count r)) slots x) where
  slots_are : All (IsSlot keys) (take x.kept slots)
  slots_are = front_slots (IsSlot keys) slots x.kept read.fits read.stored

  named_read : AllNamed (take x.kept slots)
  named_read = front_slots (λ (s : SortSlot). 0 < s.key) slots x.kept read.fits read.named

  -- their keys differ, as those of the entries do
  pub distinct_read : (names : ℕ → Type 0) (gs : List MovingRange) → IsHeldRoom names keys gs m r (entries_in (m.count r)) → AreDistinct (take x.kept slots)
  distinct_read names gs room = distinct_slots keys (kept (linked_in m r)) (take x.kept slots) slots_are read.front room.distinct

  -- and they are in order once they are sorted
  module _ (sorted : List SortSlot) (long : length slots ≡ length sorted) (p : IsPermutation (take x.kept slots) (take x.kept sorted)) where
    pub sorted_read : Rise (take x.kept sorted) → ReadsSorted keys m r sorted x
    sorted_read rise = let fits : x.kept ≤ length sorted = subst (λ (n : ℕ). x.kept ≤ n) long read.fits in let all : All (IsSlot keys) (take x.kept sorted) = sorted_slots (IsSlot keys) (take x.kept slots) (take x.kept sorted) p slots_are in record {
      many = read.many;
      fits = fits;
      same = IsPermutation-trans (kept (linked_in m r)) (map entry_of (take x.kept slots)) (map entry_of (take x.kept sorted)) read.front (IsPermutation-map entry_of (take x.kept slots) (take x.kept sorted) p);
      rise = keys_rise keys (take x.kept sorted) all rise;
      middle = each_slot (IsSlot keys) sorted x.kept fits all (x.kept / 2);
      base = read.base;
    }

    pub sorted_named : AllNamed (take x.kept sorted)
    sorted_named = sorted_slots (λ (s : SortSlot). 0 < s.key) (take x.kept slots) (take x.kept sorted) p named_read

-- Rooms beside the one that is read and filled stay as they are.
use Rattle.std.proofs.Common.{◌≡◌, ◌≢◌, ℕ, List, ap}
use Rattle.oak_model.specs.Limits.{Sizes}
use Rattle.oak_model.proofs.RowLaws.{rows_same}
use Rattle.chunk_core.specs.RoomReads.{copy_at}
use Rattle.chunk_core.specs.Rooms.{RoomMemory}
use Rattle.oak_core.specs.declared.sorting.SortSlot.{SortSlot}
use Rattle.rebalance.specs.declared.entries.Entry.{Entry}
use Rattle.rebalance.specs.Dropping.{DropsKeys}
use Rattle.rebalance.specs.Entries.{entries}
use Rattle.rebalance.specs.Filled.{Fills, Appends}
use Rattle.rebalance.proofs.MergedMirrors.{copy_still}

-- where the words of a room's entries are as they were, so are its entries
pub entries_still : (m m' : RoomMemory) (r n : ℕ) → ((j : ℕ) → m'.key r j ≡ m.key r j) → ((j : ℕ) → m'.value r j ≡ m.value r j) → entries m' r n ≡ entries m r n
entries_still m m' r n key value = rows_same 0 n (λ (i : ℕ). let e : Entry = record { place = m'.key r i; value = m'.value r i } in e) (λ (i : ℕ). let e : Entry = record { place = m.key r i; value = m.value r i } in e) (λ i _ _ t. record { place = key i t; value = value i t })

-- entries of another room were dropped
pub beside_dropped : (z : Sizes) (r n : ℕ) (m m' : RoomMemory) (q : ℕ) → DropsKeys r n m m' → q ≢ r → copy_at z m' q ≡ copy_at z m q
beside_dropped z r n m m' q d ne = copy_still z m m' q (ap (λ (f : ℕ → ℕ). f q) d.base) (ap (λ (f : ℕ → ℕ). f q) d.count) (ap (λ (f : ℕ → ℕ). f q) d.latch) (ap (λ (f : ℕ → ℕ). f q) d.first)
    (λ j. ap (λ (f : ℕ → ℕ → ℕ). f q j) d.low) (λ j. ap (λ (f : ℕ → ℕ → ℕ). f q j) d.high) (λ j. d.others q j (λ e. absurd (ne e))) (λ j. ap (λ (f : ℕ → ℕ → ℕ). f q j) d.value) (λ j. ap (λ (f : ℕ → ℕ → ℕ). f q j) d.next)

-- another room was filled
pub beside_filled : (z : Sizes) (e r : ℕ) (xs : List SortSlot) (base : ℕ) (m m' : RoomMemory) (q : ℕ) → Fills e r xs base m m' → q ≢ r → copy_at z m' q ≡ copy_at z m q
beside_filled z e r xs base m m' q f ne = let k = f.entries_kept in let c = f.counts_kept in let b = f.bounds_kept in
    copy_still z m m' q (c.base q ne) (c.count q ne) (ap (λ (f : ℕ → ℕ). f q) b.latch) (c.first q ne)
    (λ j. ap (λ (f : ℕ → ℕ → ℕ). f q j) b.low) (λ j. ap (λ (f : ℕ → ℕ → ℕ). f q j) b.high) (λ j. k.key q j (λ e. absurd (ne e))) (λ j. k.value q j (λ e. absurd (ne e))) (λ j. k.next q j (λ e. absurd (ne e)))

-- slots were appended in another room
pub beside_appended : (z : Sizes) (r start : ℕ) (xs : List SortSlot) (base : ℕ) (m m' : RoomMemory) (q : ℕ) → Appends r start xs base m m' → q ≢ r → copy_at z m' q ≡ copy_at z m q
beside_appended z r start xs base m m' q a ne = let k = a.entries_kept in let c = a.counts_kept in let b = a.bounds_kept in
    copy_still z m m' q (c.base q ne) (c.count q ne) (ap (λ (f : ℕ → ℕ). f q) b.latch) (c.first q ne)
    (λ j. ap (λ (f : ℕ → ℕ → ℕ). f q j) b.low) (λ j. ap (λ (f : ℕ → ℕ → ℕ). f q j) b.high) (λ j. k.key q j (λ e. absurd (ne e))) (λ j. k.value q j (λ e. absurd (ne e))) (λ j. k.next q j (λ e. absurd (ne e)))

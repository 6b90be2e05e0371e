-- Slots: entries with their keys, and their order.
use Rattle.std.specs.Prelude.{◌≡◌, ℕ, ◌<◌, ◌≤◌, List, length}
use Rattle.std.specs.Ordering.{nat_cmp, ordering_then, is_eq}
use Rattle.std.specs.List.{slice_index_or, All}
use Rattle.std.specs.declared.cmp.Ordering.{Ordering}
use Rattle.std.specs.declared.cmp.Ordering.TheVariants.{Less}
use Rattle.oak_model.specs.Counts.{one_if, total}
use Rattle.oak_model.specs.Key.{key_cmp}
use Rattle.chunk_ops.specs.declared.stored.StoredKey.{StoredKey}
use Rattle.oak_core.specs.declared.sorting.SortSlot.{SortSlot}
use Rattle.rebalance.specs.declared.entries.Entry.{Entry}

-- the key of a slot
abbrev pub key_of : SortSlot → StoredKey
key_of s = record { words = s.words; length = s.length }

-- the entry of a slot
abbrev pub entry_of : SortSlot → Entry
entry_of s = record { place = s.key; value = s.value }

-- the order of stored keys: by their words and then by their lengths
abbrev pub stored_cmp : StoredKey → StoredKey → Ordering
stored_cmp k l = ordering_then (key_cmp k.words l.words) (nat_cmp k.length l.length)

-- 1 where the slot has the key
abbrev pub has_key : StoredKey → SortSlot → ℕ
has_key k s = one_if (is_eq (stored_cmp k (key_of s)))

-- no two slots have one key
abbrev pub AreDistinct : List SortSlot → Type 0
AreDistinct xs = (k : StoredKey) → total (has_key k) xs ≤ 1

-- the keys strictly rise
abbrev pub Rise : List SortSlot → Type 0
Rise xs = (i j : ℕ) (d : SortSlot) → i < j → j < length xs → stored_cmp (key_of (slice_index_or xs i d)) (key_of (slice_index_or xs j d)) ≡ Less

-- each slot has a key word
abbrev pub AllNamed : List SortSlot → Type 0
AllNamed xs = All (λ (s : SortSlot). 0 < s.key) xs

-- The words of a room as a copy: its range, and its entries.
use Rattle.std.specs.Prelude.{◌≡◌, ℕ, ◌<◌, nat_lt, Bool, List, filter, map}
use Rattle.oak_model.specs.Counts.{one_at, one_if, total}
use Rattle.chunk_core.specs.declared.holds.EntryWords.{EntryWords}
use Rattle.chunk_core.specs.declared.holds.RoomCopy.{RoomCopy}
use Rattle.chunk_core.specs.KeyWords.{low_number, high_number}
use Rattle.chunk_core.specs.LinkedEntries.{entries_in, reached}
use Rattle.chunk_core.specs.RoomCopies.{entries_held, next_held, word_held}
use Rattle.chunk_core.specs.Spans.{Span}
use Rattle.chunk_core.specs.ValueWord.{names_header}
use Rattle.oak_core.specs.Sweeping.{valueless}
use Rattle.rebalance.specs.declared.entries.Entry.{Entry}
use Rattle.rebalance.specs.Entries.{dropped, greatest}

-- the range and the base of a room's words
abbrev pub copy_span : RoomCopy → Span
copy_span w = record { low = low_number w.low; high = high_number w.high; base = w.base }

-- the entry has a key word
abbrev pub has_key_word : EntryWords → Bool
has_key_word e = nat_lt 0 e.word

-- the numbers of the entries that links reach
abbrev pub reached_in : RoomCopy → List ℕ
reached_in w = reached (next_held w) w.first

-- of the entries in use links reach those that have a key word, each once
abbrev pub LinksReach : RoomCopy → Type 0
LinksReach w = (i : ℕ) → i < entries_in w.count → total (λ (j : ℕ). one_at j i) (reached_in w) ≡ one_if (nat_lt 0 (word_held w i))

-- The linked entries: those in use that have a key word. In the words of a room that a pass came to hold, links reach just these.
abbrev pub linked_held : RoomCopy → List EntryWords
linked_held w = filter has_key_word (entries_held w)

-- each entry in use is linked
abbrev pub AllLinked : RoomCopy → Type 0
AllLinked w = (i : ℕ) → i < entries_in w.count → 0 < word_held w i

-- so it is, and has a value
pub record IsTidy (w : RoomCopy) : Type 0 where
  pub linked : AllLinked w
  pub valued : valueless w ≡ 0

-- how many of the linked entries have a value
abbrev pub values_in : RoomCopy → ℕ
values_in w = total (λ (e : EntryWords). names_header e.value) (linked_held w)

-- the linked entries, as their key words and value words
abbrev pub entries_of : RoomCopy → List Entry
entries_of w = map (λ (e : EntryWords). record { place = e.word; value = e.value }) (linked_held w)

-- the greatest of the base and of the floors of the linked entries without a value
abbrev pub base_without : RoomCopy → ℕ
base_without w = greatest w.base (dropped (entries_of w))

-- The entries of a room, of which some have a value.
use Rattle.std.specs.Prelude.{◌≡◌, ℕ, ◌<◌, ◌==◌, nat_lt, max, not, Bool, List, [], ◌∷◌}
use Rattle.std.specs.List.{filter}
use Rattle.oak_model.specs.Counts.{rows}
use Rattle.chunk_core.specs.RoomStep.{put_room}
use Rattle.chunk_core.specs.Rooms.{RoomMemory, at_key, at_value, at_next}
use Rattle.chunk_core.specs.ValueWord.{names_header}
use Rattle.rebalance.specs.declared.entries.Entry.{Entry}
use Rattle.rebalance.specs.declared.entries.LinkedEntry.{LinkedEntry}

-- its entry i
abbrev pub entry_at : RoomMemory → ℕ → ℕ → Entry
entry_at m r i = record { place = m.key r i; value = m.value r i }

-- the same with its link
abbrev pub linked_entry : RoomMemory → ℕ → ℕ → LinkedEntry
linked_entry m r i = record { entry = entry_at m r i; next = m.next r i }

-- the memory with these words at entry i
abbrev pub put_entry : RoomMemory → ℕ → ℕ → LinkedEntry → RoomMemory
put_entry m r i e = put_room (put_room (put_room m (at_key r i) e.entry.place) (at_value r i) e.entry.value) (at_next r i) e.next

-- its first n entries
abbrev pub entries : RoomMemory → ℕ → ℕ → List Entry
entries m r n = rows 0 n (λ i. entry_at m r i)

-- the entry has a key word
abbrev pub has_word : Entry → Bool
has_word e = nat_lt 0 e.place

-- those of its first n entries that have one. Of a room that a pass holds nobody has claimed an entry, so of those in use they are the linked ones
abbrev pub linked_among : RoomMemory → ℕ → ℕ → List Entry
linked_among m r n = filter has_word (entries m r n)

-- the value word names a header
abbrev pub has_value : Entry → Bool
has_value e = names_header e.value == 1

abbrev pub lacks_value : Entry → Bool
lacks_value e = not (has_value e)

abbrev pub kept : List Entry → List Entry
kept es = filter has_value es

abbrev pub dropped : List Entry → List Entry
dropped es = filter lacks_value es

-- each of its first n entries has a key word and a value
abbrev pub AreValued : RoomMemory → ℕ → ℕ → Type 0
AreValued m r n = (i : ℕ) → i < n → (0 < m.key r i) × (names_header (m.value r i) ≡ 1)

-- the greatest of a number and of the entries' value words
unfoldable pub greatest : ℕ → List Entry → ℕ
greatest b [] = b
greatest b (e ∷ es) = max e.value (greatest b es)

-- The words that a pass keeps of a claimed entry and of a held room, after its own stores to them.
use Rattle.std.specs.Prelude.{ℕ, zero, suc, ◌==◌, not, cond, Bool, true, List, [], ◌∷◌, map, take, slice_index, slice_set, Option, Some, None}
use Rattle.chunk_core.specs.declared.holds.EntryWords.{EntryWords}
use Rattle.chunk_core.specs.declared.holds.Claim.{Claim}
use Rattle.chunk_core.specs.declared.holds.RoomCopy.{RoomCopy}
use Rattle.chunk_core.specs.declared.holds.RoomHeldAs.{RoomHeldAs}
use Rattle.chunk_core.specs.declared.holds.RoomHeldAs.TheVariants.{Frozen, Held}
use Rattle.chunk_core.specs.declared.holds.HeldRoom.{HeldRoom}
use Rattle.chunk_core.specs.Rooms.{RoomSpot, at_room_pin, at_base, at_count, at_latch, at_first, at_low, at_high, at_key, at_value, at_next, room_at}
use Rattle.chunk_core.specs.LinkedEntries.{entries_in}
use Rattle.chunk_core.specs.RoomStep.{EntryField, of_key, of_value, of_next}

-- the entry with x at one word
abbrev pub entry_with : EntryField → ℕ → EntryWords → EntryWords
entry_with of_key x e = record e { word = x }
entry_with of_value x e = record e { value = x }
entry_with of_next x e = record e { next = x }

-- the claim with x at a word of its entry; with another key word, the words of the block that it names
abbrev pub claim_with : (ℕ → List ℕ) → EntryField → ℕ → Claim → Claim
claim_with content of_key x c = record c { entry = entry_with of_key x c.entry; words = content x }
claim_with content of_value x c = record c { entry = entry_with of_value x c.entry }
claim_with content of_next x c = record c { entry = entry_with of_next x c.entry }

-- an entry whose key word becomes 0 is claimed no more
abbrev pub stays_claimed : EntryField → ℕ → Bool
stays_claimed of_key x = not (x == 0)
stays_claimed of_value x = true
stays_claimed of_next x = true

-- what is claimed after a store to a word of the claimed entry
abbrev pub claim_after : (ℕ → List ℕ) → EntryField → ℕ → Option Claim → Option Claim
claim_after content f x None = None
claim_after content f x (Some c) = cond (stays_claimed f x) (Some (claim_with content f x c)) None

-- the list with f of its element i
unfoldable pub changed : {A : Type 0} → ℕ → (A → A) → List A → List A
changed i f [] = []
changed zero f (x ∷ xs) = f x ∷ xs
changed (suc i) f (x ∷ xs) = x ∷ changed i f xs

-- the copy with x at one word
abbrev pub copy_with : RoomSpot → ℕ → RoomCopy → RoomCopy
copy_with (at_room_pin r) x w = w
copy_with (at_base r) x w = record w { base = x }
copy_with (at_count r) x w = record w { count = x }
copy_with (at_latch r) x w = record w { latch = x }
copy_with (at_first r) x w = record w { first = x }
copy_with (at_low r j) x w = record w { low = slice_set w.low j x }
copy_with (at_high r j) x w = record w { high = slice_set w.high j x }
copy_with (at_key r i) x w = record w { entries = changed i (entry_with of_key x) w.entries }
copy_with (at_value r i) x w = record w { entries = changed i (entry_with of_value x) w.entries }
copy_with (at_next r i) x w = record w { entries = changed i (entry_with of_next x) w.entries }

-- of a frozen room none is kept
abbrev pub held_with : RoomSpot → ℕ → RoomHeldAs → RoomHeldAs
held_with p x Frozen = Frozen
held_with p x (Held w) = Held (copy_with p x w)

-- the rooms that a pass has, with x at one word of one of them
abbrev pub rooms_with : RoomSpot → ℕ → List HeldRoom → List HeldRoom
rooms_with p x hs = map (λ (h : HeldRoom). record h { held_as = cond (h.room == room_at p) (held_with p x h.held_as) h.held_as }) hs

-- the rooms that a pass has, but this one
unfoldable pub without_room : ℕ → List HeldRoom → List HeldRoom
without_room r [] = []
without_room r (h ∷ hs) = cond (h.room == r) (without_room r hs) (h ∷ without_room r hs)

-- the copy, where the room is held
abbrev pub copy_in : RoomHeldAs → Option RoomCopy
copy_in Frozen = None
copy_in (Held w) = Some w

-- the words of a room that the pass holds; of another none
unfoldable pub copy_of : ℕ → List HeldRoom → Option RoomCopy
copy_of r [] = None
copy_of r (h ∷ hs) = cond (h.room == r) (copy_in h.held_as) (copy_of r hs)

-- the entries in use of a held room
abbrev pub entries_held : RoomCopy → List EntryWords
entries_held w = take (entries_in w.count) w.entries

-- the key word of an entry of a held room
abbrev pub word_held : RoomCopy → ℕ → ℕ
word_held w i = slice_index (map (λ (e : EntryWords). e.word) w.entries) i

-- its value word
abbrev pub value_held : RoomCopy → ℕ → ℕ
value_held w i = slice_index (map (λ (e : EntryWords). e.value) w.entries) i

-- and its link
abbrev pub next_held : RoomCopy → ℕ → ℕ
next_held w i = slice_index (map (λ (e : EntryWords). e.next) w.entries) i

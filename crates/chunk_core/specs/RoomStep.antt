-- The kinds of step on the words of the rooms: each names its word, and what becomes of it.
use Rattle.std.specs.Prelude.{ℕ, ◌+◌, ◌-◌, ◌*◌, ◌%◌, ◌^◌, ◌==◌, cond, Option, Some, None}
use prog.Atomic.{either}
use Rattle.pin_word.specs.PinWord.{STATE}
use Rattle.oak_model.specs.declared.writes.Kind.{Kind}
use Rattle.chunk_core.specs.declared.states.TheConstants.{OPEN, FROZEN, HELD}
use Rattle.chunk_core.specs.Rooms.{RoomMemory, RoomSpot, at_room_pin, at_count, at_key, at_value, at_next, same_room_spot, read_room, rooms_of}
use Rattle.chunk_core.specs.LinkWords.{link_spot}

-- the words of an entry
pub data EntryField : Type 0 where
  of_key : EntryField
  of_value : EntryField
  of_next : EntryField

-- where the word of an entry lies
abbrev pub entry_spot : EntryField → ℕ → ℕ → RoomSpot
entry_spot of_key r i = at_key r i
entry_spot of_value r i = at_value r i
entry_spot of_next r i = at_next r i

-- the kinds of step
pub data RoomStep : Type 0 where
  -- one pin more on a room
  pin_room : ℕ → RoomStep
  -- the pass's pin is undone
  unpin_room : ℕ → RoomStep
  -- the count of a pinned room, where it is the second number, becomes one more: the entry past it is in use, and the pass's own
  claim_entry : (r old : ℕ) → RoomStep
  -- a word of the claimed entry becomes x; it is claimed no more where its key word becomes 0
  own_entry : EntryField → (r i x : ℕ) → RoomStep
  -- the link that is the last number, the room's first or that of an entry, comes to name the claimed entry i
  link_entry : (r : ℕ) → Option ℕ → (i old : ℕ) → RoomStep
  -- the value word of an entry, where it is the floor `old`, comes to name the fresh header that `new` names: a write of the kind
  set_value : (r i old new : ℕ) → Kind → RoomStep
  -- the value word of the entry whose header the pass buries becomes the floor x
  unlink_entry : (r i x : ℕ) → RoomStep
  -- an open room, whose word is the second number, becomes frozen
  freeze_room : (r old : ℕ) → RoomStep
  -- a room that the pass has frozen, and does not hold, becomes open again
  thaw_room : ℕ → RoomStep
  -- a frozen room without a pin, whose word is the second number, becomes held, and its range moves with the pass
  hold_room : (r old : ℕ) → RoomStep
  -- a free room without a pin, whose word is the second number, becomes held
  claim_room : (r old : ℕ) → RoomStep
  -- a word of a held room but its pin word becomes x; a key word that becomes 0 drops the carried entry that it named, where that has no value
  store_room : RoomSpot → ℕ → RoomStep
  -- a held room becomes open, over a moving range or its upper part
  open_room : ℕ → RoomStep
  -- a held room becomes free; the range that came with it joins the one just below
  retire_room : ℕ → RoomStep

-- the word of a step
abbrev pub room_spot : RoomStep → RoomSpot
room_spot (pin_room r) = at_room_pin r
room_spot (unpin_room r) = at_room_pin r
room_spot (claim_entry r old) = at_count r
room_spot (own_entry f r i x) = entry_spot f r i
room_spot (link_entry r from i old) = link_spot r from
room_spot (set_value r i old new kind) = at_value r i
room_spot (unlink_entry r i x) = at_value r i
room_spot (freeze_room r old) = at_room_pin r
room_spot (thaw_room r) = at_room_pin r
room_spot (hold_room r old) = at_room_pin r
room_spot (claim_room r old) = at_room_pin r
room_spot (store_room p x) = p
room_spot (open_room r) = at_room_pin r
room_spot (retire_room r) = at_room_pin r

-- what the word n becomes
abbrev pub room_effect : RoomStep → ℕ → ℕ
room_effect (pin_room r) n = (n + 1) % 2 ^ 64
room_effect (unpin_room r) n = (n + (2 ^ 64 - 1)) % 2 ^ 64
room_effect (claim_entry r old) n = either (n == old) (old + 1) n
room_effect (own_entry f r i x) n = x
room_effect (link_entry r from i old) n = either (n == old) (i + 1) n
room_effect (set_value r i old new kind) n = either (n == old) new n
room_effect (unlink_entry r i x) n = x
room_effect (freeze_room r old) n = either (n == old) (old + STATE) n
room_effect (thaw_room r) n = (n + (2 ^ 64 - (FROZEN - OPEN) * STATE)) % 2 ^ 64
room_effect (hold_room r old) n = either (n == old) (old + STATE) n
room_effect (claim_room r old) n = either (n == old) (old + HELD * STATE) n
room_effect (store_room p x) n = x
room_effect (open_room r) n = (n + (2 ^ 64 - (HELD - OPEN) * STATE)) % 2 ^ 64
room_effect (retire_room r) n = (n + (2 ^ 64 - HELD * STATE)) % 2 ^ 64

-- the number that the step finds; a store finds none
abbrev pub room_found : RoomStep → ℕ → Option ℕ
room_found (own_entry f r i x) n = None
room_found (unlink_entry r i x) n = None
room_found (store_room p x) n = None
room_found _ n = Some n

-- the memory with x at one word
abbrev pub put_room : RoomMemory → RoomSpot → ℕ → RoomMemory
put_room m p x = rooms_of (λ q. cond (same_room_spot q p) x (read_room m q))

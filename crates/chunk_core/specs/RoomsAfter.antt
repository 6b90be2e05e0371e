-- What a pass has of rooms after a step.
use Rattle.std.specs.Prelude.{ℕ, ◌==◌, ◌&&◌, cond, List, ◌∷◌, Option, Some, None}
use Rattle.pin_word.specs.PinWord.{state_of}
use Rattle.oak_model.specs.Limits.{Sizes}
use Rattle.chunk_core.specs.declared.states.TheConstants.{OPEN}
use Rattle.chunk_core.specs.declared.holds.PinnedRoom.{PinnedRoom}
use Rattle.chunk_core.specs.declared.holds.RoomHeldAs.TheVariants.{Frozen, Held}
use Rattle.chunk_core.specs.declared.holds.RoomHolds.{RoomHolds}
use Rattle.chunk_core.specs.Rooms.{RoomMemory}
use Rattle.chunk_core.specs.RoomStep.{RoomStep, pin_room, unpin_room, claim_entry, own_entry, link_entry, set_value, unlink_entry, freeze_room, thaw_room, hold_room, claim_room, store_room, open_room, retire_room}
use Rattle.chunk_core.specs.LinkWords.{link_word}
use Rattle.chunk_core.specs.FoundLinks.{leads, found_by}
use Rattle.chunk_core.specs.RoomReads.{pinned_at, found_at, found_below, found_more, claimed_at, copy_at, moving_at}
use Rattle.chunk_core.specs.LinkedEntries.{entries_in}
use Rattle.chunk_core.specs.RoomCopies.{claim_after, rooms_with, without_room, copy_of}
use Rattle.chunk_core.specs.MovingRanges.{word_dropped, ranges_with, ranges_opened, ranges_joined}

-- the pin, which has found the count and the entries of the prefix
abbrev pub pin_with : RoomMemory → (ℕ → List ℕ) → ℕ → PinnedRoom → PinnedRoom
pin_with m content count p = record p { count = Some count; entries = found_below m content p.room count }

-- a load of the count of the room finds them, under a good pin on it
abbrev pub counted_pin : RoomMemory → (ℕ → List ℕ) → ℕ → Option PinnedRoom → Option PinnedRoom
counted_pin m content r None = None
counted_pin m content r (Some p) = Some (cond ((p.room == r) && (state_of p.found == OPEN)) (pin_with m content (m.count r) p) p)

-- the pin, which has found the entry that a link names
abbrev pub pin_walked : RoomMemory → (ℕ → List ℕ) → ℕ → PinnedRoom → PinnedRoom
pin_walked m content link p = record p { walked = found_more (found_by m content p.room link) p.walked }

-- a load of the first link of the room, or of the link of an entry that was found, finds what it names, under a good pin on the room
abbrev pub walked_pin : RoomMemory → (ℕ → List ℕ) → ℕ → Option ℕ → Option PinnedRoom → Option PinnedRoom
walked_pin m content r from None = None
walked_pin m content r from (Some p) = Some (cond (((p.room == r) && (state_of p.found == OPEN)) && leads from p) (pin_walked m content (link_word m r from) p) p)

-- a pass that links an entry has found it
abbrev pub linked_pin : RoomMemory → (ℕ → List ℕ) → ℕ → ℕ → Option PinnedRoom → Option PinnedRoom
linked_pin m content r i None = None
linked_pin m content r i (Some p) = Some (record p { walked = found_at m content r i ∷ p.walked })

-- what the pass has after a step, where these were the words of the rooms and of blocks
abbrev pub rooms_after : Sizes → RoomMemory → (ℕ → List ℕ) → RoomStep → RoomHolds → RoomHolds
rooms_after z m content (pin_room r) a = record a { pin = Some (pinned_at m r) }
rooms_after z m content (unpin_room r) a = record a { pin = None }
rooms_after z m content (claim_entry r old) a = record a { claim = cond (m.count r == old) (Some (claimed_at m content r (entries_in old))) a.claim }
rooms_after z m content (own_entry f r i x) a = record a { claim = claim_after content f x a.claim }
rooms_after z m content (link_entry r from i old) a = record a { claim = cond (link_word m r from == old) None a.claim; pin = cond (link_word m r from == old) (linked_pin m content r i a.pin) a.pin }
rooms_after z m content (set_value r i old new kind) a = a
rooms_after z m content (unlink_entry r i x) a = a
rooms_after z m content (freeze_room r old) a = record a { held = cond (m.pin r == old) (record { room = r; held_as = Frozen } ∷ a.held) a.held }
rooms_after z m content (thaw_room r) a = record a { held = without_room r a.held }
rooms_after z m content (hold_room r old) a = record a {
  held = cond (m.pin r == old) (record { room = r; held_as = Held (copy_at z m r) } ∷ without_room r a.held) a.held;
  moving = cond (m.pin r == old) (moving_at m content r ∷ a.moving) a.moving;
}
rooms_after z m content (claim_room r old) a = record a { held = cond (m.pin r == old) (record { room = r; held_as = Held (copy_at z m r) } ∷ a.held) a.held }
rooms_after z m content (store_room p x) a = record a { held = rooms_with p x a.held; moving = ranges_with (word_dropped m p x) a.moving }
rooms_after z m content (open_room r) a = record a { held = without_room r a.held; moving = ranges_opened (copy_of r a.held) a.moving }
rooms_after z m content (retire_room r) a = record a { held = without_room r a.held; moving = ranges_joined r a.moving }

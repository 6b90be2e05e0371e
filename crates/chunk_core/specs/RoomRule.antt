-- The points on rooms: who has pinned, frozen or holds them, who has claimed which of their entries, what stands under a good pin, and that what passes keep of rooms is true.
use Rattle.std.specs.Prelude.{◌≡◌, ℕ, ◌+◌, ◌*◌, ◌<◌, ◌≤◌, ◌⊎◌, nat_lt, List, length, Option, Some, None}
use Rattle.pin_word.specs.PinWord.{generation_of, state_of, count_of}
use Rattle.oak_model.specs.declared.limits.TheConstants.{GREATEST_KEY}
use Rattle.oak_model.specs.Limits.{Sizes}
use Rattle.oak_model.specs.Counts.{one_if, one_at, total, Every, Each}
use Rattle.chunk_core.specs.declared.layout.TheConstants.{BOUND_WORDS}
use Rattle.chunk_core.specs.declared.states.TheConstants.{FROZEN, HELD}
use Rattle.chunk_core.specs.declared.holds.PinnedRoom.{PinnedRoom}
use Rattle.chunk_core.specs.declared.holds.Claim.{Claim}
use Rattle.chunk_core.specs.declared.holds.RoomCopy.{RoomCopy}
use Rattle.chunk_core.specs.declared.holds.RoomHeldAs.{RoomHeldAs}
use Rattle.chunk_core.specs.declared.holds.RoomHeldAs.TheVariants.{Frozen, Held}
use Rattle.chunk_core.specs.declared.holds.HeldRoom.{HeldRoom}
use Rattle.chunk_core.specs.declared.holds.Carried.{Carried}
use Rattle.chunk_core.specs.declared.holds.MovingRange.{MovingRange}
use Rattle.chunk_core.specs.declared.holds.RoomHolds.{RoomHolds}
use Rattle.chunk_core.specs.RoomHolds.{pins_of, claims_on}
use Rattle.chunk_core.specs.Rooms.{RoomMemory}
use Rattle.chunk_core.specs.LinkedEntries.{entries_in, prefix_in, linked, Rises}
use Rattle.chunk_core.specs.Covers.{key_at}
use Rattle.chunk_core.specs.CoverSums.{weight}
use Rattle.chunk_core.specs.PinnedRooms.{OnRoomPin, IsGoodRoom, RoomPinHolds}

-- 1 where the pass has a pin on the room
abbrev pub room_pins : ℕ → RoomHolds → ℕ
room_pins r a = pins_of r a.pin

-- the state of a room that a pass has so
abbrev pub room_state : RoomHeldAs → ℕ
room_state Frozen = FROZEN
room_state (Held words) = HELD

-- how often the pass has the room in the state
abbrev pub in_room_state : ℕ → ℕ → RoomHolds → ℕ
in_room_state r s a = total (λ (h : HeldRoom). one_at h.room r * one_at (room_state h.held_as) s) a.held

-- the pass that has claimed an entry of a room has a good pin on it
abbrev pub ClaimIsPinned : Option PinnedRoom → Option Claim → Type 0
ClaimIsPinned o None = Unit {0}
ClaimIsPinned None (Some c) = ⊥
ClaimIsPinned (Some p) (Some c) = (p.room ≡ c.room) × IsGoodRoom p

-- P holds of the claim, where there is one
abbrev pub OnClaim : (Claim → Type 0) → Option Claim → Type 0
OnClaim P None = Unit {0}
OnClaim P (Some c) = P c

-- a claimed entry is below the count, and the words kept with it are those of the block that its key word names, where it names one
pub record ClaimStands (m : RoomMemory) (content : ℕ → List ℕ) (c : Claim) : Type 0 where
  pub inside : c.number < entries_in (m.count c.room)
  pub words : 0 < c.entry.word → content c.entry.word ≡ c.words

-- the words of a held room are as many as it has
pub record IsWholeCopy (z : Sizes) (w : RoomCopy) : Type 0 where
  pub low : length w.low ≡ BOUND_WORDS
  pub high : length w.high ≡ BOUND_WORDS
  pub entries : length w.entries ≡ z.entries

-- of a frozen room none are kept
abbrev pub IsWholeHeld : Sizes → RoomHeldAs → Type 0
IsWholeHeld z Frozen = Unit {0}
IsWholeHeld z (Held w) = IsWholeCopy z w

-- what holds of what one pass has of rooms, by itself
pub record RoomHoldsStand (z : Sizes) (a : RoomHolds) : Type 0 where
  pub claim : ClaimIsPinned a.pin a.claim
  pub whole : Each (λ (h : HeldRoom). IsWholeHeld z h.held_as) a.held

-- the words kept with a carried entry are those of the block that its key word names
abbrev pub AreTrueRanges : (ℕ → List ℕ) → List MovingRange → Type 0
AreTrueRanges content gs = Each (λ (g : MovingRange). Each (λ (c : Carried). content c.word ≡ c.words) g.carried) gs

-- the first words of a low and a high bound name no more bytes than a key has
pub record AreBounds (low high : ℕ) : Type 0 where
  pub low_fits : low ≤ GREATEST_KEY
  pub high_fits : high ≤ GREATEST_KEY + 1

-- the words of a cover, by its count, the key words and value words of its entries, the numbers of its linked entries, and the first words of its bounds
pub record IsInOrder (z : Sizes) (content : ℕ → List ℕ) (count : ℕ) (key value : ℕ → ℕ) (links : List ℕ) (low high : ℕ) : Type 0 where
  -- it has no more entries than a room
  pub few : entries_in count ≤ z.entries
  -- nor a longer prefix than entries
  pub prefix : prefix_in count ≤ entries_in count
  -- the entries of the prefix rise in the order of the keys
  pub sorted : (i j : ℕ) → i < j → j < prefix_in count → key_at content (key i) < key_at content (key j)
  -- each linked entry is in use
  pub used : Each (λ i. i < entries_in count) links
  -- their keys rise along the links
  pub rises : Rises (λ i. key_at content (key i)) links
  -- each entry of the prefix is linked
  pub front : (i : ℕ) → i < prefix_in count → total (λ j. one_at j i) links ≡ 1
  -- the entries past the count have neither key nor value
  pub zeros : (i : ℕ) → entries_in count ≤ i → i < z.entries → (key i ≡ 0) × (value i ≡ 0)
  pub bounds : AreBounds low high

-- all points on rooms, over their words and what passes have of them
pub record RoomsStand (z : Sizes) (m : RoomMemory) (content : ℕ → List ℕ) (hs : List RoomHolds) : Type 0 where
  -- the count of a room is the number of pins on it, duds among them
  pub counted : (r : ℕ) → total (room_pins r) hs ≡ count_of (m.pin r)
  -- a room is frozen, or held, exactly where one pass has it so
  pub held : (r s : ℕ) → (s ≡ FROZEN) ⊎ (s ≡ HELD) → total (in_room_state r s) hs ≡ one_at (state_of (m.pin r)) s
  -- a room has one of the four states
  pub states : (r : ℕ) → state_of (m.pin r) ≤ HELD
  -- its generation stays 0
  pub generations : (r : ℕ) → generation_of (m.pin r) ≡ 0
  -- the word that was its latch is 0
  pub latches : (r : ℕ) → m.latch r ≡ 0
  -- the words of a cover are in order
  pub ordered : (r : ℕ) → weight (m.pin r) ≡ 1 → IsInOrder z content (m.count r) (m.key r) (m.value r) (linked m r) (m.low r 0) (m.high r 0)
  -- an entry is linked, or claimed by one pass, or neither
  pub either : (r i : ℕ) → weight (m.pin r) ≡ 1 → total (λ j. one_at j i) (linked m r) + total (claims_on r i) hs ≤ 1
  -- neither only where its key word is 0
  pub keyed : (r i : ℕ) → weight (m.pin r) ≡ 1 → i < entries_in (m.count r) → one_if (nat_lt 0 (m.key r i)) ≤ total (λ j. one_at j i) (linked m r) + total (claims_on r i) hs
  -- what a pass claimed stands
  pub claimed : Every (λ (a : RoomHolds). OnClaim (ClaimStands m content) a.claim) hs
  -- what a good pin found stands
  pub good : Every (λ (a : RoomHolds). OnRoomPin (λ p. IsGoodRoom p → RoomPinHolds z m content p) a.pin) hs
  -- the keys of carried entries are true
  pub carried : Every (λ (a : RoomHolds). AreTrueRanges content a.moving) hs
  -- what each pass has of rooms stands by itself
  pub passes : Every (RoomHoldsStand z) hs

-- What the steps on rooms ask of what their pass has of rooms.
use Rattle.std.specs.Prelude.{◌≡◌, ◌≢◌, ℕ, ◌+◌, ◌^◌, ◌<◌, ◌≤◌, ◌⊎◌, false, true, List, slice_index, Option, Some, None}
use mathlib.Core.Option.{some}
use lib.ListN.{get_elem?}
use Rattle.pin_word.specs.PinWord.{state_of, HasNoPin}
use Rattle.oak_model.specs.Limits.{Sizes}
use Rattle.oak_model.specs.Counts.{one_at, one_if, total, Has}
use Rattle.chunk_core.specs.declared.holds.FoundEntry.{FoundEntry}
use Rattle.chunk_core.specs.declared.holds.PinnedRoom.{PinnedRoom}
use Rattle.chunk_core.specs.declared.holds.EntryWords.{EntryWords}
use Rattle.chunk_core.specs.declared.holds.Claim.{Claim}
use Rattle.chunk_core.specs.declared.holds.RoomCopy.{RoomCopy}
use Rattle.chunk_core.specs.declared.holds.Carried.{Carried}
use Rattle.chunk_core.specs.declared.holds.MovingRange.{MovingRange}
use Rattle.chunk_core.specs.declared.holds.RoomHolds.{RoomHolds}
use Rattle.chunk_core.specs.declared.states.TheConstants.{FREE, OPEN, FROZEN, HELD}
use Rattle.chunk_core.specs.Rooms.{RoomSpot, at_room_pin, at_latch, room_at}
use Rattle.chunk_core.specs.KeyWords.{key_in, least_number, low_number, high_number}
use Rattle.chunk_core.specs.Spans.{within}
use Rattle.chunk_core.specs.LinkedEntries.{entries_in, prefix_in}
use Rattle.chunk_core.specs.PinnedRooms.{IsGoodRoom, span_of, found_key, found_in}
use Rattle.chunk_core.specs.RoomRule.{AreBounds, room_pins, in_room_state}
use Rattle.chunk_core.specs.RoomStep.{RoomStep, pin_room, unpin_room, EntryField, of_key, of_value, of_next, claim_entry, own_entry, freeze_room, thaw_room, hold_room, claim_room, store_room, open_room, retire_room}
use Rattle.chunk_core.specs.ChainedRooms.{IsChained}
use Rattle.chunk_core.specs.RoomCopies.{copy_of, entries_held, word_held}
use Rattle.chunk_core.specs.MovingRanges.{takes, upper_of, ranges_without, range_of, is_below}

-- the pass has a good pin on the room
pub record PinsRoom (r : ℕ) (a : RoomHolds) (p : PinnedRoom) : Type 0 where
  pub is : a.pin ≡ Some p
  pub room : p.room ≡ r
  pub good : IsGoodRoom p

-- under which it found the entry
pub record FindsEntry (r i : ℕ) (a : RoomHolds) (p : PinnedRoom) (e : FoundEntry) : Type 0 where
  pub pin : PinsRoom r a p
  pub there : Has e (found_in p)
  pub number : e.number ≡ i

-- under which it has claimed the entry
pub record HasClaim (r i : ℕ) (a : RoomHolds) (p : PinnedRoom) (c : Claim) : Type 0 where
  pub is : a.claim ≡ Some c
  pub room : c.room ≡ r
  pub number : c.number ≡ i
  pub pin : PinsRoom r a p

-- the count lets one more entry be claimed
pub record MayClaim (z : Sizes) (r old : ℕ) (a : RoomHolds) (p : PinnedRoom) : Type 0 where
  pub pin : PinsRoom r a p
  pub none : a.claim ≡ None
  pub room : entries_in old < z.entries

-- a word may come into a field of a claimed entry: a key word other than 0 only where the entry has none
abbrev pub MayOwn : EntryField → ℕ → Claim → Type 0
MayOwn of_key x c = (x ≡ 0) ⊎ (c.entry.word ≡ 0)
MayOwn of_value x c = Unit {0}
MayOwn of_next x c = Unit {0}

-- what the link is of is found, and its key is below the number
abbrev pub ComesFrom : Option ℕ → ℕ → PinnedRoom → Type 0
ComesFrom None k p = Unit {0}
ComesFrom (Some q) k p = (e : FoundEntry) × Has e (found_in p) × (e.number ≡ q) × (found_key e < k)

-- the link names none, or what it names is found, and its key is above the number
abbrev pub GoesTo : ℕ → ℕ → PinnedRoom → Type 0
GoesTo old k p = (old ≡ 0) ⊎ ((e : FoundEntry) × Has e (found_in p) × (e.number + 1 ≡ old) × (k < found_key e))

-- The claimed entry may be linked: its key word names the block of a key of the range, its value word is the room's base, and its link is the one that is to name it. That link is of an entry below the key, or the first, and names one above it, or none.
pub record MayLink (z : Sizes) (is_key_word : ℕ → ℕ) (r : ℕ) (from : Option ℕ) (i old : ℕ) (a : RoomHolds) : Type 0 where
  pub pinned : PinnedRoom
  pub claim : Claim
  pub has : HasClaim r i a pinned claim
  pub is_key : is_key_word claim.entry.word ≡ 1
  pub some_key : 0 < claim.entry.word
  pub floor : claim.entry.value ≡ pinned.base
  pub goes_on : claim.entry.next ≡ old
  pub inside : within (span_of pinned) (key_in claim.entry.word claim.words) ≡ 1
  pub behind : ComesFrom from (key_in claim.entry.word claim.words) pinned
  pub before : GoesTo old (key_in claim.entry.word claim.words) pinned

-- a store to a held room is to any word but the pin word, and leaves the latch free
abbrev pub IsRoomWord : RoomSpot → ℕ → Type 0
IsRoomWord (at_room_pin r) x = ⊥
IsRoomWord (at_latch r) x = x ≡ 0
IsRoomWord _ x = Unit {0}

-- A held room may be opened over one of the ranges, or over its upper part: it has that range's base, and its linked entries are the ones carried there.
pub record MayOpenRoom (z : Sizes) (w : RoomCopy) (gs : List MovingRange) : Type 0 where
  pub place : ℕ
  pub range : MovingRange
  pub there : get_elem? gs place ≡ some range
  -- it is the first with the room's high bound, and begins no later than the room
  pub first : (j : ℕ) (g : MovingRange) → get_elem? gs j ≡ some g → j < place → takes w g ≡ false
  pub takes_it : takes w range ≡ true
  pub base : w.base ≡ range.base
  pub latch : w.latch ≡ 0
  pub few : entries_in w.count ≤ z.entries
  -- its entries are the prefix, links name each in turn, and nothing is behind them
  pub chained : IsChained z w
  pub entries : (f : ℕ → ℕ → ℕ) → total (λ (e : EntryWords). f e.word e.value) (entries_held w) ≡ total (λ (c : Carried). f c.word c.value) (upper_of w range)
  -- the low bound is in the range
  pub under : within (record { low = low_number range.low; high = high_number range.high; base = 0 }) (low_number w.low) ≡ 1
  -- what is left below it has a key
  pub key : low_number w.low ≢ low_number range.low → least_number < low_number w.low
  -- neither bound is longer than a key
  pub bounds : AreBounds (slice_index w.low 0) (slice_index w.high 0)
  -- the prefix rises: so do the keys of the carried entries whose words stand there
  pub sorted : (i j : ℕ) (c d : Carried) → i < j → j < prefix_in w.count → Has c range.carried → Has d range.carried → c.word ≡ word_held w i → d.word ≡ word_held w j → key_in c.word c.words < key_in d.word d.words

-- only a room whose words the pass keeps may be opened
abbrev pub MayOpenCopy : Sizes → Option RoomCopy → List MovingRange → Type 0
MayOpenCopy z None gs = ⊥
MayOpenCopy z (Some w) gs = MayOpenRoom z w gs

-- a room without a range may be retired, or one whose range has one of the pass's just below it
pub record MayRetire (r : ℕ) (gs : List MovingRange) : Type 0 where
  pub one : total (λ (g : MovingRange). one_at g.room r) gs ≤ 1
  pub joins : (g : MovingRange) → range_of r gs ≡ Some g → total (λ (h : MovingRange). one_if (is_below g h)) (ranges_without r gs) ≡ 1

-- What each kind asks of what its pass has of rooms. Of linking an entry, and of setting and unlinking a value, more is asked than of rooms: `MayOnRooms` of the table has that whole.
abbrev pub MayRoom : Sizes → RoomStep → RoomHolds → Type 0
MayRoom z (pin_room r) a = a.pin ≡ None
MayRoom z (unpin_room r) a = (room_pins r a ≡ 1) × (a.claim ≡ None)
MayRoom z (claim_entry r old) a = (p : PinnedRoom) × MayClaim z r old a p
MayRoom z (own_entry f r i x) a = (p : PinnedRoom) × (c : Claim) × HasClaim r i a p c × MayOwn f x c × (x < 2 ^ 64)
MayRoom z (freeze_room r old) a = state_of old ≡ OPEN
MayRoom z (thaw_room r) a = in_room_state r FROZEN a ≡ 1
MayRoom z (hold_room r old) a = HasNoPin FROZEN old × (in_room_state r FROZEN a ≡ 1)
MayRoom z (claim_room r old) a = HasNoPin FREE old
MayRoom z (store_room p x) a = (in_room_state (room_at p) HELD a ≡ 1) × IsRoomWord p x × (x < 2 ^ 64)
MayRoom z (open_room r) a = (in_room_state r HELD a ≡ 1) × MayOpenCopy z (copy_of r a.held) a.moving
MayRoom z (retire_room r) a = (in_room_state r HELD a ≡ 1) × MayRetire r a.moving
MayRoom z _ a = Unit {0}

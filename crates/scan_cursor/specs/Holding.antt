-- What a pass has pinned while it scans, and the room that it has pinned by its bounds.
use Rattle.std.specs.Prelude.{◌≡◌, ℕ, Bool, suc, ◌<◌, ◌≤◌, ◌==◌, cond, true, List, replicate, slice_index, Option, Some, None, IfSome}
use Rattle.oak_model.specs.declared.limits.TheConstants.{GREATEST_KEY}
use Rattle.oak_model.specs.Key.{is_key}
use Rattle.oak_model.specs.KeyNumber.{key_number}
use Rattle.oak_model.specs.Limits.{Sizes}
use Rattle.arena_core.specs.HeldBlocks.{no_blocks}
use Rattle.header_core.specs.HeaderHolds.{no_headers}
use Rattle.chunk_core.specs.declared.holds.PinnedRoom.{PinnedRoom}
use Rattle.chunk_core.specs.RoomHolds.{no_rooms}
use Rattle.oak_core.specs.declared.states.PassState.{PassState}
use Rattle.chunk_ops.specs.PinRecords.{HasRoomPin, room_pin, with_room_pin}
use Rattle.chunk_ops.specs.PinnedBounds.{high_bound, low_bound, low_length}
use Rattle.value_ops.specs.declared.pinned_value.PinnedValue.{PinnedValue}
use Rattle.value_ops.specs.PinnedValues.{IsPinnedValue}
use Rattle.scan_cursor.specs.declared.ways.Way.{Way}
use Rattle.scan_cursor.specs.declared.ways.Way.TheVariants.{Up, Down}

-- it has a good pin of the room, and nothing else
pub record HasRoom (z : Sizes) (r : ℕ) (v : PassState) : Type 0 where
  pub pin : HasRoomPin z r v
  pub rooms : v.rooms ≡ with_room_pin (Some (room_pin v)) no_rooms
  pub hand : v.numbers.hand ≡ None
  pub blocks : v.blocks ≡ no_blocks
  pub headers : v.headers ≡ no_headers

-- it has a good pin of the value, and nothing else
pub record HasValue (z : Sizes) (x : PinnedValue) (v : PassState) : Type 0 where
  pub value : IsPinnedValue z x v
  pub headers : v.headers ≡ record no_headers { pin = Some value.pin }
  pub hand : v.numbers.hand ≡ None
  pub blocks : v.blocks ≡ no_blocks
  pub rooms : v.rooms ≡ no_rooms

-- the bounds of a room; none is the end of all keys on that side
pub record Room : Type 0 where
  pub low : Option (List ℕ)
  pub high : Option (List ℕ)

abbrev pub room_of : PinnedRoom → Room
room_of p = record { low = cond (low_length p == 0) None (Some (low_bound p)); high = cond (slice_index p.high 0 == 0) None (Some (high_bound p)) }

-- the pinned room
abbrev pub room_at : PassState → Room
room_at v = room_of (room_pin v)

abbrev pub greatest_key : List ℕ
greatest_key = replicate GREATEST_KEY 255

-- the numbers of the room's keys: from this one on, and below that one

abbrev pub low_end : Option (List ℕ) → ℕ
low_end None = 0
low_end (Some low) = key_number low

abbrev pub high_end : Option (List ℕ) → ℕ
high_end None = suc (key_number greatest_key)
high_end (Some high) = key_number high

abbrev pub IsBound : Option (List ℕ) → Type 0
IsBound b = IfSome b (λ k. is_key k ≡ true)

-- each bound that it has is a key
pub record IsRoom (r : Room) : Type 0 where
  pub low : IsBound r.low
  pub high : IsBound r.high

-- the room goes on from the key in the direction of the scan: where the scan is past the key that goes down, it has the keys next below it, and else the key
abbrev pub Covers : Way → Bool → List ℕ → Room → Type 0
Covers Down true k r = (low_end r.low < key_number k) × (key_number k ≤ high_end r.high)
Covers way past k r = (low_end r.low ≤ key_number k) × (key_number k < high_end r.high)

-- the room up to a nearer bound in the direction of the scan; none is the room's own
abbrev pub cut_room : Way → Room → Option (List ℕ) → Room
cut_room way r None = r
cut_room Up r (Some b) = record { low = r.low; high = Some b }
cut_room Down r (Some b) = record { low = Some b; high = r.high }

-- the room is pinned in which the scan goes on
pub record IsAhead (z : Sizes) (r : ℕ) (way : Way) (past : Bool) (k : List ℕ) (v : PassState) : Type 0 where
  pub has : HasRoom z r v
  pub real : IsRoom (room_at v)
  pub covers : Covers way past k (room_at v)

-- the bound of the room in the direction of the scan
abbrev pub bound_in : Way → Room → Option (List ℕ)
bound_in Up r = r.high
bound_in Down r = r.low

-- the numbers of the keys between the key and a room's bound, in the direction of the scan: from this one on, and below that one

abbrev pub ahead_from : Way → List ℕ → Option (List ℕ) → ℕ
ahead_from Up k bound = suc (key_number k)
ahead_from Down k bound = low_end bound

abbrev pub ahead_past : Way → List ℕ → Option (List ℕ) → ℕ
ahead_past Up k bound = high_end bound
ahead_past Down k bound = key_number k

-- What a pass holds of rooms.
use Rattle.std.specs.Prelude.{ℕ, ◌+◌, ◌*◌, nat_lt, [], Option, Some, None}
use Rattle.oak_model.specs.Counts.{one_if, one_at, total}
use Rattle.chunk_core.specs.declared.holds.HeldRoom.{HeldRoom}
use Rattle.chunk_core.specs.declared.holds.Claim.{Claim}
use Rattle.chunk_core.specs.declared.holds.PinnedRoom.{PinnedRoom}
use Rattle.chunk_core.specs.declared.holds.RoomHolds.{RoomHolds}

abbrev pub no_rooms : RoomHolds
no_rooms = record { pin = None; claim = None; held = []; moving = [] }

abbrev pub pins_of : ℕ → Option PinnedRoom → ℕ
pins_of r None = 0
pins_of r (Some p) = one_at p.room r

-- 1 where the pass has a pin on the room, or has frozen or holds it
abbrev pub had_room : ℕ → RoomHolds → ℕ
had_room r a = one_if (nat_lt 0 (pins_of r a.pin + total (λ (h : HeldRoom). one_at h.room r) a.held))

-- 1 where it is a claim of the entry i of the room
abbrev pub claims_of : ℕ → ℕ → Option Claim → ℕ
claims_of r i None = 0
claims_of r i (Some c) = one_at c.room r * one_at c.number i

-- 1 where the pass has claimed the entry
abbrev pub claims_on : ℕ → ℕ → RoomHolds → ℕ
claims_on r i a = claims_of r i a.claim

-- Where links lie: the first link of a room, and those of its entries.
use Rattle.std.specs.Prelude.{ℕ, Option, Some, None}
use Rattle.chunk_core.specs.Rooms.{RoomMemory, RoomSpot, at_first, at_next, read_room}

-- the first link of a room, or that of an entry
abbrev pub link_spot : ℕ → Option ℕ → RoomSpot
link_spot r None = at_first r
link_spot r (Some q) = at_next r q

-- what it says
abbrev pub link_word : RoomMemory → ℕ → Option ℕ → ℕ
link_word m r from = read_room m (link_spot r from)

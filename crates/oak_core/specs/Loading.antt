-- What the load of a word teaches its pass: that of a link, or of the value word of an entry, by the pin on the room, and that of the stamp word of a header by the pin on the header.
use Rattle.std.specs.Prelude.{ℕ, List, Some, None}
use Rattle.arena_core.specs.Place.{content}
use Rattle.chunk_core.specs.declared.holds.RoomHolds.{RoomHolds}
use Rattle.chunk_core.specs.Rooms.{at_count, at_first, at_next, at_value}
use Rattle.chunk_core.specs.RoomsAfter.{counted_pin, walked_pin}
use Rattle.header_core.specs.Headers.{at_stamp}
use Rattle.oak_core.specs.declared.states.Knowledge.{Knowledge}
use Rattle.oak_core.specs.declared.states.PassState.{PassState}
use Rattle.oak_core.specs.declared.states.Sight.{Sight}
use Rattle.oak_core.specs.LinkTeaching.{knows_link, sights_link}
use Rattle.oak_core.specs.Memory.{Memory, Spot, in_headers, in_rooms}
use Rattle.oak_core.specs.StampLoads.{knows_stamp, sights_stamp}
use Rattle.oak_core.specs.ValueLoads.{knows_value, sights_value}

-- the load of a word that teaches nothing and changes no pin
abbrev pub IsPlain : Spot → Type 0
IsPlain (in_headers (at_stamp h)) = ⊥
IsPlain (in_rooms (at_count r)) = ⊥
IsPlain (in_rooms (at_first r)) = ⊥
IsPlain (in_rooms (at_next r i)) = ⊥
IsPlain (in_rooms (at_value r i)) = ⊥
IsPlain _ = Unit {0}

-- what the pass knows behind the load of a word by the call, where these are the words of the table
abbrev pub knows_by_load : ℕ → Spot → Memory → List Knowledge → PassState → Knowledge
knows_by_load call (in_headers (at_stamp h)) m qs v = knows_stamp h (m.headers.stamp h) v.headers.pin qs v.knowledge
knows_by_load call (in_rooms (at_first r)) m qs v = knows_link m.rooms (content m.arena.bytes) r None v.rooms.pin qs v.knowledge
knows_by_load call (in_rooms (at_next r i)) m qs v = knows_link m.rooms (content m.arena.bytes) r (Some i) v.rooms.pin qs v.knowledge
knows_by_load call (in_rooms (at_value r i)) m qs v = knows_value call r i (m.rooms.value r i) v.rooms.pin qs v.knowledge
knows_by_load call _ m qs v = v.knowledge

-- which numbers it found for which keys
abbrev pub sights_by_load : Spot → ℕ → Memory → PassState → List Sight
sights_by_load (in_headers (at_stamp h)) call m v = sights_stamp h (m.headers.stamp h) call v.headers.pin v.knowledge v.findings
sights_by_load (in_rooms (at_first r)) call m v = sights_link m.rooms (content m.arena.bytes) r None call v.rooms.pin v.findings
sights_by_load (in_rooms (at_next r i)) call m v = sights_link m.rooms (content m.arena.bytes) r (Some i) call v.rooms.pin v.findings
sights_by_load (in_rooms (at_value r i)) call m v = sights_value r i (m.rooms.value r i) call v.rooms.pin v.findings
sights_by_load _ call m v = v.findings.sights

-- what it has of rooms
abbrev pub rooms_by_load : Spot → Memory → PassState → RoomHolds
rooms_by_load (in_rooms (at_count r)) m v = record v.rooms { pin = counted_pin m.rooms (content m.arena.bytes) r v.rooms.pin }
rooms_by_load (in_rooms (at_first r)) m v = record v.rooms { pin = walked_pin m.rooms (content m.arena.bytes) r None v.rooms.pin }
rooms_by_load (in_rooms (at_next r i)) m v = record v.rooms { pin = walked_pin m.rooms (content m.arena.bytes) r (Some i) v.rooms.pin }
rooms_by_load _ m v = v.rooms

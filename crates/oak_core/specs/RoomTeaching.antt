-- What the two steps on the value word of an entry do to what their pass knows and holds: the one that sets a fresh header writes, where it finds the floor, and has the header no more; the one that unlinks a buried header leaves it named by no entry.
use Rattle.std.specs.Prelude.{ℕ, ◌==◌, cond, List}
use Rattle.header_core.specs.declared.holds.HeaderHolds.{HeaderHolds}
use Rattle.header_core.specs.HeaderHolds.{without_header}
use Rattle.chunk_core.specs.RoomStep.{RoomStep, set_value, unlink_entry}
use Rattle.chunk_core.specs.ValueWord.{header_in}
use Rattle.oak_core.specs.declared.states.Knowledge.{Knowledge}
use Rattle.oak_core.specs.declared.states.PassState.{PassState}
use Rattle.oak_core.specs.FoundKeys.{pinned_key}
use Rattle.oak_core.specs.KeyedHeaders.{unlinked}
use Rattle.oak_core.specs.LifeKeys.{key_or}
use Rattle.oak_core.specs.MadeWrites.{held_header, wrote_insertion}
use Rattle.oak_core.specs.Memory.{Memory}

abbrev pub knows_by_room : ℕ → RoomStep → Memory → List Knowledge → PassState → Knowledge
knows_by_room call (set_value r i old new kind) m qs v = cond (m.rooms.value r i == old) (wrote_insertion v.numbers.number call kind (pinned_key r i v.rooms.pin) (held_header (header_in new) v.headers.held) qs v.knowledge) v.knowledge
knows_by_room call _ m qs v = v.knowledge

abbrev pub headers_by_room : RoomStep → Memory → PassState → HeaderHolds
headers_by_room (set_value r i old new kind) m v = record v.headers { held = cond (m.rooms.value r i == old) (without_header (header_in new) v.headers.held) v.headers.held }
headers_by_room (unlink_entry r i x) m v = record v.headers { held = unlinked (key_or (pinned_key r i v.rooms.pin)) v.headers.held }
headers_by_room _ m v = v.headers

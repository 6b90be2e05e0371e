use Rattle.std.proofs.Common.{ℕ, ◌+◌, ◌∙◌, ap, arith}
use Rattle.chunk_core.specs.Rooms.{at_value}
use Rattle.oak_core.specs.Memory.{in_rooms}
use Rattle.oak_core.specs.Passes.{key}
use Rattle.oak_core.proofs.memory.OffsetPlaces.{fits}
use Rattle.oak_core.proofs.memory.RoomPlaces.{value_behind}
use Rattle.oak_core.proofs.table.OakTable.value_at.Goals as goal

pub returns : goal.returns
returns c = ap (λ (k : ℕ). k + 1) c.key_at.ensures ∙ value_behind (key c.args.self.now) c.args.room c.args.entry

pub overflow_add-result : goal.overflow_add-result
overflow_add-result c = let s = c.args.self.now in let e = c.key_at.ensures in let b = value_behind (key s) c.args.room c.args.entry in let f = fits (key s) s.shape s.offsets s.shape_is s.offsets_are s.few (in_rooms (at_value c.args.room c.args.entry)) (c.requires.room, c.requires.entry) in omega arith

use Rattle.std.proofs.Common.{◌^◌, ◌<◌, subst, arith}
use Rattle.oak_model.specs.Limits.{Sizes}
use Rattle.oak_core.specs.Memory.{word_count}
use Rattle.oak_core.specs.Passes.{key}
use Rattle.oak_core.proofs.memory.RoomPlaces.{behind_below}
use Rattle.oak_core.proofs.table.OakTable.behind_pin.Goals as goal

pub overflow_add-result : goal.overflow_add-result
overflow_add-result c = let s = c.args.self.now in let e = c.room_at.ensures in let b = behind_below (key s) c.args.room c.args.place c.requires.room c.requires.place in let f : word_count (key s) < 2 ^ 32 = subst (λ (z : Sizes). word_count z < 2 ^ 32) s.shape_is s.few in omega arith

use Rattle.std.proofs.Common.{ℕ, ◌+◌, ◌^◌, ◌<◌, ap, ◌∙◌, subst, arith}
use Rattle.oak_model.specs.Limits.{Sizes}
use Rattle.chunk_core.specs.Rooms.{at_next}
use Rattle.oak_core.specs.Memory.{in_rooms, word_count}
use Rattle.oak_core.specs.Passes.{key}
use Rattle.oak_core.proofs.memory.RoomPlaces.{next_behind}
use Rattle.oak_core.proofs.memory.Words.{index_below}
use Rattle.chunk_ops.proofs.pinned_table.PinnedTable.next_at.Goals as goal

pub returns : goal.returns
returns c = let s = c.args.self.now in ap (λ (n : ℕ). n + 2) c.key_at.ensures ∙ next_behind (key s.table.now) s.room c.args.entry

pub overflow_add-result : goal.overflow_add-result
overflow_add-result c = let s = c.args.self.now in let z : Sizes = key s.table.now in let t = s.table.now in let k = c.key_at.ensures in let e = next_behind z s.room c.args.entry in let b = index_below z (in_rooms (at_next s.room c.args.entry)) c.requires.inside in let f : word_count z < 2 ^ 32 = subst (λ (y : Sizes). word_count y < 2 ^ 32) t.shape_is t.few in omega arith

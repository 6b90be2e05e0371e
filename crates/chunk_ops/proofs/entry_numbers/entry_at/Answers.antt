use Rattle.std.proofs.Common.{◌≡◌, ℕ, ◌+◌, ◌*◌, ◌^◌, ◌<◌, subst, arith}
use Rattle.oak_model.specs.Limits.{Sizes}
use Rattle.chunk_core.specs.Rooms.{at_key}
use Rattle.oak_core.specs.Memory.{in_rooms, index, word_count}
use Rattle.oak_core.specs.Passes.{key}
use Rattle.oak_core.proofs.memory.RoomPlaces.{key_behind}
use Rattle.oak_core.proofs.memory.Words.{index_below}
use Rattle.chunk_ops.proofs.entry_numbers.entry_at.Goals as goal

-- the key words of a room's entries lie as far apart as an entry has words
apart : (z : Sizes) (r i first : ℕ) → first ≡ index z (in_rooms (at_key r 0)) → first + i * 3 ≡ index z (in_rooms (at_key r i))
apart z r i first e = let a = key_behind z r 0 in let b = key_behind z r i in omega arith

pub returns : goal.returns
returns c = apart (key c.args.table.now) c.args.room c.args.entry c.args.first c.requires.first

pub overflow_add-result : goal.overflow_add-result
overflow_add-result c = let t = c.args.table.now in let z : Sizes = key t in let e = apart z c.args.room c.args.entry c.args.first c.requires.first in let b = index_below z (in_rooms (at_key c.args.room c.args.entry)) c.requires.inside in let f : word_count z < 2 ^ 32 = subst (λ (y : Sizes). word_count y < 2 ^ 32) t.shape_is t.few in omega arith

pub overflow_mul-result : goal.overflow_mul-result
overflow_mul-result c = let t = c.args.table.now in let z : Sizes = key t in let e = apart z c.args.room c.args.entry c.args.first c.requires.first in let b = index_below z (in_rooms (at_key c.args.room c.args.entry)) c.requires.inside in let f : word_count z < 2 ^ 32 = subst (λ (y : Sizes). word_count y < 2 ^ 32) t.shape_is t.few in omega arith

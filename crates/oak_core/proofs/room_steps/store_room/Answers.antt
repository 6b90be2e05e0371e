use Rattle.std.proofs.Common.{arith}
use Rattle.oak_core.specs.Passes.{key, opened_at, call_of}
use Rattle.oak_core.proofs.memory.RebalanceNames.{room_word_below, allows_room_word}
use Rattle.oak_core.proofs.room_steps.store_room.Goals as goal

pub store_said-requires-clause-rule : goal.store_said-requires-clause-rule
store_said-requires-clause-rule c = let n = c.requires.names in allows_room_word (key c.args.table.now) (opened_at c.args.table.now) (call_of c.args.pass.now) _ c.args.pass.now.seat.id c.args.pass.now.seat.me c.args.pass.now.going c.args.word c.args.value n.0 n.1 n.2

pub store_said-requires-clause-inside : goal.store_said-requires-clause-inside
store_said-requires-clause-inside c = let n = c.requires.names in let h = room_word_below (key c.args.table.now) n.0 c.args.word n.1 in let w = c.args.table.now.counted in let k = c.args.table.now.shape_is in grind (arith, h, w, k)

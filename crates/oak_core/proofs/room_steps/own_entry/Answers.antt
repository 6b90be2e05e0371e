use Rattle.std.proofs.Common.{arith}
use Rattle.oak_core.specs.Passes.{key, opened_at, call_of}
use Rattle.oak_core.proofs.memory.RoomNames.{entry_below, allows_own}
use Rattle.oak_core.proofs.room_steps.own_entry.Goals as goal

pub store_said-requires-clause-rule : goal.store_said-requires-clause-rule
store_said-requires-clause-rule c = let n = c.requires.names in allows_own (key c.args.table.now) (opened_at c.args.table.now) (call_of c.args.pass.now) _ c.args.pass.now.seat.id c.args.pass.now.seat.me c.args.pass.now.going c.args.word c.args.value n.0 n.1 n.2 n.3 n.4

pub store_said-requires-clause-inside : goal.store_said-requires-clause-inside
store_said-requires-clause-inside c = let n = c.requires.names in let h = entry_below (key c.args.table.now) n.0 n.1 n.2 c.args.word n.3 in let w = c.args.table.now.counted in let k = c.args.table.now.shape_is in grind (arith, h, w, k)

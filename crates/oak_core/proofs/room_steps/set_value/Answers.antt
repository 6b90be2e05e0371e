use Rattle.std.proofs.Common.{arith}
use Rattle.chunk_core.specs.RoomStep.{of_value}
use Rattle.oak_core.specs.Passes.{key, opened_at, call_of}
use Rattle.oak_core.proofs.memory.RoomNames.{entry_below, allows_set}
use Rattle.oak_core.proofs.room_steps.set_value.Goals as goal

pub exchange_of_kind-requires-clause-rule : goal.exchange_of_kind-requires-clause-rule
exchange_of_kind-requires-clause-rule c = let n = c.requires.names in allows_set (key c.args.table.now) (opened_at c.args.table.now) (call_of c.args.pass.now) _ c.args.pass.now.seat.id c.args.pass.now.seat.me c.args.pass.now.going c.args.word c.args.old c.args.new n.0 n.1 c.args.kind n.2 n.3

pub exchange_of_kind-requires-clause-inside : goal.exchange_of_kind-requires-clause-inside
exchange_of_kind-requires-clause-inside c = let n = c.requires.names in let h = entry_below (key c.args.table.now) of_value n.0 n.1 c.args.word n.2 in let w = c.args.table.now.counted in let k = c.args.table.now.shape_is in grind (arith, h, w, k)

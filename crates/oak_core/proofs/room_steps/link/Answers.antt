use Rattle.std.proofs.Common.{arith}
use Rattle.oak_core.specs.Passes.{key, opened_at, call_of}
use Rattle.oak_core.proofs.memory.RoomNames.{link_below, allows_link}
use Rattle.oak_core.proofs.room_steps.link.Goals as goal

pub exchange_said-requires-clause-rule : goal.exchange_said-requires-clause-rule
exchange_said-requires-clause-rule c = let n = c.requires.names in allows_link (key c.args.table.now) (opened_at c.args.table.now) (call_of c.args.pass.now) _ c.args.pass.now.seat.id c.args.pass.now.seat.me c.args.pass.now.going c.args.word c.args.old c.args.new n.0 n.1 n.2 n.3 n.4 n.5

pub exchange_said-requires-clause-inside : goal.exchange_said-requires-clause-inside
exchange_said-requires-clause-inside c = let n = c.requires.names in let h = link_below (key c.args.table.now) n.0 n.1 c.args.word n.3 in let w = c.args.table.now.counted in let k = c.args.table.now.shape_is in grind (arith, h, w, k)

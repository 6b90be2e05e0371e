use Rattle.std.proofs.Common.{arith}
use Rattle.oak_core.specs.Passes.{key, opened_at, call_of}
use Rattle.oak_core.proofs.memory.ArenaNames.{bit_below, allows_take}
use Rattle.oak_core.proofs.steps.take_bit.Goals as goal

pub or_said-requires-clause-rule : goal.or_said-requires-clause-rule
or_said-requires-clause-rule c = let n = c.requires.names in allows_take (key c.args.table.now) (opened_at c.args.table.now) (call_of c.args.pass.now) _ c.args.pass.now.seat.id c.args.pass.now.seat.me c.args.pass.now.going c.args.word c.args.operand n.0 n.1 n.2

pub or_said-requires-clause-inside : goal.or_said-requires-clause-inside
or_said-requires-clause-inside c = let n = c.requires.names in let h = bit_below (key c.args.table.now) n.0 n.1 c.args.word c.args.operand n.2 in let w = c.args.table.now.counted in let k = c.args.table.now.shape_is in grind (arith, h, w, k)

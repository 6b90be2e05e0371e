use Rattle.std.proofs.Common.{arith}
use Rattle.oak_core.specs.Passes.{key, opened_at, call_of}
use Rattle.oak_core.proofs.memory.HeaderNames.{pin_below}
use Rattle.oak_core.proofs.memory.LockNames.{allows_unlock}
use Rattle.oak_core.proofs.header_steps.unlock_header.Goals as goal

pub sub_of_kind-requires-clause-rule : goal.sub_of_kind-requires-clause-rule
sub_of_kind-requires-clause-rule c = let n = c.requires.names in allows_unlock (key c.args.table.now) (opened_at c.args.table.now) (call_of c.args.pass.now) _ c.args.pass.now.seat.id c.args.pass.now.seat.me c.args.pass.now.going c.args.word c.args.operand n.0 c.args.kind n.1 n.2 n.3 n.4

pub sub_of_kind-requires-clause-inside : goal.sub_of_kind-requires-clause-inside
sub_of_kind-requires-clause-inside c = let n = c.requires.names in let h = pin_below (key c.args.table.now) n.0 c.args.word n.1.inside n.1.word_is in let w = c.args.table.now.counted in let k = c.args.table.now.shape_is in grind (arith, h, w, k)

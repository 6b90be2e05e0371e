use Rattle.oak_core.specs.Passes.{state, key, call_of}
use Rattle.arena_ops.proofs.StackLaws.{stack_put}
use Rattle.table_tests.proofs.values.arena_ops_tests.take_at.Goals as goal

pub returns-clause-stack : goal.returns-clause-stack
returns-clause-stack g c = stack_put (key c.args.table.now) (call_of c.args.pass.now) c.args.class c.args.numbers.now c.args.i _ (state c.args.pass.now) (state c.take.new.pass) c.requires.inside c.requires.stack c.in-Ok.ensures.taken.1

use Rattle.std.proofs.Common.{slice_index, suc}
use Rattle.oak_core.specs.Passes.{state, key, call_of}
use Rattle.arena_ops.proofs.StackLaws.{stack_top, stack_stored}
use Rattle.table_tests.proofs.values.arena_ops_tests.store_at.Goals as goal

pub store-requires-clause-held : goal.store-requires-clause-held
store-requires-clause-held c = stack_top (key c.args.table.now) c.args.class (λ k. slice_index c.args.numbers.now k) c.args.i (state c.args.pass.now).blocks c.requires.stack

pub returns-clause-stack : goal.returns-clause-stack
returns-clause-stack c = stack_stored (key c.args.table.now) (call_of c.args.pass.now) c.args.class (λ k. slice_index c.args.numbers.now k) (suc c.args.i) _ _ _ (state c.args.pass.now) (state c.store.new.pass) c.requires.stack c.store.ensures.stored

use Rattle.std.proofs.Common.{sym, subst}
use Rattle.oak_core.specs.Passes.{state, key, call_of}
use Rattle.oak_core.specs.PassState.{IsAlone}
use Rattle.oak_core.proofs.seats.Alone.{alone_again}
use Rattle.table_tests.proofs.table.pass_tests.split_and_join.Goals as goal

pub returns-clause-alone : goal.returns-clause-alone
returns-clause-alone g c = subst IsAlone (sym c.join.ensures.joined) (alone_again (key c.args.table.now) (call_of c.args.pass.now) (state c.args.pass.now) (state c.split.new.self) (state c.in-Ok.other) (state c.look_together.new.a) (state c.look_together.new.b) c.requires.alone c.in-Ok.ensures.split c.look_together.ensures.numbers.0 c.look_together.ensures.numbers.1)

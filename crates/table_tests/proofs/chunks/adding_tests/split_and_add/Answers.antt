use Rattle.std.proofs.Common.{sym, subst}
use Rattle.oak_core.specs.Passes.{state, key as sizes, call_of}
use Rattle.oak_core.specs.PassState.{IsAlone}
use Rattle.oak_core.proofs.seats.Alone.{alone_again}
use Rattle.table_tests.proofs.chunks.adding_tests.split_and_add.Goals as goal

pub returns-clause-alone : goal.returns-clause-alone
returns-clause-alone g c = subst IsAlone (sym c.join.ensures.joined) (alone_again (sizes c.args.table.now) (call_of c.args.pass.now) (state c.args.pass.now) (state c.split.new.self) (state c.in-Ok.other) (state c.add_together.new.a) (state c.add_together.new.b) c.requires.alone c.in-Ok.ensures.split c.add_together.ensures.idle.0.numbers c.add_together.ensures.idle.1.numbers)

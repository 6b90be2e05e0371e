use Rattle.std.proofs.Common.{sym, subst}
use Rattle.oak_core.specs.Passes.{state, key, call_of}
use Rattle.oak_core.specs.PassState.{IsAlone}
use Rattle.oak_core.proofs.seats.Alone.{alone_again}
use Rattle.table_tests.proofs.table.rebalance_tests.split_and_thaw.Goals as goal

pub returns-clause-alone : goal.returns-clause-alone
returns-clause-alone g c = subst IsAlone (sym c.join.ensures.joined) (alone_again (key c.args.table.now) (call_of c.args.pass.now) (state c.args.pass.now) (state c.split.new.self) (state c.in-Ok.other) (state c.pin_round_a_thaw.new.pass) (state c.pin_round_a_thaw.new.other) c.requires.alone c.in-Ok.ensures.split c.pin_round_a_thaw.ensures.numbers.0 c.pin_round_a_thaw.ensures.numbers.1)

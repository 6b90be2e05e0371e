use Rattle.std.proofs.Common.{sym, subst}
use Rattle.oak_core.specs.PassState.{IsAlone}
use Rattle.oak_core.proofs.seats.Alone.{alone_again}
use Rattle.oak_map.specs.Maps.{call_of, sizes, state}
use Rattle.map_tests.proofs.map.thread_tests.split_and_work.Goals as goal

pub returns-clause-alone : goal.returns-clause-alone
returns-clause-alone g c = subst IsAlone (sym c.join.ensures.joined) (alone_again (sizes c.args.map.now) (call_of c.args.pass.now) (state c.args.pass.now) (state c.split.new.pass) (state c.in-Ok.other) (state c.work_together.new.a) (state c.work_together.new.b) c.requires.alone c.in-Ok.ensures.split
    c.work_together.ensures.ready.numbers c.work_together.ensures.numbers)

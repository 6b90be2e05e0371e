use Rattle.std.proofs.Common.{◌∙◌, sym, subst}
use Rattle.oak_core.specs.Passes.{state, key as sizes, call_of}
use Rattle.oak_core.specs.PassState.{IsAlone}
use Rattle.oak_core.proofs.seats.Alone.{alone_again}
use Rattle.call_tests.proofs.keys.reader_tests.split_and_read.Goals as goal

pub returns-clause-alone : goal.returns-clause-alone
returns-clause-alone g c = subst IsAlone (sym c.join.ensures.joined) (alone_again (sizes c.args.table.now) (call_of c.args.pass.now) (state c.args.pass.now) (state c.split.new.self) (state c.in-Ok.other) (state c.reads_what_another_put.new.pass) (state c.reads_what_another_put.new.other) c.requires.alone c.in-Ok.ensures.split
    c.reads_what_another_put.ensures.ready.numbers c.reads_what_another_put.ensures.other.numbers)

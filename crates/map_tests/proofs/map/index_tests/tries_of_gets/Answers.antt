use Rattle.std.proofs.Common.{refl, sym, subst}
use Rattle.oak_core.specs.PassState.{IsAlone}
use Rattle.oak_core.proofs.seats.Alone.{alone_again}
use Rattle.oak_map.specs.Maps.{call_of, sizes, state}
use Rattle.map_tests.proofs.map.index_tests.tries_of_gets.Goals as goal

pub returns-clause-alone : goal.returns-clause-alone
returns-clause-alone g c = let w = state c.split.new.pass in
    subst IsAlone (sym c.join.ensures.joined) (alone_again (sizes c.args.map.now) (call_of c.args.pass.now) (state c.args.pass.now) w (state c.in-Ok.other) w (state c.get_all-found.new.pass) c.requires.alone c.in-Ok.ensures.split refl c.get_all-found.ensures.ready.numbers)

use Rattle.std.proofs.Common.{◌∙◌, sym, subst}
use Rattle.oak_core.specs.Passes.{state, key as sizes, call_of}
use Rattle.oak_core.specs.PassState.{IsAlone}
use Rattle.oak_core.proofs.seats.Alone.{alone_again}
use Rattle.call_tests.proofs.keys.tests.split_and_flip.Goals as goal

pub returns-clause-alone : goal.returns-clause-alone
returns-clause-alone g c = subst IsAlone (sym c.join.ensures.joined) (alone_again (sizes c.args.table.now) (call_of c.args.pass.now) (state c.args.pass.now) (state c.split.new.self) (state c.in-Ok.other) (state c.flip_together.new.a) (state c.flip_together.new.b) c.requires.alone c.in-Ok.ensures.split
    c.flip_together.ensures.ready.0.numbers (c.flip_together.ensures.ready.1.numbers ∙ (λ i. ((c.turn.ensures.state i).0).numbers)))

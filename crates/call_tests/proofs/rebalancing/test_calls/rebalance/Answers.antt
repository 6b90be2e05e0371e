use Rattle.oak_core.specs.Passes.{state, key as sizes, call_of}
use Rattle.call_tests.proofs.TestLaws.{leaves_ready, split_leaves}
use Rattle.call_tests.proofs.rebalancing.test_calls.rebalance.Goals as goal

pub returns-in-Ok-Halved-clause-ready : goal.returns-in-Ok-Halved-clause-ready
returns-in-Ok-Halved-clause-ready g c = let call = call_of c.args.pass.now in let v = state c.args.pass.now in let w = state c.split.new.pass in
    leaves_ready call v w (split_leaves c.split.result (sizes c.args.table.now) call c.args.key.now v w c.split.ensures.loosened c.split.ensures.halved c.split.ensures.none) c.requires.ready

pub returns-in-Ok-Halved-clause-knows : goal.returns-in-Ok-Halved-clause-knows
returns-in-Ok-Halved-clause-knows g c = let v = state c.args.pass.now in let w = state c.split.new.pass in
    (split_leaves c.split.result (sizes c.args.table.now) (call_of c.args.pass.now) c.args.key.now v w c.split.ensures.loosened c.split.ensures.halved c.split.ensures.none).knowledge

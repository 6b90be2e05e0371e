use Rattle.oak_core.specs.Passes.{state, key as sizes, call_of}
use Rattle.call_tests.proofs.TestLaws.{leaves_ready, split_leaves}
use Rattle.call_tests.proofs.scans.test_calls.halve.Goals as goal

pub returns-clause-ready : goal.returns-clause-ready
returns-clause-ready g c = let call = call_of c.args.pass.now in let v = state c.args.pass.now in let w = state c.split-halved.new.pass in
    leaves_ready call v w (split_leaves c.split-halved.result (sizes c.args.table.now) call c.args.key.now v w c.split-halved.ensures.loosened c.split-halved.ensures.halved c.split-halved.ensures.none) c.requires.ready

pub returns-clause-knows : goal.returns-clause-knows
returns-clause-knows g c = let v = state c.args.pass.now in let w = state c.split-halved.new.pass in
    (split_leaves c.split-halved.result (sizes c.args.table.now) (call_of c.args.pass.now) c.args.key.now v w c.split-halved.ensures.loosened c.split-halved.ensures.halved c.split-halved.ensures.none).knowledge

use Rattle.oak_core.specs.Passes.{state, call_of}
use Rattle.call_tests.proofs.TestLaws.{leaves_idle}
use Rattle.call_tests.proofs.rebalancing.busy_tests.settles.Goals as goal

pub returns-in-Ok-clause-idle : goal.returns-in-Ok-clause-idle
returns-in-Ok-clause-idle g c = leaves_idle (call_of c.args.pass.now) (state c.args.pass.now) (state c.try_settle.new.pass) c.in-Ok.ensures.settled.leaves c.requires.idle

pub returns-in-Err-clause-idle : goal.returns-in-Err-clause-idle
returns-in-Err-clause-idle g c = leaves_idle (call_of c.args.pass.now) (state c.args.pass.now) (state c.try_settle.new.pass) c.in-Err.ensures.busy.leaves c.requires.idle

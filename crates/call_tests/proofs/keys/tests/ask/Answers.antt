use Rattle.oak_core.specs.Passes.{state, call_of}
use Rattle.point_ops.proofs.TestLaws.{wrote_again}
use Rattle.call_tests.proofs.keys.tests.ask.Goals as goal

pub returns-in-Put-clause-ready : goal.returns-in-Put-clause-ready
returns-in-Put-clause-ready g c = wrote_again c.try_put.result (call_of c.args.pass.now) _ _ (state c.args.pass.now) (state c.try_put.new.pass) c.try_put.ensures.wrote c.try_put.ensures.refused c.requires.ready

pub returns-in-PutNew-clause-ready : goal.returns-in-PutNew-clause-ready
returns-in-PutNew-clause-ready g c = wrote_again c.try_put_if_absent.result (call_of c.args.pass.now) _ _ (state c.args.pass.now) (state c.try_put_if_absent.new.pass) c.try_put_if_absent.ensures.wrote c.try_put_if_absent.ensures.refused c.requires.ready

pub returns-in-Xor-clause-ready : goal.returns-in-Xor-clause-ready
returns-in-Xor-clause-ready g c = wrote_again c.try_compute.result (call_of c.args.pass.now) _ _ (state c.args.pass.now) (state c.try_compute.new.pass) c.try_compute.ensures.wrote c.try_compute.ensures.refused c.requires.ready

pub returns-in-Upsert-clause-ready : goal.returns-in-Upsert-clause-ready
returns-in-Upsert-clause-ready g c = wrote_again c.try_upsert.result (call_of c.args.pass.now) _ _ (state c.args.pass.now) (state c.try_upsert.new.pass) c.try_upsert.ensures.wrote c.try_upsert.ensures.refused c.requires.ready

pub returns-in-Remove-clause-ready : goal.returns-in-Remove-clause-ready
returns-in-Remove-clause-ready g c = wrote_again c.try_remove.result (call_of c.args.pass.now) _ _ (state c.args.pass.now) (state c.try_remove.new.pass) c.try_remove.ensures.wrote c.try_remove.ensures.refused c.requires.ready

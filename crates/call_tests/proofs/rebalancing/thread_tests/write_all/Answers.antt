use Rattle.std.proofs.Common.{◌+◌}
use Rattle.oak_core.specs.Passes.{state}
use Rattle.point_ops.proofs.TestLaws.{again_both}
use Rattle.call_tests.proofs.rebalancing.thread_tests.write_all.Goals as goal

pub loop-i-preserved : goal.loop-i-preserved
loop-i-preserved g c = let e = c.write_one.ensures in record {
  own = e.own;
  call = e.call;
  ready = again_both c.loop-i.i (c.loop-i.i + 1) (state c.args.pass.now) (state c.loop-i.pass) (state c.write_one.new.pass) c.loop-i.invariant.ready e.ready;
}

use Rattle.std.proofs.Common.{arith, ◌+◌}
use Rattle.oak_core.specs.Passes.{state}
use Rattle.point_ops.proofs.TestLaws.{again_both}
use Rattle.call_tests.proofs.keys.tests.have_replies.Goals as goal

pub loop-i-preserved : goal.loop-i-preserved
loop-i-preserved g c = let e = c.has_reply.ensures in let s = c.loop-i.invariant in record {
  own = e.own;
  call = e.call;
  ready = again_both c.loop-i.i (c.loop-i.i + 1) (state c.args.pass.now) (state c.loop-i.pass) (state c.has_reply.new.pass) s.ready e.ready;
  few = let had = s.few in let one = e.few in omega arith;
}

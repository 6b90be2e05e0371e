use Rattle.oak_core.specs.Passes.{Stays}
use Rattle.oak_core.specs.QuietSteps.{Quiet}
use Rattle.point_ops.specs.Replies.{Refuses}
use Rattle.oak_map.specs.Maps.{call_of, pass_of, state}
use Rattle.oak_map.proofs.LoneRetries.{Waits}
use Rattle.oak_map.proofs.map.OakMap.view.Given as goal

abbrev pub invariant-loop : goal.invariant-loop
invariant-loop g l = record {
  next : (goal.iterator-loop g).can_next l.iterator';
  stays : Stays (pass_of l.fn.pass) (pass_of l.pass);
  refused : Refuses (call_of l.fn.pass) (state l.fn.pass) (state l.pass);
  quiet : Quiet (state l.fn.pass) (state l.pass);
  waits : Waits (state l.fn.pass) (state l.pass);
}

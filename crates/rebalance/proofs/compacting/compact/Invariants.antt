use Rattle.oak_core.specs.Passes.{state, call_of}
use Rattle.oak_core.specs.Scratch.{StaysButSlots}
use Rattle.rebalance.proofs.GivenUp.{Waits}
use Rattle.rebalance.proofs.compacting.compact.Given as goal

abbrev pub invariant-loop : goal.invariant-loop
invariant-loop g l = record {
  next : (goal.iterator-loop g).can_next l.iterator';
  stays : StaysButSlots l.fn.pass l.pass;
  waits : Waits (call_of l.fn.pass) (state l.fn.pass) (state l.pass);
}

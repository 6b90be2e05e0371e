use Rattle.oak_model.specs.Key.{IsKey}
use Rattle.oak_core.specs.Passes.{Stays, call_of, state}
use Rattle.chunk_ops.specs.PinRecords.{OnlyMeets}
use Rattle.oak_map.proofs.mending.mend.Given as goal

abbrev pub invariant-loop : goal.invariant-loop
invariant-loop g l = record {
  next : (goal.iterator-loop g).can_next l.iterator';
  stays : Stays l.fn.pass l.pass;
  only : OnlyMeets (call_of l.fn.pass) (state l.fn.pass) (state l.pass);
  key : IsKey l.from;
}

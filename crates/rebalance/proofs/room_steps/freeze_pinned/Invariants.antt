use Rattle.std.proofs.Common.{◌<◌}
use Rattle.oak_core.specs.AloneWords.{Runs}
use Rattle.oak_core.specs.Passes.{Stays, state, key, call_of}
use Rattle.chunk_ops.specs.AddsAlone.{Never}
use Rattle.rebalance.specs.Resting.{OnlyRests}
use Rattle.rebalance.specs.Holding.{FindsChanged}
use Rattle.rebalance.specs.Repeating.{Repeats}
use Rattle.rebalance.proofs.room_steps.freeze_pinned.Given as goal

abbrev pub invariant-loop : goal.invariant-loop
invariant-loop l = record {
  stays : Stays l.fn.pass l.pass;
  only : OnlyRests (call_of l.fn.pass) (state l.fn.pass) (state l.pass);
  changed : Repeats (FindsChanged (key l.table) (call_of l.fn.pass) l.pin.room) (state l.fn.pass) l.counter (state l.pass);
  alone : 0 < l.counter → Runs Never (state l.fn.pass) (state l.pass);
}

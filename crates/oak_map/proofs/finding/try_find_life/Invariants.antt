use Rattle.std.proofs.Common.{◌<◌, ◌≤◌}
use Rattle.oak_core.specs.Passes.{Stays, call_of, key as sizes, state}
use Rattle.chunk_ops.specs.RoomPins.{HadMoment}
use Rattle.value_ops.specs.Views.{KnowsView}
use Rattle.oak_map.specs.GivingUp.{IsLocked}
use Rattle.oak_map.proofs.FoundLives.{SearchesLife}
use Rattle.oak_map.proofs.RepeatedTries.{Tried}
use Rattle.oak_map.proofs.finding.try_find_life.Given as goal

abbrev pub invariant-loop : goal.invariant-loop
invariant-loop l = record {
  stays : Stays l.fn.pass l.pass;
  few : l.counter ≤ l.looks;
  known : KnowsView (sizes l.table) l.view (state l.pass);
  begun : 0 < l.counter → HadMoment (sizes l.table) (state l.fn.pass);
  searches : SearchesLife (sizes l.table) (call_of l.fn.pass) (state l.fn.pass) (state l.pass);
  tried : Tried (IsLocked (sizes l.table) (call_of l.fn.pass) l.view) (call_of l.fn.pass) l.counter (state l.fn.pass) (state l.pass);
}

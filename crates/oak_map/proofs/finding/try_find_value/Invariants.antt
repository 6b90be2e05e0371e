use Rattle.std.proofs.Common.{◌≤◌}
use Rattle.oak_model.specs.declared.cells.CellCall.TheVariants.{Get}
use Rattle.oak_core.specs.Passes.{Stays, call_of, key as sizes, state}
use Rattle.oak_core.specs.QuietSteps.{Quiet}
use Rattle.oak_map.specs.GivingUp.{IsHalted}
use Rattle.oak_map.proofs.RepeatedTries.{Tried}
use Rattle.oak_map.proofs.finding.try_find_value.Given as goal

abbrev pub invariant-loop : goal.invariant-loop
invariant-loop l = record {
  stays : Stays l.fn.pass l.pass;
  few : l.counter ≤ l.looks;
  quiet : Quiet (state l.fn.pass) (state l.pass);
  tried : Tried (IsHalted (sizes l.table) (call_of l.fn.pass) l.key Get) (call_of l.fn.pass) l.counter (state l.fn.pass) (state l.pass);
}

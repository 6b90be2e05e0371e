use Rattle.std.proofs.Common.{◌≡◌, ◌≤◌}
use Rattle.point_ops.specs.TestStates.{IsReadyAgain}
use Rattle.oak_map.specs.Maps.{IsReady, call_of, state}
use Rattle.rounds.proofs.scan.rounds.fill.Given as goal

abbrev pub invariant-loop-number : goal.invariant-loop-number
invariant-loop-number g l = record {
  own : IsReady l.map l.pass;
  call : call_of l.pass ≡ l.number;
  ready : IsReadyAgain l.number (state l.fn.pass) (state l.pass);
  few : l.new ≤ l.number;
}

use Rattle.std.proofs.Common.{◌≡◌, ◌≤◌}
use Rattle.oak_core.specs.Passes.{IsPassOf, state, call_of}
use Rattle.point_ops.specs.TestStates.{IsReadyAgain}
use Rattle.rounds.proofs.point.chunks.fill.Given as goal

abbrev pub invariant-loop-number : goal.invariant-loop-number
invariant-loop-number l = record {
  own : IsPassOf l.fn.table l.pass;
  call : call_of l.pass ≡ l.number;
  ready : IsReadyAgain l.number (state l.fn.pass) (state l.pass);
  few : l.new ≤ l.number;
}

use Rattle.std.proofs.Common.{◌≡◌}
use Rattle.oak_core.specs.Passes.{IsPassOf, state, call_of}
use Rattle.point_ops.specs.TestStates.{IsReadyAgain}
use Rattle.call_tests.proofs.scans.tests.put_lengths.Given as goal

abbrev pub invariant-loop-i : goal.invariant-loop-i
invariant-loop-i g l = record {
  own : IsPassOf l.table l.pass;
  call : call_of l.pass ≡ l.i;
  ready : IsReadyAgain l.i (state l.fn.pass) (state l.pass);
}

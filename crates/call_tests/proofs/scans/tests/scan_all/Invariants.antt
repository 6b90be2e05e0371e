use Rattle.std.proofs.Common.{◌≡◌}
use Rattle.oak_core.specs.PassState.{HoldsNothing}
use Rattle.oak_core.specs.Passes.{IsPassOf, state}
use Rattle.call_tests.proofs.scans.tests.scan_all.Given as goal

abbrev pub invariant-loop-scan : goal.invariant-loop-scan
invariant-loop-scan g l = record {
  own : IsPassOf l.table l.pass;
  idle : HoldsNothing (state l.pass);
  numbers : (state l.pass).numbers ≡ (state l.fn.pass).numbers;
}

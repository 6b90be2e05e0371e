use Rattle.std.proofs.Common.{◌≡◌, ◌+◌}
use Rattle.point_ops.specs.TestStates.{IsReadyAgain}
use Rattle.oak_map.specs.Maps.{IsReady, call_of, state}
use Rattle.map_tests.specs.declared.map.thread_tests.TheConstants.{STAY}
use Rattle.map_tests.proofs.map.thread_tests.write_all.Given as goal

abbrev pub invariant-loop-number : goal.invariant-loop-number
invariant-loop-number g l = record {
  own : IsReady l.map l.pass;
  call : call_of l.pass ≡ STAY + l.number;
  ready : IsReadyAgain (STAY + l.number) (state l.fn.pass) (state l.pass);
}

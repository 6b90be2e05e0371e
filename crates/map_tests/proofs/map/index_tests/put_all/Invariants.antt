use Rattle.std.proofs.Common.{◌≡◌}
use Rattle.point_ops.specs.TestStates.{IsReadyAgain}
use Rattle.oak_map.specs.Maps.{IsReady, call_of, state}
use Rattle.map_tests.proofs.map.index_tests.put_all.Given as goal

abbrev pub invariant-loop-i : goal.invariant-loop-i
invariant-loop-i g l = record {
  own : IsReady l.map l.pass;
  call : call_of l.pass ≡ l.i;
  ready : IsReadyAgain l.i (state l.fn.pass) (state l.pass);
}

use Rattle.std.proofs.Common.{◌+◌, ◌≤◌}
use Rattle.point_ops.specs.TestStates.{IsReady as IsReadyFor}
use Rattle.oak_map.specs.Maps.{IsReady, call_of, state}
use Rattle.map_tests.proofs.map.room_tests.put_each.Given as goal

abbrev pub invariant-loop-i : goal.invariant-loop-i
invariant-loop-i g l = record {
  own : IsReady l.map l.pass;
  call : call_of l.pass ≤ l.call + l.i;
  ready : IsReadyFor (call_of l.pass) (state l.pass);
}

use Rattle.std.proofs.Common.{◌≡◌, ◌≤◌}
use Rattle.oak_core.specs.Scratch.{StaysButSlots}
use Rattle.scan_cursor.specs.Cursors.{IsCursor, under}
use Rattle.map_tests.proofs.map.thread_tests.goes_over.Given as goal

abbrev pub invariant-loop-step : goal.invariant-loop-step
invariant-loop-step g l = record {
  same_reference : l.cursor.pass.ghost_name ≡ l.fn.cursor.pass.ghost_name;
  table : l.cursor.table ≡ l.fn.cursor.table;
  own : StaysButSlots l.fn.cursor.pass.now l.cursor.pass.now;
  cursor : IsCursor l.cursor;
  numbers : (under l.cursor).numbers ≡ (under l.fn.cursor).numbers;
  stay : l.stay ≤ l.step;
}

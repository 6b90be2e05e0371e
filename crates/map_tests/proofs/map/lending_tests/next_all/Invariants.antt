use Rattle.std.proofs.Common.{◌≡◌, length}
use Rattle.oak_core.specs.QuietSteps.{Quiet}
use Rattle.oak_core.specs.Scratch.{StaysButSlots}
use Rattle.scan_cursor.specs.Cursors.{IsCursor, under}
use Rattle.map_tests.proofs.map.lending_tests.next_all.Given as goal

abbrev pub invariant-loop-i : goal.invariant-loop-i
invariant-loop-i g l = record {
  same_reference : l.cursor.pass.ghost_name ≡ l.fn.cursor.pass.ghost_name;
  table : l.cursor.table ≡ l.fn.cursor.table;
  own : StaysButSlots l.fn.cursor.pass.now l.cursor.pass.now;
  cursor : IsCursor l.cursor;
  numbers : (under l.cursor).numbers ≡ (under l.fn.cursor).numbers;
  quiet : Quiet (under l.fn.cursor) (under l.cursor);
  long : length l.out ≡ length l.fn.out;
}

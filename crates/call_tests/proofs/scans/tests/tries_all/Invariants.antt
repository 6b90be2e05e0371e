use Rattle.std.proofs.Common.{◌≡◌}
use Rattle.oak_core.specs.Scratch.{StaysButSlots}
use Rattle.scan_cursor.specs.Cursors.{IsCursor, under}
use Rattle.call_tests.proofs.scans.tests.tries_all.Given as goal

abbrev pub invariant-loop-letter : goal.invariant-loop-letter
invariant-loop-letter g l = record {
  same_reference : l.cursor.pass.ghost_name ≡ l.fn.cursor.pass.ghost_name;
  table : l.cursor.table ≡ l.fn.cursor.table;
  own : StaysButSlots l.fn.cursor.pass.now l.cursor.pass.now;
  cursor : IsCursor l.cursor;
  numbers : (under l.cursor).numbers ≡ (under l.fn.cursor).numbers;
}

use Rattle.std.proofs.Common.{◌≡◌}
use Rattle.oak_core.specs.Scratch.{StaysButSlots}
use Rattle.scan_cursor.specs.Cursors.{IsCursor, under}
use Rattle.rounds.proofs.scan.rounds.go_over.Given as goal

abbrev pub invariant-loop : goal.invariant-loop
invariant-loop g l = record {
  same_reference : l.cursor.pass.ghost_name ≡ l.fn.cursor.pass.ghost_name;
  own : StaysButSlots l.fn.cursor.pass.now l.cursor.pass.now;
  cursor : IsCursor l.cursor;
  numbers : (under l.cursor).numbers ≡ (under l.fn.cursor).numbers;
}

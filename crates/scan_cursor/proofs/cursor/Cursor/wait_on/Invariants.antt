use Rattle.std.proofs.Common.{◌≡◌, false, None}
use Rattle.scan_cursor.specs.Cursors.{IsCursor}
use Rattle.scan_cursor.proofs.TriedLaws.{HasTried}
use Rattle.scan_cursor.proofs.cursor.Cursor.wait_on.Given as goal

abbrev pub invariant-loop : goal.invariant-loop
invariant-loop g l = record {
  next : (goal.iterator-loop g).can_next l.iterator';
  same_reference : l.self.pass.ghost_name ≡ l.fn.self.pass.ghost_name;
  cursor : IsCursor l.self;
  none : l.self.value ≡ None;
  going : l.self.walk.mark.ended ≡ false;
  tried : HasTried l.fn.self l.self;
}

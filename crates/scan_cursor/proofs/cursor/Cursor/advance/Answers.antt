use Rattle.scan_cursor.specs.Cursors.{under, view_under}
use Rattle.scan_cursor.proofs.ReadingViews.{later_both}
use Rattle.scan_cursor.proofs.StepLaws.{but_both}
use Rattle.scan_cursor.proofs.TriedLaws.{HasTried, tried_advances, tried_more, tried_none}
use Rattle.scan_cursor.proofs.cursor.Cursor.advance.Goals as goal

pub wait_on-requires-clause-none : goal.wait_on-requires-clause-none
wait_on-requires-clause-none g c = c.in_default.ensures.busy.value

pub wait_on-requires-clause-going : goal.wait_on-requires-clause-going
wait_on-requires-clause-going g c = c.in_default.ensures.busy.going

pub returns-clause-own : goal.returns-clause-own
returns-clause-own g c = but_both c.args.self.now.pass.now c.try_advance.new.self.pass.now c.wait_on.new.self.pass.now c.try_advance.ensures.own c.wait_on.ensures.own

pub returns-clause-later : goal.returns-clause-later
returns-clause-later g c = later_both (view_under c.args.self.now) (view_under c.try_advance.new.self) (view_under c.wait_on.new.self) c.try_advance.ensures.later c.wait_on.ensures.later

pub returns-clause-advances : goal.returns-clause-advances
returns-clause-advances g c = let n = c.args.self.now in let m = c.try_advance.new.self in let e = c.try_advance.ensures in
    let tried : HasTried n m = tried_more n n m (tried_none n) e.table e.low e.high e.way e.own e.later 1 c.in_default.ensures.busy e.still in
    tried_advances n m c.wait_on.new.self tried c.wait_on.result c.wait_on.ensures.advances

pub returns-clause-still : goal.returns-clause-still
returns-clause-still g c = let n = c.args.self.now in let m = c.try_advance.new.self in let e = c.try_advance.ensures in
    let tried : HasTried n m = tried_more n n m (tried_none n) e.table e.low e.high e.way e.own e.later 1 c.in_default.ensures.busy e.still in
    tried.still c.wait_on.new.self.value (under c.wait_on.new.self) c.wait_on.ensures.still

use Rattle.scan_cursor.specs.Cursors.{under, view_under}
use Rattle.scan_cursor.proofs.ReadingViews.{later_both}
use Rattle.scan_cursor.proofs.CursorLaws.{left_cursor, left_ended}
use Rattle.scan_cursor.proofs.TriedLaws.{err_as, left_gives, left_tried, ok_as, tried_advances}
use Rattle.scan_cursor.proofs.cursor.Cursor.try_advance.Goals as goal

pub returns-then-self-clause-cursor : goal.returns-then-self-clause-cursor
returns-then-self-clause-cursor c = let e = c.leave_pair.ensures in
    left_cursor c.args.self.now c.leave_pair.new.self c.requires.cursor e.table e.low e.high e.way e.walk e.value e.own e.idle e.later e.still

pub returns-then-self-clause-advances : goal.returns-then-self-clause-advances
returns-then-self-clause-advances c = let e = c.leave_pair.ensures in
    left_ended c.args.self.now c.leave_pair.new.self c.requires.cursor e.table e.low e.high e.way e.walk e.value e.own e.idle e.later e.still c.if-self.true

pub take_next-requires-clause-cursor : goal.take_next-requires-clause-cursor
take_next-requires-clause-cursor c = let e = c.leave_pair.ensures in let n = c.leave_pair.new.self in left_cursor c.args.self.now n c.requires.cursor e.table e.low e.high e.way e.walk e.value e.own e.idle e.later e.still

pub returns-then-has_slot-clause-later : goal.returns-then-has_slot-clause-later
returns-then-has_slot-clause-later c = let e = c.leave_pair.ensures in later_both (view_under c.args.self.now) (view_under c.leave_pair.new.self) (view_under c.take_next.new.self) e.later c.take_next.ensures.later

pub returns-then-has_slot-clause-advances : goal.returns-then-has_slot-clause-advances
returns-then-has_slot-clause-advances c = let e = c.leave_pair.ensures in let n = c.leave_pair.new.self in
    ok_as c.take_next.result _ _ (λ more a. tried_advances c.args.self.now n c.take_next.new.self (left_tried c.args.self.now n c.requires.cursor e.table e.low e.high e.way e.walk e.value e.own e.idle e.later e.still) more a) c.take_next.ensures.advances

pub returns-then-has_slot-clause-busy : goal.returns-then-has_slot-clause-busy
returns-then-has_slot-clause-busy c = let e = c.leave_pair.ensures in let n = c.leave_pair.new.self in
    err_as c.take_next.result _ _ (λ x g. left_gives c.args.self.now n c.requires.cursor e.table e.low e.high e.way e.walk e.value e.own e.idle e.later e.still c.args.looks c.take_next.new.self g) c.take_next.ensures.busy

pub returns-then-has_slot-clause-still : goal.returns-then-has_slot-clause-still
returns-then-has_slot-clause-still c = let e = c.leave_pair.ensures in let n = c.leave_pair.new.self in let tried = left_tried c.args.self.now n c.requires.cursor e.table e.low e.high e.way e.walk e.value e.own e.idle e.later e.still in
    tried.still c.take_next.new.self.value (under c.take_next.new.self) c.take_next.ensures.still

pub search_on-requires-clause-cursor : goal.search_on-requires-clause-cursor
search_on-requires-clause-cursor c = let e = c.leave_pair.ensures in let n = c.leave_pair.new.self in left_cursor c.args.self.now n c.requires.cursor e.table e.low e.high e.way e.walk e.value e.own e.idle e.later e.still

pub returns-else-has_slot-clause-later : goal.returns-else-has_slot-clause-later
returns-else-has_slot-clause-later c = let e = c.leave_pair.ensures in later_both (view_under c.args.self.now) (view_under c.leave_pair.new.self) (view_under c.search_on.new.self) e.later c.search_on.ensures.later

pub returns-else-has_slot-clause-advances : goal.returns-else-has_slot-clause-advances
returns-else-has_slot-clause-advances c = let e = c.leave_pair.ensures in let n = c.leave_pair.new.self in
    ok_as c.search_on.result _ _ (λ more a. tried_advances c.args.self.now n c.search_on.new.self (left_tried c.args.self.now n c.requires.cursor e.table e.low e.high e.way e.walk e.value e.own e.idle e.later e.still) more a) c.search_on.ensures.advances

pub returns-else-has_slot-clause-busy : goal.returns-else-has_slot-clause-busy
returns-else-has_slot-clause-busy c = let e = c.leave_pair.ensures in let n = c.leave_pair.new.self in
    err_as c.search_on.result _ _ (λ x g. left_gives c.args.self.now n c.requires.cursor e.table e.low e.high e.way e.walk e.value e.own e.idle e.later e.still c.args.looks c.search_on.new.self g) c.search_on.ensures.busy

pub returns-else-has_slot-clause-still : goal.returns-else-has_slot-clause-still
returns-else-has_slot-clause-still c = let e = c.leave_pair.ensures in let n = c.leave_pair.new.self in let tried = left_tried c.args.self.now n c.requires.cursor e.table e.low e.high e.way e.walk e.value e.own e.idle e.later e.still in
    tried.still c.search_on.new.self.value (under c.search_on.new.self) c.search_on.ensures.still

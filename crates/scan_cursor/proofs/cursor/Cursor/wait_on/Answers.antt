use Rattle.std.proofs.Common.{refl, ◌∙◌}
use Rattle.scan_cursor.specs.Cursors.{under, view_under}
use Rattle.scan_cursor.proofs.ReadingViews.{later_both}
use Rattle.scan_cursor.proofs.StepLaws.{but_both}
use Rattle.scan_cursor.proofs.TriedLaws.{tried_advances, tried_more, tried_none}
use Rattle.scan_cursor.proofs.cursor.Cursor.wait_on.Goals as goal

pub loop-init : goal.loop-init
loop-init g c = record { next = tt; same_reference = refl; cursor = c.requires.cursor; none = c.requires.none; going = c.requires.going; tried = tried_none c.args.self.now }

pub returns-in-Ok-clause-own : goal.returns-in-Ok-clause-own
returns-in-Ok-clause-own g c = but_both c.args.self.now.pass.now c.loop.self.pass.now c.search_on.new.self.pass.now c.loop.invariant.tried.own c.search_on.ensures.own

pub returns-in-Ok-clause-later : goal.returns-in-Ok-clause-later
returns-in-Ok-clause-later g c = later_both (view_under c.args.self.now) (view_under c.loop.self) (view_under c.search_on.new.self) c.loop.invariant.tried.later c.search_on.ensures.later

pub returns-in-Ok-clause-advances : goal.returns-in-Ok-clause-advances
returns-in-Ok-clause-advances g c = tried_advances c.args.self.now c.loop.self c.search_on.new.self c.loop.invariant.tried c.in-Ok.more c.in-Ok.ensures.advances

pub returns-in-Ok-clause-still : goal.returns-in-Ok-clause-still
returns-in-Ok-clause-still g c = c.loop.invariant.tried.still c.search_on.new.self.value (under c.search_on.new.self) c.search_on.ensures.still

pub loop-preserved : goal.loop-preserved
loop-preserved g c = let e = c.search_on.ensures in let i = c.loop.invariant in record {
  next = tt;
  same_reference = e.same_reference ∙ i.same_reference;
  cursor = e.cursor;
  none = c.in_default.ensures.busy.value;
  going = c.in_default.ensures.busy.going;
  tried = tried_more c.args.self.now c.loop.self c.search_on.new.self i.tried e.table e.low e.high e.way e.own e.later 1 c.in_default.ensures.busy e.still;
}

use Rattle.rebalance.proofs.RangeKeys.{none_loaded, high_loaded}
use Rattle.rebalance.proofs.ranges.load_high.Goals as goal

pub returns-then-first-eq0-clause-key : goal.returns-then-first-eq0-clause-key
returns-then-first-eq0-clause-key g c = none_loaded (g.H.HeldRooms.rooms c.args.rooms.now) c.args.room c.load-first.result c.load-first.ensures.word c.if-first-eq0.true

pub returns-clause-key : goal.returns-clause-key
returns-clause-key g c = let l = c.load-first in
    high_loaded (g.H.HeldRooms.rooms c.args.rooms.now) c.args.room (g.H.HeldRooms.rooms l.new.self) l.result c.load_bound.result l.ensures.rooms l.ensures.word c.if-first-eq0.false c.load_bound.ensures.key

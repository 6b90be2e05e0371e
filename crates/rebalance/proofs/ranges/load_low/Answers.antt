use Rattle.rebalance.proofs.RangeKeys.{low_loaded}
use Rattle.rebalance.proofs.ranges.load_low.Goals as goal

pub returns-clause-key : goal.returns-clause-key
returns-clause-key g c = let l = c.load-length in
    low_loaded (g.H.HeldRooms.rooms c.args.rooms.now) c.args.room (g.H.HeldRooms.rooms l.new.self) l.result c.load_bound.result l.ensures.rooms l.ensures.word c.load_bound.ensures.key

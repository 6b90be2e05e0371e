use Rattle.std.proofs.Common.{◌≡◌, ◌+◌}
use Rattle.rebalance.specs.Bounds.{Sets, KeepsButBounds, bound_word}
use Rattle.rebalance.proofs.bounds.store_low.Given as goal

abbrev pub invariant-loop-i : goal.invariant-loop-i
invariant-loop-i g l = let m = g.H.HeldRooms.rooms l.fn.rooms in let now = g.H.HeldRooms.rooms l.rooms in record {
  stays : g.H.HeldRooms.stays l.fn.rooms l.rooms;
  ranges : g.H.HeldRooms.ranges l.rooms ≡ g.H.HeldRooms.ranges l.fn.rooms;
  slots : g.H.HeldRooms.slots l.rooms ≡ g.H.HeldRooms.slots l.fn.rooms;
  set : Sets l.room (l.i + 1) (bound_word l.length l.words) m.low now.low;
  other : now.high ≡ m.high;
  rest : KeepsButBounds m now;
}

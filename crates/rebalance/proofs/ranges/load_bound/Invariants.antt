use Rattle.std.proofs.Common.{◌≡◌}
use Rattle.chunk_ops.proofs.StoredLaws.{Filled}
use Rattle.rebalance.specs.Ranges.{bound_bytes, bound_words}
use Rattle.rebalance.proofs.ranges.load_bound.Given as goal

abbrev pub invariant-loop-i : goal.invariant-loop-i
invariant-loop-i g l = record {
  stays : g.H.HeldRooms.stays l.fn.rooms l.rooms;
  rooms : g.H.HeldRooms.rooms l.rooms ≡ g.H.HeldRooms.rooms l.fn.rooms;
  ranges : g.H.HeldRooms.ranges l.rooms ≡ g.H.HeldRooms.ranges l.fn.rooms;
  slots : g.H.HeldRooms.slots l.rooms ≡ g.H.HeldRooms.slots l.fn.rooms;
  words : Filled (bound_bytes l.length (bound_words l.bound (g.H.HeldRooms.rooms l.fn.rooms) l.room)) l.i l.words;
}

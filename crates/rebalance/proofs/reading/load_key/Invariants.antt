use Rattle.std.proofs.Common.{◌≡◌}
use Rattle.chunk_ops.proofs.StoredLaws.{Filled}
use Rattle.rebalance.proofs.reading.load_key.Given as goal

abbrev pub invariant-loop-i : goal.invariant-loop-i
invariant-loop-i g l = record {
  stays : g.H.HeldRooms.stays l.fn.rooms l.rooms;
  rooms : g.H.HeldRooms.rooms l.rooms ≡ g.H.HeldRooms.rooms l.fn.rooms;
  ranges : g.H.HeldRooms.ranges l.rooms ≡ g.H.HeldRooms.ranges l.fn.rooms;
  slots : g.H.HeldRooms.slots l.rooms ≡ g.H.HeldRooms.slots l.fn.rooms;
  words : Filled (g.H.HeldRooms.keys l.fn.rooms l.place) l.i l.words;
}

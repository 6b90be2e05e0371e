use Rattle.std.proofs.Common.{◌≡◌}
use Rattle.rebalance.specs.Filled.{ClearsEntries}
use Rattle.rebalance.proofs.clearing.clear_entries.Given as goal

abbrev pub invariant-loop-i : goal.invariant-loop-i
invariant-loop-i g l = record {
  stays : g.H.HeldRooms.stays l.fn.rooms l.rooms;
  ranges : g.H.HeldRooms.ranges l.rooms ≡ g.H.HeldRooms.ranges l.fn.rooms;
  slots : g.H.HeldRooms.slots l.rooms ≡ g.H.HeldRooms.slots l.fn.rooms;
  cleared : ClearsEntries l.room l.from l.i (g.H.HeldRooms.rooms l.fn.rooms) (g.H.HeldRooms.rooms l.rooms);
}

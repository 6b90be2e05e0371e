use Rattle.std.proofs.Common.{◌≡◌, ℕ, ◌+◌, ◌<◌, ◌≤◌, List}
use Rattle.chunk_core.specs.ValueWord.{names_header}
use Rattle.rebalance.specs.Dropping.{DropsKeys, dropped_ranges}
use Rattle.rebalance.specs.Entries.{dropped, linked_among}
use Rattle.rebalance.specs.HeldRooms.{IsLoose}
use Rattle.rebalance.specs.Read.{HasRead}
use Rattle.rebalance.proofs.reading.read_entries.Given as goal

abbrev pub invariant-loop-i : goal.invariant-loop-i
invariant-loop-i g l = let m = g.H.HeldRooms.rooms l.fn.rooms in record {
  stays : g.H.HeldRooms.stays l.fn.rooms l.rooms;
  sees : (j : ℕ) → j < l.i → 0 < m.key l.room j → names_header (m.value l.room j) ≡ 1 → g.H.HeldRooms.sees l.fn.rooms l.rooms l.room j;
  many : l.read.kept + l.read.dropped ≡ l.i;
  rooms : DropsKeys l.room l.i m (g.H.HeldRooms.rooms l.rooms);
  ranges : g.H.HeldRooms.ranges l.rooms ≡ dropped_ranges (dropped (linked_among m l.room l.i)) (g.H.HeldRooms.ranges l.fn.rooms);
  loose : (j : ℕ) → l.i ≤ j → j < l.count → 0 < m.key l.room j → names_header (m.value l.room j) ≡ 0 → IsLoose (m.key l.room j) (g.H.HeldRooms.ranges l.rooms);
  read : (keys : ℕ → List ℕ) → ((j : ℕ) → j < l.count → 0 < m.key l.room j → names_header (m.value l.room j) ≡ 1 → keys (m.key l.room j) ≡ g.H.HeldRooms.keys l.fn.rooms (m.key l.room j)) → HasRead keys m l.room (m.base l.room) l.i (g.H.HeldRooms.slots l.rooms) l.read;
}

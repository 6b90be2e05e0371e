use Rattle.std.proofs.Common.{◌≡◌, ℕ, ◌<◌, ◌/◌, List, ◌++◌, true, false, map, take, length, get_or}
use Rattle.std.specs.List.Sorted.{IsPermutation}
use Rattle.chunk_core.specs.LinkedEntries.{linked}
use Rattle.chunk_core.specs.ValueWord.{names_header}
use Rattle.chunk_ops.specs.Stored.{IsStored}
use Rattle.oak_core.specs.declared.sorting.SortSlot.{SortSlot}
use Rattle.oak_model.specs.declared.limits.TheConstants.{GREATEST_ENTRIES}
use Rattle.rebalance.specs.Entries.{entries, entry_at}
use Rattle.rebalance.specs.Slots.{entry_of, key_of}
use Rattle.rebalance.proofs.AlongLaws.{left_along}
use Rattle.rebalance.proofs.WalkLaws.{marked}
use Rattle.rebalance.proofs.walking.read_along.Given as goal

abbrev pub invariant-loop-at : goal.invariant-loop-at
invariant-loop-at g l = let m = g.H.HeldRooms.rooms l.fn.rooms in let slots = g.H.HeldRooms.slots l.rooms in record {
  stays : g.H.HeldRooms.stays l.fn.rooms l.rooms;
  rooms : g.H.HeldRooms.rooms l.rooms ≡ m;
  ranges : g.H.HeldRooms.ranges l.rooms ≡ g.H.HeldRooms.ranges l.fn.rooms;
  long : length l.seen ≡ GREATEST_ENTRIES;
  sees : (j : ℕ) → j < l.count → get_or l.seen j false ≡ true → g.H.HeldRooms.sees l.fn.rooms l.rooms l.room j;
  valued : (j : ℕ) → j < l.count → get_or l.seen j false ≡ true → (0 < m.key l.room j) × (names_header (m.value l.room j) ≡ 1);
  front : IsPermutation (marked l.seen (entries m l.room l.count)) (map entry_of (take l.at slots));
  named : (j : ℕ) (d : SortSlot) → j < l.at → 0 < (get_or slots j d).key;
  along : map (entry_at m l.room) (linked m l.room) ≡ map entry_of (take l.at slots) ++ left_along m l.room l.at l.link;
  stored : (keys : ℕ → List ℕ) → ((j : ℕ) → j < l.count → 0 < m.key l.room j → names_header (m.value l.room j) ≡ 1 → keys (m.key l.room j) ≡ g.H.HeldRooms.keys l.fn.rooms (m.key l.room j)) → (d : SortSlot) → l.count / 2 < l.at → IsStored (key_of (get_or slots (l.count / 2) d)) (keys (get_or slots (l.count / 2) d).key);
}

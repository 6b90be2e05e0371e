use Rattle.std.proofs.Common.{◌≡◌, ℕ, ◌+◌, ◌-◌, ◌*◌, List, sym, ◌∙◌, subst, arith}
use Rattle.chunk_core.specs.RoomStep.{put_room}
use Rattle.chunk_core.specs.Rooms.{RoomMemory, at_base, at_first, at_count}
use Rattle.oak_core.specs.declared.sorting.SortSlot.{SortSlot}
use Rattle.rebalance.specs.Filled.{ClearsEntries, Fills, StoresSlots, slots_from, first_of, count_of}
use Rattle.rebalance.specs.Slots.{AllNamed}
use Rattle.rebalance.proofs.FillLaws.{part_length, fills}
use Rattle.rebalance.proofs.filling.fill_room.Goals as goal

pub store_slots-requires-clause-named : goal.store_slots-requires-clause-named
store_slots-requires-clause-named g c = subst (λ (xs : List SortSlot). AllNamed (slots_from c.args.from c.args.n xs)) (sym c.clear_entries.ensures.slots) c.requires.named

pub returns-clause-rooms : goal.returns-clause-rooms
returns-clause-rooms g c = let rooms = c.args.rooms.now in let before : RoomMemory = g.H.HeldRooms.rooms rooms in let bare : RoomMemory = g.H.HeldRooms.rooms c.clear_entries.new.rooms in let all : ℕ = g.H.HeldRooms.entries rooms in let now : RoomMemory = g.H.HeldRooms.rooms c.store_slots.new.rooms in let r = c.args.room in let n = c.args.n in let from = c.args.from in let base = c.args.base in
    let slots : List SortSlot = slots_from from n (g.H.HeldRooms.slots rooms) in let a = c.store.ensures.stored in let b = c.store-2.ensures.stored in let d = c.store-3.ensures.stored in
    let counts : n * 65537 ≡ count_of n = omega arith in
    let done : put_room (put_room (put_room now (at_base r) base) (at_first r) (first_of n)) (at_count r) (count_of n) ≡ g.H.HeldRooms.rooms c.store-3.new.self
    = sym (d ∙ ((λ q. put_room (b q) (at_count r) (counts q)) ∙ (λ q. put_room (put_room (a q) (at_first r) (c.first_of.ensures q)) (at_count r) (count_of n)))) in
    let many = g.met.H.HeldRooms.many_slots rooms in let few = c.requires.few in
    let cleared = subst (λ (k : ℕ). ClearsEntries r n (k - n) before bare) c.entries_each.ensures c.clear_entries.ensures.rooms in
    let stored = subst (λ (xs : List SortSlot). StoresSlots r 0 (slots_from from n xs) (0 + n) n bare now) c.clear_entries.ensures.slots c.store_slots.ensures.rooms in
    subst (λ (m : RoomMemory). Fills all r slots base before m) done (fills all r n base slots before bare now (part_length from n (g.H.HeldRooms.slots rooms) (omega arith)) c.requires.within cleared stored)

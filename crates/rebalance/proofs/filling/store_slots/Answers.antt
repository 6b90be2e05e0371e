use Rattle.std.proofs.Common.{◌≡◌, ◌+◌, ◌<◌, List, [], get_or, sym, ◌∙◌, ap, subst, arith}
use Rattle.chunk_core.specs.Rooms.{RoomMemory}
use Rattle.oak_core.specs.declared.sorting.SortSlot.{SortSlot}
use Rattle.rebalance.specs.Filled.{StoresSlots, slots_from}
use Rattle.rebalance.proofs.FillLaws.{part_at, part_length, slot_more}
use Rattle.rebalance.proofs.filling.store_slots.Goals as goal

pub store_slot-requires-clause-named : goal.store_slot-requires-clause-named
store_slot-requires-clause-named g c = let i = c.loop-i.invariant in let slots : List SortSlot = g.H.HeldRooms.slots c.args.rooms.now in let from = c.args.from in let n = c.args.n in let k = c.loop-i.i in
    let d : SortSlot = record { words = []; length = 0; key = 0; value = 0 } in
    let is : c.slot-slot.result ≡ get_or (slots_from from n slots) k d = c.slot-slot.ensures d ∙ (ap (λ (xs : List SortSlot). get_or xs (from + k) d) i.slots ∙ sym (part_at from n k d slots c.loop-i-test.true)) in
    let many = g.met.H.HeldRooms.many_slots c.args.rooms.now in let few = c.requires.few in let long = part_length from n slots (omega arith) in let t = c.loop-i-test.true in
    subst (λ (s : SortSlot). 0 < s.key) (sym is) (c.requires.named k d (omega arith))

pub loop-i-preserved : goal.loop-i-preserved
loop-i-preserved g c = let i = c.loop-i.invariant in let w = c.store_slot in let rooms = c.args.rooms.now in let now = c.loop-i.rooms in let before : RoomMemory = g.H.HeldRooms.rooms rooms in
    let r = c.args.room in let start = c.args.start in let from = c.args.from in let n = c.args.n in let k = c.loop-i.i in let slots : List SortSlot = g.H.HeldRooms.slots rooms in let s : SortSlot = c.slot-slot.result in let x = c.next_of.result in
    let is : (d : SortSlot) → s ≡ get_or (slots_from from n slots) k d = λ d. c.slot-slot.ensures d ∙ (ap (λ (xs : List SortSlot). get_or xs (from + k) d) i.slots ∙ sym (part_at from n k d slots c.loop-i-test.true)) in
    let stays : g.H.HeldRooms.stays rooms w.new.rooms = g.met.H.HeldRooms.stays_on rooms now w.new.rooms i.stays w.ensures.stays in record {
      stays = stays;
      ranges = w.ensures.ranges ∙ i.ranges;
      slots = w.ensures.slots ∙ i.slots;
      stored = subst (λ (m : RoomMemory). StoresSlots r start (slots_from from n slots) (start + n) (k + 1) before m) (sym w.ensures.rooms)
          (slot_more r start k (start + n) x s (slots_from from n slots) before (g.H.HeldRooms.rooms now) is c.next_of.ensures i.stored);
    }

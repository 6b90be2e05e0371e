use Rattle.std.proofs.Common.{◌≡◌, ◌+◌, ◌*◌, List, take, sym, ◌∙◌, ap, subst, arith}
use Rattle.std.proofs.lemmas.List.{length-take-le}
use Rattle.chunk_core.specs.RoomStep.{put_room}
use Rattle.chunk_core.specs.Rooms.{RoomMemory, at_count}
use Rattle.oak_core.specs.declared.sorting.SortSlot.{SortSlot}
use Rattle.rebalance.specs.declared.held_rooms.RoomWord.{RoomWord}
use Rattle.rebalance.specs.Filled.{Appends, StoresSlots, count_of, link_to}
use Rattle.rebalance.specs.HeldRooms.{spot}
use Rattle.rebalance.proofs.AppendLaws.{counted, appends_after}
use Rattle.rebalance.proofs.filling.append_slots.Goals as goal

pub returns-then-n-gt0-clause-rooms : goal.returns-then-n-gt0-clause-rooms
returns-then-n-gt0-clause-rooms g c = let rooms = c.args.rooms.now in let m : RoomMemory = g.H.HeldRooms.rooms rooms in let now : RoomMemory = g.H.HeldRooms.rooms c.store_slots.new.rooms in
    let r = c.args.room in let start = c.args.start in let n = c.args.n in let base = c.args.base in let all : List SortSlot = g.H.HeldRooms.slots rooms in let slots : List SortSlot = take n all in
    let counts : (start + n) * 65537 ≡ count_of (start + n) = omega arith in
    let first : g.H.HeldRooms.rooms c.store-2.new.self ≡ counted m r base (count_of (start + n)) = c.store-2.ensures.stored ∙ (λ q. put_room (c.store.ensures.stored q) (at_count r) (counts q)) in
    let stored : StoresSlots r start slots (start + n) n (counted m r base (count_of (start + n))) now
    = subst (λ (k : RoomMemory). StoresSlots r start slots (start + n) n k now) first
    (subst (λ (xs : List SortSlot). StoresSlots r start (take n xs) (start + n) n (g.H.HeldRooms.rooms c.store-2.new.self) now) (c.store-2.ensures.slots ∙ c.store.ensures.slots) c.store_slots.ensures.rooms) in
    let many = g.met.H.HeldRooms.many_slots rooms in let most = g.met.H.HeldRooms.few_entries rooms r c.requires.held in let within = c.requires.within in
    let linked : put_room now (spot r (link_to start)) (start + 1) ≡ g.H.HeldRooms.rooms c.store-then-n-gt0.new.self
    = sym (c.store-then-n-gt0.ensures.stored ∙ ap (λ (w : RoomWord). put_room now (spot r w) (start + 1)) c.link_to.ensures) in
    subst (λ (k : RoomMemory). Appends r start slots base m k) linked
    (appends_after r start n base slots m now c.requires.linked (length-take-le n all (omega arith)) c.if-n-gt0.true stored)

use Rattle.std.proofs.Common.{ℕ, ◌/◌, ◌-◌, List, take, subst}
use Rattle.chunk_core.specs.Rooms.{RoomMemory}
use Rattle.oak_core.specs.declared.sorting.SortSlot.{SortSlot}
use Rattle.rebalance.specs.Filled.{Fills, slots_from}
use Rattle.rebalance.proofs.FillLaws.{fills_both}
use Rattle.rebalance.proofs.storing_halves.fill_halves.Goals as goal

pub returns-clause-rooms : goal.returns-clause-rooms
returns-clause-rooms g c = let slots : List SortSlot = g.H.HeldRooms.slots c.args.rooms.now in let half : ℕ = c.args.n / 2 in
    let all : ℕ = g.H.HeldRooms.entries c.args.rooms.now in let m : RoomMemory = g.H.HeldRooms.rooms c.args.rooms.now in let n : RoomMemory = g.H.HeldRooms.rooms c.fill_room.new.rooms in let o : RoomMemory = g.H.HeldRooms.rooms c.fill_room-2.new.rooms in
    fills_both all c.args.low c.args.high (take half slots) (slots_from half (c.args.n - half) slots) c.args.base m n o c.requires.apart c.fill_room.ensures.rooms
    (subst (λ (p : ℕ × List SortSlot). Fills p.0 c.args.high (slots_from half (c.args.n - half) p.1) c.args.base n o) (λ t. (g.met.H.HeldRooms.still_entries c.args.rooms.now c.fill_room.new.rooms c.fill_room.ensures.stays t, c.fill_room.ensures.slots t)) c.fill_room-2.ensures.rooms)

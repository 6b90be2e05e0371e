use Rattle.std.proofs.Common.{◌+◌, ◌∙◌, List, sym, subst}
use Rattle.oak_model.specs.Counts.{Each}
use Rattle.chunk_core.specs.declared.holds.MovingRange.{MovingRange}
use Rattle.chunk_core.specs.Rooms.{RoomMemory}
use Rattle.rebalance.specs.Filled.{ClearsEntries}
use Rattle.rebalance.specs.HeldRooms.{AllValued}
use Rattle.rebalance.proofs.ClearLaws.{cleared_more}
use Rattle.rebalance.proofs.clearing.clear_entries.Goals as goal

pub clear_entry-requires-clause-valued : goal.clear_entry-requires-clause-valued
clear_entry-requires-clause-valued g c = subst (λ (gs : List MovingRange). Each AllValued gs) (sym c.loop-i.invariant.ranges) c.requires.valued

pub loop-i-preserved : goal.loop-i-preserved
loop-i-preserved g c = let i = c.loop-i.invariant in let w = c.clear_entry in let rooms = c.args.rooms.now in let now = c.loop-i.rooms in let before : RoomMemory = g.H.HeldRooms.rooms rooms in
    let r = c.args.room in let from = c.args.from in let k = c.loop-i.i in record {
      stays = g.met.H.HeldRooms.stays_on rooms now w.new.self i.stays w.ensures.stays;
      ranges = w.ensures.ranges ∙ i.ranges;
      slots = w.ensures.slots ∙ i.slots;
      cleared = subst (λ (m : RoomMemory). ClearsEntries r from (k + 1) before m) (sym w.ensures.cleared) (cleared_more r from before k (g.H.HeldRooms.rooms now) i.cleared);
    }

use Rattle.std.proofs.Common.{ap, refl, set, sym, ◌∙◌}
use Rattle.std.specs.Prelude.{length, List}
use Rattle.oak_core.specs.declared.sorting.SortSlot.{SortSlot}
use Rattle.oak_core.specs.Passes.{call_of, key, slots_of, state}
use Rattle.rebalance.specs.HeldTables.{works_none}
use Rattle.rebalance.proofs.HeldSlots.{put_slot}
use Rattle.rebalance.proofs.held_table.HeldTableHeldRooms.put.Goals as goal

pub returns-clause-stays : goal.returns-clause-stays
returns-clause-stays c = let p = c.args.self.now.pass.now in record {
  table = refl;
  same_reference = refl;
  own = record { table = refl; seat = refl; call = refl; scratch = refl; sorting = refl };
  works = works_none (key c.args.self.now.table.now) (call_of p) (state p);
}

pub returns-clause-slots : goal.returns-clause-slots
returns-clause-slots c = put_slot (slots_of c.args.self.now.pass.now) c.set.new.self c.args.i c.args.slot (sym (ap length (c.slots.ensures.slots ∙ c.sorting.ensures)) ∙ c.slots.ensures.many)
    (c.set.ensures ∙ ap (λ (xs : List SortSlot). set xs c.args.i c.args.slot) c.sorting_mut.ensures.value)

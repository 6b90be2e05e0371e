use Rattle.std.proofs.Common.{List, ap, set, sym, ◌∙◌, subst}
use Rattle.chunk_ops.specs.Stored.{IsStored}
use Rattle.oak_core.specs.declared.sorting.SortSlot.{SortSlot}
use Rattle.rebalance.proofs.reading.read_slot.Goals as goal

pub returns-clause-reads : goal.returns-clause-reads
returns-clause-reads g c = let k = g.H.HeldRooms.keys c.args.rooms.now c.args.entry.place in record {
  slot = c.slot_of-2.result;
  is = c.slot_of-2.ensures.entry;
  stored = subst (λ x. IsStored x k) (sym c.slot_of-2.ensures.key) c.load_key-key.ensures.key;
  put = c.put-2.ensures.slots ∙ ap (λ (xs : List SortSlot). set xs c.args.at c.slot_of-2.result) c.load_key-key.ensures.slots;
}

use Rattle.std.proofs.Common.{◌≡◌, List, length, get_or, ap, sym, ◌∙◌, arith}
use Rattle.std.proofs.lemmas.List.{get_or_default}
use Rattle.oak_model.specs.declared.limits.TheConstants.{GREATEST_ENTRIES}
use Rattle.oak_core.specs.declared.sorting.SortSlot.{SortSlot}
use Rattle.oak_core.specs.Passes.{slots_of}
use Rattle.rebalance.proofs.HeldSlots.{filled_whole}
use Rattle.rebalance.proofs.held_table.HeldTableHeldRooms.slot.Goals as goal

pub returns : goal.returns
returns c = λ d. let xs = slots_of c.args.self.now.pass.now in let e = c.slots.ensures.slots ∙ c.sorting.ensures in let l : length xs ≡ GREATEST_ENTRIES = sym (ap length e) ∙ c.slots.ensures.many in let m = c.slots.ensures.many in let lt = c.requires in
    get_or_default c.slots.result.now c.args.i _ d (omega arith) ∙ ap (λ (ys : List SortSlot). get_or ys c.args.i d) (e ∙ sym (filled_whole GREATEST_ENTRIES xs l))

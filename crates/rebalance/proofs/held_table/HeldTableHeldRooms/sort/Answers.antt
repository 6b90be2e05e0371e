use Rattle.std.proofs.Common.{◌≡◌, List, length, take, ap, refl, sym, subst, ◌∙◌}
use Rattle.std.specs.List.Sorted.{IsPermutation}
use Rattle.oak_model.specs.declared.limits.TheConstants.{GREATEST_ENTRIES}
use Rattle.oak_core.specs.declared.sorting.SortSlot.{SortSlot}
use Rattle.oak_core.specs.Passes.{call_of, key, slots_of, state}
use Rattle.rebalance.specs.HeldTables.{filled, works_none}
use Rattle.rebalance.specs.Slots.{AreDistinct, Rise}
use Rattle.rebalance.proofs.HeldSlots.{front_slots, back_slots}
use Rattle.rebalance.proofs.held_table.HeldTableHeldRooms.sort.Goals as goal

pub returns-clause-stays : goal.returns-clause-stays
returns-clause-stays c = let p = c.args.self.now.pass.now in record {
  table = refl;
  same_reference = refl;
  own = record { table = refl; seat = refl; call = refl; scratch = refl; sorting = refl };
  works = works_none (key c.args.self.now.table.now) (call_of p) (state p);
}

pub sort_slots-requires : goal.sort_slots-requires
sort_slots-requires c = let xs = slots_of c.args.self.now.pass.now in let l : length xs ≡ GREATEST_ENTRIES = sym (ap length (c.slots.ensures.slots ∙ c.sorting.ensures)) ∙ c.slots.ensures.many in
    subst AreDistinct (front_slots xs c.args.n l ∙ (ap (take c.args.n) (sym c.sorting_mut.ensures.value) ∙ sym c.front_mut.ensures.value)) c.requires.distinct

pub returns-clause-permutation : goal.returns-clause-permutation
returns-clause-permutation c = let xs = c.sorting_mut.result.now in let e = c.sorting_mut.ensures.value in let l : length xs ≡ GREATEST_ENTRIES = ap length e ∙ (sym (ap length (c.slots.ensures.slots ∙ c.sorting.ensures)) ∙ c.slots.ensures.many) in
    let ys = c.sort_slots.new.slots in let p = subst (λ (zs : List SortSlot). IsPermutation zs ys) c.front_mut.ensures.value c.sort_slots.ensures.permutation in
    subst (IsPermutation _) (sym (back_slots xs ys c.args.n l c.requires.within p)) (subst (λ (zs : List SortSlot). IsPermutation zs ys) (sym (ap (λ (zs : List SortSlot). take c.args.n (filled GREATEST_ENTRIES zs)) (sym e) ∙ front_slots xs c.args.n l)) p)

pub returns-clause-rise : goal.returns-clause-rise
returns-clause-rise c = let xs = c.sorting_mut.result.now in let e = c.sorting_mut.ensures.value in let l : length xs ≡ GREATEST_ENTRIES = ap length e ∙ (sym (ap length (c.slots.ensures.slots ∙ c.sorting.ensures)) ∙ c.slots.ensures.many) in
    let ys = c.sort_slots.new.slots in let p = subst (λ (zs : List SortSlot). IsPermutation zs ys) c.front_mut.ensures.value c.sort_slots.ensures.permutation in
    subst Rise (sym (back_slots xs ys c.args.n l c.requires.within p)) c.sort_slots.ensures.rise

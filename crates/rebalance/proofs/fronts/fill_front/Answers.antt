use Rattle.std.proofs.Common.{rules, ◌≡◌, List, take, length, sym, ap, ◌∙◌, subst}
use Rattle.oak_model.specs.declared.limits.TheConstants.{GREATEST_ENTRIES}
use Rattle.oak_core.specs.declared.sorting.SortSlot.{SortSlot}
use Rattle.oak_core.specs.Passes.{state, slots_of, key as sizes}
use Rattle.rebalance.specs.Filled.{Fills}
use Rattle.rebalance.specs.Mirrors.{held_memory}
use Rattle.rebalance.specs.Slots.{AllNamed}
use Rattle.rebalance.proofs.FrontLaws.{slots_stay}
use Rattle.rebalance.proofs.HeldSlots.{front_slots}
use Rattle.rebalance.proofs.fronts.fill_front.Goals as goal

pub fill_room-requires-clause-named : goal.fill_room-requires-clause-named
fill_room-requires-clause-named c = let p = c.args.pass.now in let before : length (slots_of p) ≡ GREATEST_ENTRIES = sym (ap (λ (l : List SortSlot). length l) (c.slots.ensures.slots ∙ c.sorting.ensures)) ∙ c.slots.ensures.many in
    subst AllNamed (sym (front_slots (slots_of p) c.args.read.now.kept before)) c.requires.named

pub returns-clause-own : goal.returns-clause-own
returns-clause-own c = let x = c.fill_room.ensures in let q = c.fill_room.new.rooms.pass.now in let behind = sym (ap (λ (l : List SortSlot). length l) (c.slots-2.ensures.slots ∙ c.sorting-2.ensures)) ∙ c.slots-2.ensures.many in let many : length (slots_of q) ≡ GREATEST_ENTRIES = search (rules, behind) in
    let f = slots_stay c.args.pass.now q x.stays.own (sym (ap (λ (l : List SortSlot). length l) (c.slots.ensures.slots ∙ c.sorting.ensures)) ∙ c.slots.ensures.many) many x.slots in
    search (rules, f)

pub returns-clause-filled : goal.returns-clause-filled
returns-clause-filled c = let p = c.args.pass.now in let q = c.fill_room.new.rooms.pass.now in let before : length (slots_of p) ≡ GREATEST_ENTRIES = sym (ap (λ (l : List SortSlot). length l) (c.slots.ensures.slots ∙ c.sorting.ensures)) ∙ c.slots.ensures.many in
    let done : Fills (sizes c.args.table.now).entries c.args.room (take c.args.read.now.kept (slots_of p)) c.args.read.now.base (held_memory (state p).rooms.held) (held_memory (state q).rooms.held) =
    subst (λ (xs : List SortSlot). Fills (sizes c.args.table.now).entries c.args.room xs c.args.read.now.base (held_memory (state p).rooms.held) (held_memory (state q).rooms.held)) (front_slots (slots_of p) c.args.read.now.kept before) c.fill_room.ensures.rooms in
    search (rules, done)

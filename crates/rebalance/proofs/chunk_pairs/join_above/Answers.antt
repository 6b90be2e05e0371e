use Rattle.std.proofs.Common.{ℕ, List, length, take, rules, sym, ap, ◌∙◌, subst}
use Rattle.oak_model.specs.Limits.{Sizes}
use Rattle.chunk_core.specs.declared.states.TheConstants.{HELD}
use Rattle.oak_core.specs.declared.sorting.SortSlot.{SortSlot}
use Rattle.oak_core.specs.declared.states.PassState.{PassState}
use Rattle.oak_core.specs.Passes.{state, key as sizes, call_of, slots_of}
use Rattle.rebalance.specs.Filled.{Appends}
use Rattle.rebalance.specs.HeldTables.{holds_still, stays_then}
use Rattle.rebalance.specs.Holding.{Retires}
use Rattle.rebalance.specs.Merging.{JoinsPair}
use Rattle.rebalance.specs.Mirrors.{held_memory}
use Rattle.rebalance.specs.Slots.{AllNamed}
use Rattle.rebalance.proofs.FrontLaws.{front_alone, front_held}
use Rattle.rebalance.proofs.HeldSlots.{front_slots}
use Rattle.rebalance.proofs.JoinedRooms.{lower_alone, pair_joins, pair_linked, pair_retires, rooms_apart}
use Rattle.rebalance.proofs.chunk_pairs.join_above.Goals as goal

pub copy_high-requires-clause-from : goal.copy_high-requires-clause-from
copy_high-requires-clause-from c = let z : Sizes = sizes c.args.table.now in let v = state c.args.pass.now in let p = c.requires.pair in record { own = c.requires.own; alone = front_alone z c.args.up.now.room p.upper p.above _ _ v p.front }

pub copy_high-requires-clause-to : goal.copy_high-requires-clause-to
copy_high-requires-clause-to c = let z : Sizes = sizes c.args.table.now in record { own = c.requires.own; alone = lower_alone z c.args.low.now c.args.up.now (take c.args.up.now.kept (slots_of c.args.pass.now)) (state c.args.pass.now) c.requires.pair }

pub copy_high-requires-clause-apart : goal.copy_high-requires-clause-apart
copy_high-requires-clause-apart c = rooms_apart (sizes c.args.table.now) c.args.low.now c.args.up.now (take c.args.up.now.kept (slots_of c.args.pass.now)) (state c.args.pass.now) c.requires.pair

pub append_slots-requires-clause-held : goal.append_slots-requires-clause-held
append_slots-requires-clause-held c = holds_still _ c.copy_high.new.rooms c.args.low.now.room c.copy_high.ensures.stays
    (record { own = c.requires.own; alone = lower_alone (sizes c.args.table.now) c.args.low.now c.args.up.now (take c.args.up.now.kept (slots_of c.args.pass.now)) (state c.args.pass.now) c.requires.pair })

pub append_slots-requires-clause-linked : goal.append_slots-requires-clause-linked
append_slots-requires-clause-linked c = pair_linked (sizes c.args.table.now) c.args.low.now c.args.up.now (take c.args.up.now.kept (slots_of c.args.pass.now)) (state c.args.pass.now) c.requires.pair (held_memory (state c.copy_high.new.rooms.pass.now).rooms.held) c.copy_high.ensures.rest

pub append_slots-requires-clause-named : goal.append_slots-requires-clause-named
append_slots-requires-clause-named c = let n = c.args.up.now.kept in let many = sym (ap (λ (l : List SortSlot). length l) (c.slots.ensures.slots ∙ c.sorting.ensures)) ∙ c.slots.ensures.many in
    subst AllNamed (sym (ap (take n) c.copy_high.ensures.slots ∙ front_slots (slots_of c.args.pass.now) n many)) c.requires.pair.named

pub retire_held-requires-clause-held : goal.retire_held-requires-clause-held
retire_held-requires-clause-held c = let r = c.args.up.now.room in let p = c.requires.pair in
    let done = c.append_slots.ensures.stays.works.states r HELD ∙ (c.copy_high.ensures.stays.works.states r HELD ∙ front_held (sizes c.args.table.now) r p.upper p.above _ _ (state c.args.pass.now) p.front) in search (rules, done)

pub retire_held-requires-clause-may : goal.retire_held-requires-clause-may
retire_held-requires-clause-may c = let n = state c.append_slots.new.rooms.pass.now in
    let done = pair_retires (sizes c.args.table.now) c.args.low.now c.args.up.now (take c.args.up.now.kept (slots_of c.args.pass.now)) (state c.args.pass.now) c.requires.pair n.rooms.moving (c.append_slots.ensures.ranges ∙ c.copy_high.ensures.ranges) in search (rules, done)

pub returns-clause-joins : goal.returns-clause-joins
returns-clause-joins c = λ p. let z : Sizes = sizes c.args.table.now in let call = call_of c.args.pass.now in let low = c.args.low.now in let up = c.args.up.now in let v = state c.args.pass.now in let slots = take up.kept (slots_of c.args.pass.now) in
    let x = c.copy_high.ensures in let y = c.append_slots.ensures in let m = held_memory (state c.copy_high.new.rooms.pass.now).rooms.held in let n = state c.append_slots.new.rooms.pass.now in let u = state c.retire_held.new.pass in
    let stays = stays_then _ c.copy_high.new.rooms c.append_slots.new.rooms x.stays y.stays in
    let many = sym (ap (λ (l : List SortSlot). length l) (c.slots.ensures.slots ∙ c.sorting.ensures)) ∙ c.slots.ensures.many in
    let appends = subst (λ (xs : List SortSlot). Appends low.room low.kept xs c.max.result m (held_memory n.rooms.held)) (ap (take up.kept) x.slots ∙ front_slots (slots_of c.args.pass.now) up.kept many) y.rooms in
    let retired : Retires z (call_of c.append_slots.new.rooms.pass.now) up.room n u = search (rules, c.retire_held.ensures.retires) in
    let retires = subst (λ (k : ℕ). Retires z k up.room n u) stays.own.call retired in
    let done = pair_joins z low up slots v p call m n u stays.works (y.ranges ∙ x.ranges) x.high x.low x.rest c.max.result c.max.ensures appends retires in
    subst (λ (w : PassState). JoinsPair z call low up p.below p.above v w) (search rules) done

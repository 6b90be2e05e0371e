use Rattle.std.proofs.Common.{rules, ◌≡◌, ◌-◌, ◌/◌, ◌≤◌, List, take, length, sym, ap, ◌∙◌, subst}
use Rattle.std.specs.List.{slice_index_or}
use Rattle.oak_model.specs.declared.limits.TheConstants.{GREATEST_ENTRIES, GREATEST_KEY}
use Rattle.chunk_core.specs.declared.holds.MovingRange.{MovingRange}
use Rattle.chunk_core.specs.declared.holds.RoomCopy.{RoomCopy}
use Rattle.oak_core.specs.declared.sorting.SortSlot.{SortSlot}
use Rattle.oak_core.specs.Passes.{state, call_of, slots_of, key as sizes}
use Rattle.rebalance.specs.Filled.{slots_from}
use Rattle.rebalance.specs.Halving.{HoldsPair, StoresHalves}
use Rattle.rebalance.specs.HeldTables.{no_slot}
use Rattle.rebalance.specs.Mirrors.{held_memory}
use Rattle.rebalance.specs.Slots.{AllNamed, key_of}
use Rattle.rebalance.specs.Split.{Splits}
use Rattle.rebalance.proofs.FrontLaws.{slots_stay}
use Rattle.rebalance.proofs.HalvedRooms.{stores_halves}
use Rattle.rebalance.proofs.HeldPairs.{half_short, lower_alone, upper_alone}
use Rattle.rebalance.proofs.HeldSlots.{filled_whole, front_slots}
use Rattle.rebalance.proofs.ValuedRanges.{pair_valued}
use Rattle.rebalance.proofs.halving.store_halves.Goals as goal

pub split_held-requires-clause-low : goal.split_held-requires-clause-low
split_held-requires-clause-low c = let p = c.requires.pair in record { own = c.requires.own; alone = lower_alone (sizes c.args.table.now) c.args.room c.args.upper p.0 p.1 p.2 (state c.args.pass.now) p.3 }

pub split_held-requires-clause-high : goal.split_held-requires-clause-high
split_held-requires-clause-high c = let p = c.requires.pair in record { own = c.requires.own; alone = upper_alone (sizes c.args.table.now) c.args.room c.args.upper p.0 p.1 p.2 (state c.args.pass.now) p.3 }

pub split_held-requires-clause-named : goal.split_held-requires-clause-named
split_held-requires-clause-named c = let p = c.args.pass.now in let before : length (slots_of p) ≡ GREATEST_ENTRIES = sym (ap (λ (l : List SortSlot). length l) (c.slots.ensures.slots ∙ c.sorting.ensures)) ∙ c.slots.ensures.many in
    subst AllNamed (sym (front_slots (slots_of p) c.args.read.now.kept before)) c.requires.whole.named

pub split_held-requires-clause-valued : goal.split_held-requires-clause-valued
split_held-requires-clause-valued c = let q = c.requires.pair in pair_valued (sizes c.args.table.now) c.args.room c.args.upper q.0 q.1 q.2 (state c.args.pass.now) q.3 (slots_of c.args.pass.now) c.args.read.now c.requires.whole

pub split_held-requires-clause-keys : goal.split_held-requires-clause-keys
split_held-requires-clause-keys c = λ d. let p = c.args.pass.now in let x = c.args.read.now in let q = c.requires.pair in let before : length (slots_of p) ≡ GREATEST_ENTRIES = sym (ap (λ (l : List SortSlot). length l) (c.slots.ensures.slots ∙ c.sorting.ensures)) ∙ c.slots.ensures.many in
    subst (λ (xs : List SortSlot). (slice_index_or xs (x.kept / 2) d).length ≤ GREATEST_KEY) (sym (filled_whole GREATEST_ENTRIES (slots_of p) before)) (half_short (sizes c.args.table.now) c.args.room c.args.upper q.0 q.1 q.2 (state p) q.3 (slots_of p) x c.requires.whole d)

pub returns-clause-own : goal.returns-clause-own
returns-clause-own c = let x = c.split_held.ensures in let q = c.split_held.new.rooms.pass.now in let behind = sym (ap (λ (l : List SortSlot). length l) (c.slots-2.ensures.slots ∙ c.sorting-2.ensures)) ∙ c.slots-2.ensures.many in let many : length (slots_of q) ≡ GREATEST_ENTRIES = search (rules, behind) in
    let f = slots_stay c.args.pass.now q x.stays.own (sym (ap (λ (l : List SortSlot). length l) (c.slots.ensures.slots ∙ c.sorting.ensures)) ∙ c.slots.ensures.many) many x.slots in
    search (rules, f)

pub returns-clause-stores : goal.returns-clause-stores
returns-clause-stores c = let z = sizes c.args.table.now in let r = c.args.room in let q = c.args.upper in let p = c.args.pass.now in let t = c.split_held.new.rooms.pass.now in let x = c.args.read.now in let k = c.split_held.ensures in
    let before : length (slots_of p) ≡ GREATEST_ENTRIES = sym (ap (λ (l : List SortSlot). length l) (c.slots.ensures.slots ∙ c.sorting.ensures)) ∙ c.slots.ensures.many in
    let done : (w cc : RoomCopy) (g : MovingRange) → HoldsPair z r q w cc g (state p) → StoresHalves z (call_of p) r q w g (state p) (state t) = (λ w cc g h. stores_halves z (call_of p) r q w cc g (state p) h (slots_of p) x c.requires.whole (state t) k.stays.works k.ranges
    (subst (λ (xs : List SortSlot). Splits z.entries r q (take (x.kept / 2) xs) (slots_from (x.kept / 2) (x.kept - x.kept / 2) xs) (key_of (slice_index_or xs (x.kept / 2) no_slot)) x.base (held_memory (state p).rooms.held) (held_memory (state t).rooms.held)) (filled_whole GREATEST_ENTRIES (slots_of p) before) (k.rooms no_slot))) in
    search (rules, done)

use Rattle.std.proofs.Common.{rules, ◌≡◌, zero, List, take, length, sym, ap, ◌∙◌, subst, arith, length-take-le}
use Rattle.oak_model.specs.declared.limits.TheConstants.{GREATEST_ENTRIES}
use Rattle.oak_core.specs.declared.sorting.SortSlot.{SortSlot}
use Rattle.oak_core.specs.Passes.{state, call_of, slots_of, key as sizes}
use Rattle.rebalance.specs.Chunks.{CompactsFront, keys_in}
use Rattle.rebalance.specs.HeldTables.{filled, slots_many}
use Rattle.rebalance.specs.Mirrors.{held_memory}
use Rattle.rebalance.proofs.FrontRewrites.{front_compacts}
use Rattle.rebalance.proofs.FrontRooms.{front_alone, front_differ, front_keys, front_mirrors, front_names, front_stands, front_there}
use Rattle.rebalance.proofs.HeldRoomFacts.{is_held_room}
use Rattle.rebalance.proofs.HeldSlots.{front_slots}
use Rattle.rebalance.proofs.ValuedRanges.{front_valued}
use Rattle.rebalance.proofs.fronts.compact_front.Goals as goal

pub compact_held-read-requires-clause-held : goal.compact_held-read-requires-clause-held
compact_held-read-requires-clause-held c = let q = c.requires.front in record { own = c.requires.own; alone = front_alone (sizes c.args.table.now) c.args.room q.0 q.1 q.2 q.3 (state c.args.pass.now) q.4 }

pub compact_held-read-requires-clause-within : goal.compact_held-read-requires-clause-within
compact_held-read-requires-clause-within c = let q = c.requires.front in (front_mirrors (sizes c.args.table.now) c.args.room q.0 q.1 q.2 q.3 (state c.args.pass.now) q.4).few

pub compact_held-read-requires-clause-room : goal.compact_held-read-requires-clause-room
compact_held-read-requires-clause-room c = let z = sizes c.args.table.now in let r = c.args.room in let v = state c.args.pass.now in let q = c.requires.front in let w = q.0 in let g = q.1 in let hs = q.2 in let gs = q.3 in let f = q.4 in
    is_held_room z (held_memory v.rooms.held) r g (front_mirrors z r w g hs gs v f) (front_stands z r w g hs gs v f) (front_differ z r w g hs gs v f) (keys_in v.rooms.moving) (front_keys z r w g hs gs v f) _ v.rooms.moving zero (front_there z r w g hs gs v f)
    (λ k h b. record { own = c.requires.own; names = front_names z r w g hs gs v f k h b })

pub compact_held-read-requires-clause-valued : goal.compact_held-read-requires-clause-valued
compact_held-read-requires-clause-valued c = let q = c.requires.front in front_valued (sizes c.args.table.now) c.args.room q.0 q.1 q.2 q.3 (state c.args.pass.now) q.4 q.5

pub returns-clause-compacted : goal.returns-clause-compacted
returns-clause-compacted c = λ w g hs gs f others rows several. let z = sizes c.args.table.now in let r = c.args.room in let v = state c.args.pass.now in let t = c.compact_held-read.new.rooms in let u = state t.pass.now in let k = c.compact_held-read.ensures in let x = c.compact_held-read.result in
    let behind = sym (ap (λ (l : List SortSlot). length l) (c.slots.ensures.slots ∙ c.sorting.ensures)) ∙ c.slots.ensures.many in
    let many : length (slots_of t.pass.now) ≡ GREATEST_ENTRIES = search (rules, behind) in
    let done : CompactsFront z (call_of c.args.pass.now) r x.dropped (take x.kept (slots_of t.pass.now)) w hs gs v u = subst (λ (xs : List SortSlot). CompactsFront z (call_of c.args.pass.now) r x.dropped xs w hs gs v u) (front_slots (slots_of t.pass.now) x.kept many)
    (front_compacts z (call_of c.args.pass.now) r w g hs gs v f others rows several u k.stays.works (filled GREATEST_ENTRIES (slots_of t.pass.now)) x k.ranges k.read k.rooms k.named) in
    search (rules, done)

pub returns-clause-many : goal.returns-clause-many
returns-clause-many c = let t = c.compact_held-read.new.rooms in let x = c.compact_held-read.result in let fits = c.compact_held-read.ensures.read.fits in let n = slots_many t in
    let behind = sym (ap (λ (l : List SortSlot). length l) (c.slots.ensures.slots ∙ c.sorting.ensures)) ∙ c.slots.ensures.many in
    let many : length (slots_of t.pass.now) ≡ GREATEST_ENTRIES = search (rules, behind) in
    let done : length (take x.kept (slots_of t.pass.now)) ≡ x.kept = length-take-le x.kept (slots_of t.pass.now) (omega arith) in
    search (rules, done)

pub returns-clause-base : goal.returns-clause-base
returns-clause-base c = let t = c.compact_held-read.new.rooms in let x = c.compact_held-read.result in
    let done : x.base ≡ (held_memory (state t.pass.now).rooms.held).base c.args.room = sym c.compact_held-read.ensures.rooms.fills.filled.base_is in search (rules, done)

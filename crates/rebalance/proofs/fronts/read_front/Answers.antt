use Rattle.std.proofs.Common.{rules, ◌≡◌, zero, List, length, sym, ap, ◌∙◌, subst}
use Rattle.oak_model.specs.declared.limits.TheConstants.{GREATEST_ENTRIES}
use Rattle.oak_core.specs.declared.sorting.SortSlot.{SortSlot}
use Rattle.oak_core.specs.Passes.{state, call_of, slots_of, key as sizes}
use Rattle.rebalance.specs.Chunks.{ReadsFront, keys_in}
use Rattle.rebalance.specs.Mirrors.{held_memory}
use Rattle.rebalance.proofs.FrontRooms.{front_alone, front_differ, front_keys, front_mirrors, front_names, front_stands, front_there}
use Rattle.rebalance.proofs.HeldRoomFacts.{is_held_room}
use Rattle.rebalance.proofs.HeldSlots.{filled_whole}
use Rattle.rebalance.proofs.fronts.read_front.Goals as goal

pub read_sorted-read-requires-clause-held : goal.read_sorted-read-requires-clause-held
read_sorted-read-requires-clause-held c = let q = c.requires.front in record { own = c.requires.own; alone = front_alone (sizes c.args.table.now) c.args.room q.0 q.1 q.2 q.3 (state c.args.pass.now) q.4 }

pub read_sorted-read-requires-clause-within : goal.read_sorted-read-requires-clause-within
read_sorted-read-requires-clause-within c = let q = c.requires.front in (front_mirrors (sizes c.args.table.now) c.args.room q.0 q.1 q.2 q.3 (state c.args.pass.now) q.4).few

pub read_sorted-read-requires-clause-room : goal.read_sorted-read-requires-clause-room
read_sorted-read-requires-clause-room c = let z = sizes c.args.table.now in let r = c.args.room in let v = state c.args.pass.now in let q = c.requires.front in let w = q.0 in let g = q.1 in let hs = q.2 in let gs = q.3 in let f = q.4 in
    is_held_room z (held_memory v.rooms.held) r g (front_mirrors z r w g hs gs v f) (front_stands z r w g hs gs v f) (front_differ z r w g hs gs v f) (keys_in v.rooms.moving) (front_keys z r w g hs gs v f) _ v.rooms.moving zero (front_there z r w g hs gs v f)
    (λ k h b. record { own = c.requires.own; names = front_names z r w g hs gs v f k h b })

pub returns-clause-reads : goal.returns-clause-reads
returns-clause-reads c = let z = sizes c.args.table.now in let r = c.args.room in let v = state c.args.pass.now in let t = c.read_sorted-read.new.rooms in let u = state t.pass.now in let k = c.read_sorted-read.ensures in let x = c.read_sorted-read.result in
    let behind = sym (ap (λ (l : List SortSlot). length l) (c.slots.ensures.slots ∙ c.sorting.ensures)) ∙ c.slots.ensures.many in
    let many : length (slots_of t.pass.now) ≡ GREATEST_ENTRIES = search (rules, behind) in
    let done : ReadsFront z (call_of c.args.pass.now) r (slots_of t.pass.now) x v u = subst (λ (xs : List SortSlot). ReadsFront z (call_of c.args.pass.now) r xs x v u) (filled_whole GREATEST_ENTRIES (slots_of t.pass.now) many)
    (record { works = k.stays.works; drops = k.rooms; ranges = k.ranges; read = k.read; named = k.named }) in
    search (rules, done)

use Rattle.std.proofs.Common.{ℕ, length, rules, subst, sym, arith, Option}
use Rattle.oak_model.specs.Class.{class_number}
use Rattle.oak_model.specs.Limits.{Sizes}
use Rattle.arena_core.specs.Blocks.{HoldsBlock}
use Rattle.arena_ops.specs.Taking.{Gives}
use Rattle.link_search.specs.Linked.{IsAboveFrom}
use Rattle.oak_core.specs.declared.table.Pass.{Pass}
use Rattle.oak_core.specs.AloneWords.{Runs}
use Rattle.oak_core.specs.Passes.{Stays, state, key as sizes, call_of}
use Rattle.oak_core.proofs.seats.SamePass.{stays_both}
use Rattle.oak_core.specs.QuietSteps.{MetOnly, TookNone}
use Rattle.chunk_ops.specs.declared.entries.AddHalt.TheVariants.{Crowded, Busy}
use Rattle.chunk_ops.specs.Adds.{AddsEntry, KeepsBlock, NotAddedBy}
use Rattle.chunk_ops.specs.AddsAlone.{AddsIn, NotAddedIn}
use Rattle.chunk_ops.specs.PinRecords.{room_pin}
use Rattle.chunk_ops.specs.RoomLoads.{linked_in}
use Rattle.chunk_ops.proofs.AddCalls.{calls_add, call_above, call_added_lone, call_adds, call_below, call_changed, call_crowded, call_crowded_lone, call_found, call_found_lone, call_keeps, call_holds, call_took}
use Rattle.chunk_ops.proofs.AddedKeys.{took_back}
use Rattle.chunk_ops.proofs.CompareFacts.{slice_bytes}
use Rattle.chunk_ops.proofs.FoundEntries.{pin_still}
use Rattle.chunk_ops.proofs.KeysFound.{before_below, lies_above}
use Rattle.chunk_ops.proofs.LoneAdds.{never_lone, where_lone}
use Rattle.chunk_ops.proofs.adding.add.Goals as goal

pub add-requires-clause-pinned : goal.add-requires-clause-pinned
add-requires-clause-pinned c = let z : Sizes = sizes c.args.table.now in let call = call_of c.args.pass.now in let r = c.args.pin.now.room in let b = c.args.block in let k = c.args.key.now in let u = state c.args.pass.now in let g = c.base_of-base in let v = state g.new.pass in
    record { own = (search rules); pin = pin_still z call r u v g.ensures.only c.requires.pinned; first = c.first_key_at.ensures }

pub add-requires-clause-holds : goal.add-requires-clause-holds
add-requires-clause-holds c = let z : Sizes = sizes c.args.table.now in let call = call_of c.args.pass.now in let r = c.args.pin.now.room in let b = c.args.block in let k = c.args.key.now in let u = state c.args.pass.now in let g = c.base_of-base in let v = state g.new.pass in
    let a = calls_add z r g.result c.place_word.result (call_of g.new.pass) b.class b.number call k u v g.ensures.own.call g.ensures.only c.requires.claim c.requires.pinned g.ensures.base c.place_word.ensures c.requires.key in
    call_holds z r g.result c.place_word.result (call_of g.new.pass) b.class b.number call k u v a

pub add-requires-clause-behind : goal.add-requires-clause-behind
add-requires-clause-behind c = let z : Sizes = sizes c.args.table.now in let call = call_of c.args.pass.now in let r = c.args.pin.now.room in let b = c.args.block in let k = c.args.key.now in let u = state c.args.pass.now in let g = c.base_of-base in let v = state g.new.pass in
    let a = calls_add z r g.result c.place_word.result (call_of g.new.pass) b.class b.number call k u v g.ensures.own.call g.ensures.only c.requires.claim c.requires.pinned g.ensures.base c.place_word.ensures c.requires.key in let from = c.number_in.result in
    call_above z r g.result c.place_word.result (call_of g.new.pass) b.class b.number call k u v a from (subst (λ (o : Option ℕ). IsAboveFrom (linked_in (room_pin u)) o k) (sym c.number_in.ensures) (lies_above z r u c.requires.pinned c.args.behind k c.requires.behind))

pub add-requires-clause-seen : goal.add-requires-clause-seen
add-requires-clause-seen c = let z : Sizes = sizes c.args.table.now in let call = call_of c.args.pass.now in let r = c.args.pin.now.room in let b = c.args.block in let k = c.args.key.now in let u = state c.args.pass.now in let g = c.base_of-base in let v = state g.new.pass in
    let a = calls_add z r g.result c.place_word.result (call_of g.new.pass) b.class b.number call k u v g.ensures.own.call g.ensures.only c.requires.claim c.requires.pinned g.ensures.base c.place_word.ensures c.requires.key in
    call_below z r g.result c.place_word.result (call_of g.new.pass) b.class b.number call k u v a c.args.link (before_below z r u c.requires.pinned c.args.link k c.requires.before)

pub add-requires-clause-most : goal.add-requires-clause-most
add-requires-clause-most c = c.entries.ensures.is

-- an entry of the key was there

pub give-requires-clause-held : goal.give-requires-clause-held
give-requires-clause-held c = let z : Sizes = sizes c.args.table.now in let call = call_of c.args.pass.now in let r = c.args.pin.now.room in let b = c.args.block in let k = c.args.key.now in let u = state c.args.pass.now in let g = c.base_of-base in let v = state g.new.pass in
    let a = calls_add z r g.result c.place_word.result (call_of g.new.pass) b.class b.number call k u v g.ensures.own.call g.ensures.only c.requires.claim c.requires.pinned g.ensures.base c.place_word.ensures c.requires.key in
    let e = c.in-Found.ensures in let t = c.add.new.room in let there = c.pass-1.given.1 (sym e.whole.1.same.same_reference) in
    subst (λ (p : Pass). HoldsBlock z (class_number b.class) b.number (state p).blocks) (sym there) ((call_keeps _ b.class b.number call k u a t e.whole.0 e.whole.1 e.added.1).has.block)

pub returns-in-Found-clause-own : goal.returns-in-Found-clause-own
returns-in-Found-clause-own c = let e = c.in-Found.ensures in stays_both (stays_both c.base_of-base.ensures.own e.whole.1.same.own) (subst (λ (p : Pass). Stays p c.give.new.pass) (c.pass-1.given.1 (sym e.whole.1.same.same_reference)) c.give.ensures.own)

pub returns-in-Found-clause-added : goal.returns-in-Found-clause-added
returns-in-Found-clause-added c = let z : Sizes = sizes c.args.table.now in let call = call_of c.args.pass.now in let r = c.args.pin.now.room in let b = c.args.block in let k = c.args.key.now in let u = state c.args.pass.now in let g = c.base_of-base in let v = state g.new.pass in
    let a = calls_add z r g.result c.place_word.result (call_of g.new.pass) b.class b.number call k u v g.ensures.own.call g.ensures.only c.requires.claim c.requires.pinned g.ensures.base c.place_word.ensures c.requires.key in
    let e = c.in-Found.ensures in let t = c.add.new.room in let there = c.pass-1.given.1 (sym e.whole.1.same.same_reference) in let y = c.give.new.pass in let gives : Gives z (call_of t.pass.now) b.class b.number (state t.pass.now) (state y) = subst (λ (p : Pass). Gives z (call_of p) b.class b.number (state p) (state y)) there c.give.ensures.given in
    call_found _ b.class b.number call k u a t e.whole.0 e.whole.1 c.in-Found.entry e.added.0 e.added.1 (state y) gives

pub returns-in-Found-clause-took : goal.returns-in-Found-clause-took
returns-in-Found-clause-took c = let z : Sizes = sizes c.args.table.now in let call = call_of c.args.pass.now in let r = c.args.pin.now.room in let b = c.args.block in let k = c.args.key.now in let u = state c.args.pass.now in let g = c.base_of-base in let v = state g.new.pass in
    let a = calls_add z r g.result c.place_word.result (call_of g.new.pass) b.class b.number call k u v g.ensures.own.call g.ensures.only c.requires.claim c.requires.pinned g.ensures.base c.place_word.ensures c.requires.key in
    let e = c.in-Found.ensures in let t = c.add.new.room in let there = c.pass-1.given.1 (sym e.whole.1.same.same_reference) in let y = c.give.new.pass in let gives : Gives z (call_of t.pass.now) b.class b.number (state t.pass.now) (state y) = subst (λ (p : Pass). Gives z (call_of p) b.class b.number (state p) (state y)) there c.give.ensures.given in
    took_back z (call_of t.pass.now) b.class b.number u (state t.pass.now) (state y) (call_took _ b.class b.number call k u a t e.whole.0 e.whole.1) gives

pub returns-in-Found-clause-alone : goal.returns-in-Found-clause-alone
returns-in-Found-clause-alone c = let z : Sizes = sizes c.args.table.now in let call = call_of c.args.pass.now in let r = c.args.pin.now.room in let b = c.args.block in let k = c.args.key.now in let u = state c.args.pass.now in let g = c.base_of-base in let v = state g.new.pass in
    let a = calls_add z r g.result c.place_word.result (call_of g.new.pass) b.class b.number call k u v g.ensures.own.call g.ensures.only c.requires.claim c.requires.pinned g.ensures.base c.place_word.ensures c.requires.key in let small = slice_bytes k c.type_inv.key in
    let e = c.in-Found.ensures in let t = c.add.new.room in let there = c.pass-1.given.1 (sym e.whole.1.same.same_reference) in let y = c.give.new.pass in let gives : Gives z (call_of t.pass.now) b.class b.number (state t.pass.now) (state y) = subst (λ (p : Pass). Gives z (call_of p) b.class b.number (state p) (state y)) there c.give.ensures.given in let i = c.in-Found.entry in
    where_lone (AddsIn z r (record { 0 = i }) b.class b.number (length k) k) u v (state y) a.only.still (λ lone. call_found_lone _ b.class b.number call k u a t e.whole.0 e.whole.1 small i e.added.0 (e.straight lone) (state y) gives.still)

-- it was added

pub returns-in-Added-clause-own : goal.returns-in-Added-clause-own
returns-in-Added-clause-own c = let e = c.in-Added.ensures in subst (Stays c.args.pass.now) (sym (c.pass-1.given.1 (sym e.whole.1.same.same_reference))) (stays_both c.base_of-base.ensures.own e.whole.1.same.own)

pub returns-in-Added-clause-added : goal.returns-in-Added-clause-added
returns-in-Added-clause-added c = let z : Sizes = sizes c.args.table.now in let call = call_of c.args.pass.now in let r = c.args.pin.now.room in let b = c.args.block in let k = c.args.key.now in let u = state c.args.pass.now in let g = c.base_of-base in let v = state g.new.pass in
    let a = calls_add z r g.result c.place_word.result (call_of g.new.pass) b.class b.number call k u v g.ensures.own.call g.ensures.only c.requires.claim c.requires.pinned g.ensures.base c.place_word.ensures c.requires.key in
    let e = c.in-Added.ensures in let t = c.add.new.room in let there = c.pass-1.given.1 (sym e.whole.1.same.same_reference) in
    subst (λ (p : Pass). AddsEntry z call r c.in-Added.entry b.class b.number k u (state p)) (sym there) (call_adds _ b.class b.number call k u a t e.whole.0 e.whole.1 c.in-Added.entry e.added.1 e.added.2 e.added.3)

pub returns-in-Added-clause-took : goal.returns-in-Added-clause-took
returns-in-Added-clause-took c = let z : Sizes = sizes c.args.table.now in let call = call_of c.args.pass.now in let r = c.args.pin.now.room in let b = c.args.block in let k = c.args.key.now in let u = state c.args.pass.now in let g = c.base_of-base in let v = state g.new.pass in
    let a = calls_add z r g.result c.place_word.result (call_of g.new.pass) b.class b.number call k u v g.ensures.own.call g.ensures.only c.requires.claim c.requires.pinned g.ensures.base c.place_word.ensures c.requires.key in
    let e = c.in-Added.ensures in let t = c.add.new.room in let there = c.pass-1.given.1 (sym e.whole.1.same.same_reference) in
    subst (λ (p : Pass). MetOnly TookNone u (state p)) (sym there) (call_took _ b.class b.number call k u a t e.whole.0 e.whole.1)

pub returns-in-Added-clause-alone : goal.returns-in-Added-clause-alone
returns-in-Added-clause-alone c = let z : Sizes = sizes c.args.table.now in let call = call_of c.args.pass.now in let r = c.args.pin.now.room in let b = c.args.block in let k = c.args.key.now in let u = state c.args.pass.now in let g = c.base_of-base in let v = state g.new.pass in
    let a = calls_add z r g.result c.place_word.result (call_of g.new.pass) b.class b.number call k u v g.ensures.own.call g.ensures.only c.requires.claim c.requires.pinned g.ensures.base c.place_word.ensures c.requires.key in let small = slice_bytes k c.type_inv.key in
    let e = c.in-Added.ensures in let t = c.add.new.room in let there = c.pass-1.given.1 (sym e.whole.1.same.same_reference) in let i = c.in-Added.entry in let f = c.entries.ensures.is in let l = e.added.0 in
    subst (λ (p : Pass). Runs (AddsIn z r (record { 0 = i }) b.class b.number (length k) k) u (state p)) (sym there)
    (where_lone (AddsIn z r (record { 0 = i }) b.class b.number (length k) k) u v (state t.pass.now) a.only.still (λ lone. call_added_lone _ b.class b.number call k u a t e.whole.0 e.whole.1 small i (omega arith) e.added.1 (e.straight lone)))

-- the room was full

pub returns-in-Full-clause-own : goal.returns-in-Full-clause-own
returns-in-Full-clause-own c = let e = c.in-Full.ensures in subst (Stays c.args.pass.now) (sym (c.pass-1.given.1 (sym e.whole.1.same.same_reference))) (stays_both c.base_of-base.ensures.own e.whole.1.same.own)

pub returns-in-Full-clause-took : goal.returns-in-Full-clause-took
returns-in-Full-clause-took c = let z : Sizes = sizes c.args.table.now in let call = call_of c.args.pass.now in let r = c.args.pin.now.room in let b = c.args.block in let k = c.args.key.now in let u = state c.args.pass.now in let g = c.base_of-base in let v = state g.new.pass in
    let a = calls_add z r g.result c.place_word.result (call_of g.new.pass) b.class b.number call k u v g.ensures.own.call g.ensures.only c.requires.claim c.requires.pinned g.ensures.base c.place_word.ensures c.requires.key in
    let e = c.in-Full.ensures in let t = c.add.new.room in let there = c.pass-1.given.1 (sym e.whole.1.same.same_reference) in
    subst (λ (p : Pass). MetOnly TookNone u (state p)) (sym there) (call_took _ b.class b.number call k u a t e.whole.0 e.whole.1)

pub returns-in-Full-clause-under : goal.returns-in-Full-clause-under
returns-in-Full-clause-under c = let z : Sizes = sizes c.args.table.now in let call = call_of c.args.pass.now in let r = c.args.pin.now.room in let b = c.args.block in let k = c.args.key.now in let u = state c.args.pass.now in let g = c.base_of-base in let v = state g.new.pass in
    let a = calls_add z r g.result c.place_word.result (call_of g.new.pass) b.class b.number call k u v g.ensures.own.call g.ensures.only c.requires.claim c.requires.pinned g.ensures.base c.place_word.ensures c.requires.key in
    let e = c.in-Full.ensures in let t = c.add.new.room in let there = c.pass-1.given.1 (sym e.whole.1.same.same_reference) in
    subst (λ (p : Pass). KeepsBlock z call r b.class b.number k u (state p)) (sym there) (call_keeps _ b.class b.number call k u a t e.whole.0 e.whole.1 e.added.1)

pub returns-in-Full-clause-not_added : goal.returns-in-Full-clause-not_added
returns-in-Full-clause-not_added c = let z : Sizes = sizes c.args.table.now in let call = call_of c.args.pass.now in let r = c.args.pin.now.room in let b = c.args.block in let k = c.args.key.now in let u = state c.args.pass.now in let g = c.base_of-base in let v = state g.new.pass in
    let a = calls_add z r g.result c.place_word.result (call_of g.new.pass) b.class b.number call k u v g.ensures.own.call g.ensures.only c.requires.claim c.requires.pinned g.ensures.base c.place_word.ensures c.requires.key in let small = slice_bytes k c.type_inv.key in
    let e = c.in-Full.ensures in let t = c.add.new.room in let there = c.pass-1.given.1 (sym e.whole.1.same.same_reference) in
    subst (λ (p : Pass). NotAddedBy Crowded z call r k u (state p)) (sym there) (call_crowded _ b.class b.number call k u a t e.whole.0 e.whole.1 small c.entries.result c.entries.ensures.is e.added.0)

pub returns-in-Full-clause-alone_not_added : goal.returns-in-Full-clause-alone_not_added
returns-in-Full-clause-alone_not_added c = let z : Sizes = sizes c.args.table.now in let call = call_of c.args.pass.now in let r = c.args.pin.now.room in let b = c.args.block in let k = c.args.key.now in let u = state c.args.pass.now in let g = c.base_of-base in let v = state g.new.pass in
    let a = calls_add z r g.result c.place_word.result (call_of g.new.pass) b.class b.number call k u v g.ensures.own.call g.ensures.only c.requires.claim c.requires.pinned g.ensures.base c.place_word.ensures c.requires.key in let small = slice_bytes k c.type_inv.key in
    let e = c.in-Full.ensures in let t = c.add.new.room in let there = c.pass-1.given.1 (sym e.whole.1.same.same_reference) in
    subst (λ (p : Pass). Runs (NotAddedIn Crowded z r k) u (state p)) (sym there) (call_crowded_lone _ b.class b.number call k u a t e.whole.0 e.whole.1 small c.entries.result c.entries.ensures.is e.added.0)

-- the count or a link was changed

pub returns-in-Busy-clause-own : goal.returns-in-Busy-clause-own
returns-in-Busy-clause-own c = let e = c.in-Busy.ensures in subst (Stays c.args.pass.now) (sym (c.pass-1.given.1 (sym e.whole.1.same.same_reference))) (stays_both c.base_of-base.ensures.own e.whole.1.same.own)

pub returns-in-Busy-clause-took : goal.returns-in-Busy-clause-took
returns-in-Busy-clause-took c = let z : Sizes = sizes c.args.table.now in let call = call_of c.args.pass.now in let r = c.args.pin.now.room in let b = c.args.block in let k = c.args.key.now in let u = state c.args.pass.now in let g = c.base_of-base in let v = state g.new.pass in
    let a = calls_add z r g.result c.place_word.result (call_of g.new.pass) b.class b.number call k u v g.ensures.own.call g.ensures.only c.requires.claim c.requires.pinned g.ensures.base c.place_word.ensures c.requires.key in
    let e = c.in-Busy.ensures in let t = c.add.new.room in let there = c.pass-1.given.1 (sym e.whole.1.same.same_reference) in
    subst (λ (p : Pass). MetOnly TookNone u (state p)) (sym there) (call_took _ b.class b.number call k u a t e.whole.0 e.whole.1)

pub returns-in-Busy-clause-under : goal.returns-in-Busy-clause-under
returns-in-Busy-clause-under c = let z : Sizes = sizes c.args.table.now in let call = call_of c.args.pass.now in let r = c.args.pin.now.room in let b = c.args.block in let k = c.args.key.now in let u = state c.args.pass.now in let g = c.base_of-base in let v = state g.new.pass in
    let a = calls_add z r g.result c.place_word.result (call_of g.new.pass) b.class b.number call k u v g.ensures.own.call g.ensures.only c.requires.claim c.requires.pinned g.ensures.base c.place_word.ensures c.requires.key in
    let e = c.in-Busy.ensures in let t = c.add.new.room in let there = c.pass-1.given.1 (sym e.whole.1.same.same_reference) in
    subst (λ (p : Pass). KeepsBlock z call r b.class b.number k u (state p)) (sym there) (call_keeps _ b.class b.number call k u a t e.whole.0 e.whole.1 e.added.1)

pub returns-in-Busy-clause-not_added : goal.returns-in-Busy-clause-not_added
returns-in-Busy-clause-not_added c = let z : Sizes = sizes c.args.table.now in let call = call_of c.args.pass.now in let r = c.args.pin.now.room in let b = c.args.block in let k = c.args.key.now in let u = state c.args.pass.now in let g = c.base_of-base in let v = state g.new.pass in
    let a = calls_add z r g.result c.place_word.result (call_of g.new.pass) b.class b.number call k u v g.ensures.own.call g.ensures.only c.requires.claim c.requires.pinned g.ensures.base c.place_word.ensures c.requires.key in
    let e = c.in-Busy.ensures in let t = c.add.new.room in let there = c.pass-1.given.1 (sym e.whole.1.same.same_reference) in
    subst (λ (p : Pass). NotAddedBy Busy z call r k u (state p)) (sym there) (call_changed _ b.class b.number call k u a t e.whole.0 e.whole.1 e.added.0)

pub returns-in-Busy-clause-alone_not_added : goal.returns-in-Busy-clause-alone_not_added
returns-in-Busy-clause-alone_not_added c = let z : Sizes = sizes c.args.table.now in let call = call_of c.args.pass.now in let r = c.args.pin.now.room in let b = c.args.block in let k = c.args.key.now in let u = state c.args.pass.now in let g = c.base_of-base in let v = state g.new.pass in
    let a = calls_add z r g.result c.place_word.result (call_of g.new.pass) b.class b.number call k u v g.ensures.own.call g.ensures.only c.requires.claim c.requires.pinned g.ensures.base c.place_word.ensures c.requires.key in
    let e = c.in-Busy.ensures in let t = c.add.new.room in let there = c.pass-1.given.1 (sym e.whole.1.same.same_reference) in
    subst (λ (p : Pass). Runs (NotAddedIn Busy z r k) u (state p)) (sym there) (never_lone u v (state t.pass.now) a.only.still e.alone)

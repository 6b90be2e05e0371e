use Rattle.std.proofs.Common.{refl, ◌∙◌, arith}
use Rattle.oak_model.specs.Limits.{Sizes}
use Rattle.chunk_core.specs.LinkWords.{link_spot}
use Rattle.oak_core.specs.Memory.{in_rooms}
use Rattle.oak_core.specs.Passes.{call_of, key, state}
use Rattle.oak_core.proofs.memory.Words.{index_below}
use Rattle.chunk_ops.specs.PinRecords.{room_pin}
use Rattle.chunk_ops.proofs.FoundViews.{view_later}
use Rattle.chunk_ops.proofs.LinkedPins.{leads_found, link_inside, link_small, links_now}
use Rattle.chunk_ops.proofs.WordLoads.{load_at}
use Rattle.chunk_ops.proofs.pinned_table.PinnedTableLinkedRoom.link.Goals as goal

pub link_at-word-requires : goal.link_at-word-requires
link_at-word-requires c = let s = c.args.self.now in record { first = c.requires.pinned.first; inside = link_inside (key s.table.now) s.room c.args.from (state s.pass.now) c.requires.pinned.pin c.requires.leads }

pub load-requires-clause-inside : goal.load-requires-clause-inside
load-requires-clause-inside c = let s = c.args.self.now in let l = index_below (key s.table.now) (in_rooms (link_spot s.room c.args.from)) (link_inside (key s.table.now) s.room c.args.from (state s.pass.now) c.requires.pinned.pin c.requires.leads) in let e = c.link_at-word.ensures in omega arith

pub overflow_cast-result : goal.overflow_cast-result
overflow_cast-result c = let s = c.args.self.now in let z : Sizes = key s.table.now in let v = state s.pass.now in let w = state c.load.new.pass in let n = c.load.result in let call = call_of s.pass.now in let p = c.requires.pinned.pin in
    let k = links_now z call s.room v n w p c.args.from (leads_found (room_pin v) c.args.from c.requires.leads) (load_at z call c.link_at-word.result n v w (in_rooms (link_spot s.room c.args.from)) (link_inside z s.room c.args.from v p c.requires.leads) c.link_at-word.ensures c.load.ensures.loaded) in
    let l = link_small z s.room n w k.under.pin.has k.named in omega (arith, l)

pub returns-clause-pinned : goal.returns-clause-pinned
returns-clause-pinned c = let s = c.args.self.now in let z : Sizes = key s.table.now in let v = state s.pass.now in let w = state c.load.new.pass in let n = c.load.result in let call = call_of s.pass.now in let p = c.requires.pinned.pin in
    let k = links_now z call s.room v n w p c.args.from (leads_found (room_pin v) c.args.from c.requires.leads) (load_at z call c.link_at-word.result n v w (in_rooms (link_spot s.room c.args.from)) (link_inside z s.room c.args.from v p c.requires.leads) c.link_at-word.ensures c.load.ensures.loaded) in record {
      own = c.load.ensures.own.table ∙ c.requires.pinned.own;
      pin = k.under.pin.has;
      first = c.requires.pinned.first;
    }

pub returns-clause-later : goal.returns-clause-later
returns-clause-later c = let s = c.args.self.now in let z : Sizes = key s.table.now in let v = state s.pass.now in let w = state c.load.new.pass in let n = c.load.result in let call = call_of s.pass.now in let p = c.requires.pinned.pin in
    let k = links_now z call s.room v n w p c.args.from (leads_found (room_pin v) c.args.from c.requires.leads) (load_at z call c.link_at-word.result n v w (in_rooms (link_spot s.room c.args.from)) (link_inside z s.room c.args.from v p c.requires.leads) c.link_at-word.ensures c.load.ensures.loaded) in
    view_later (room_pin v) (room_pin w) k.under.pin.stays k.under.pin.has.alike k.count

pub returns-clause-named : goal.returns-clause-named
returns-clause-named c = let s = c.args.self.now in let z : Sizes = key s.table.now in let v = state s.pass.now in let w = state c.load.new.pass in let n = c.load.result in let call = call_of s.pass.now in let p = c.requires.pinned.pin in
    (links_now z call s.room v n w p c.args.from (leads_found (room_pin v) c.args.from c.requires.leads) (load_at z call c.link_at-word.result n v w (in_rooms (link_spot s.room c.args.from)) (link_inside z s.room c.args.from v p c.requires.leads) c.link_at-word.ensures c.load.ensures.loaded)).named

pub returns-clause-above : goal.returns-clause-above
returns-clause-above c = let s = c.args.self.now in let z : Sizes = key s.table.now in let v = state s.pass.now in let w = state c.load.new.pass in let n = c.load.result in let call = call_of s.pass.now in let p = c.requires.pinned.pin in
    (links_now z call s.room v n w p c.args.from (leads_found (room_pin v) c.args.from c.requires.leads) (load_at z call c.link_at-word.result n v w (in_rooms (link_spot s.room c.args.from)) (link_inside z s.room c.args.from v p c.requires.leads) c.link_at-word.ensures c.load.ensures.loaded)).above

pub returns-clause-none : goal.returns-clause-none
returns-clause-none c = let s = c.args.self.now in let z : Sizes = key s.table.now in let v = state s.pass.now in let w = state c.load.new.pass in let n = c.load.result in let call = call_of s.pass.now in let p = c.requires.pinned.pin in
    (links_now z call s.room v n w p c.args.from (leads_found (room_pin v) c.args.from c.requires.leads) (load_at z call c.link_at-word.result n v w (in_rooms (link_spot s.room c.args.from)) (link_inside z s.room c.args.from v p c.requires.leads) c.link_at-word.ensures c.load.ensures.loaded)).none

pub returns-clause-meets : goal.returns-clause-meets
returns-clause-meets c = let s = c.args.self.now in let z : Sizes = key s.table.now in let v = state s.pass.now in let w = state c.load.new.pass in let n = c.load.result in let call = call_of s.pass.now in let p = c.requires.pinned.pin in record {
  same = record { table = refl; same_reference = refl; room = refl; base = refl; place = refl; own = c.load.ensures.own };
  does = (w, load_at z call c.link_at-word.result n v w (in_rooms (link_spot s.room c.args.from)) (link_inside z s.room c.args.from v p c.requires.leads) c.link_at-word.ensures c.load.ensures.loaded, refl);
}

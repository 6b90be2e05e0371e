use Rattle.std.proofs.Common.{ℕ, ◌<◌, sym, refl, ap, ◌∙◌, subst, arith, Option}
use Rattle.oak_model.specs.Limits.{Sizes}
use Rattle.chunk_core.specs.Rooms.{at_count}
use Rattle.oak_core.specs.Memory.{in_rooms}
use Rattle.oak_core.specs.Passes.{call_of, key, state}
use Rattle.oak_core.proofs.memory.Words.{index_below}
use Rattle.chunk_ops.specs.PinRecords.{room_pin}
use Rattle.chunk_ops.specs.RoomLoads.{counts_told, prefix_told}
use Rattle.chunk_ops.proofs.CountedPins.{counts_now, same_counted}
use Rattle.chunk_ops.proofs.FoundViews.{view_grown}
use Rattle.chunk_ops.proofs.WordLoads.{load_at}
use Rattle.chunk_ops.proofs.pinned_table.PinnedTableLinkedRoom.count.Goals as goal

pub load-requires-clause-inside : goal.load-requires-clause-inside
load-requires-clause-inside c = let s = c.args.self.now in let l = index_below (key s.table.now) (in_rooms (at_count s.room)) (c.requires.pin.inside, omega arith) in let e = c.count_at-word.ensures in omega arith

pub returns-clause-pinned : goal.returns-clause-pinned
returns-clause-pinned c = let s = c.args.self.now in let z : Sizes = key s.table.now in let v = state s.pass.now in let w = state c.load.new.pass in let n = c.load.result in let call = call_of s.pass.now in
    let k = counts_now z call s.room v n w c.requires.pin (load_at z call c.count_at-word.result n v w (in_rooms (at_count s.room)) (c.requires.pin.inside, omega arith) c.count_at-word.ensures c.load.ensures.loaded) in record {
      own = c.load.ensures.own.table ∙ c.requires.own;
      pin = k.under.pin.has;
      first = c.requires.first;
    }

pub returns-clause-counted : goal.returns-clause-counted
returns-clause-counted c = let s = c.args.self.now in let z : Sizes = key s.table.now in let v = state s.pass.now in let w = state c.load.new.pass in let n = c.load.result in let call = call_of s.pass.now in
    let k = counts_now z call s.room v n w c.requires.pin (load_at z call c.count_at-word.result n v w (in_rooms (at_count s.room)) (c.requires.pin.inside, omega arith) c.count_at-word.ensures c.load.ensures.loaded) in
    subst (λ (o : Option ℕ). 0 < counts_told o) (sym k.number) (omega arith)

pub returns-clause-grown : goal.returns-clause-grown
returns-clause-grown c = let s = c.args.self.now in let z : Sizes = key s.table.now in let v = state s.pass.now in let w = state c.load.new.pass in let n = c.load.result in let call = call_of s.pass.now in
    let k = counts_now z call s.room v n w c.requires.pin (load_at z call c.count_at-word.result n v w (in_rooms (at_count s.room)) (c.requires.pin.inside, omega arith) c.count_at-word.ensures c.load.ensures.loaded) in
    view_grown (room_pin v) (room_pin w) k.under.pin.stays k.under.pin.has.alike

pub returns-clause-same : goal.returns-clause-same
returns-clause-same c = λ counted. let s = c.args.self.now in let z : Sizes = key s.table.now in let v = state s.pass.now in let w = state c.load.new.pass in let n = c.load.result in let call = call_of s.pass.now in
    let k = counts_now z call s.room v n w c.requires.pin (load_at z call c.count_at-word.result n v w (in_rooms (at_count s.room)) (c.requires.pin.inside, omega arith) c.count_at-word.ensures c.load.ensures.loaded) in
    same_counted z call s.room n _ v w k counted

pub returns-clause-prefix : goal.returns-clause-prefix
returns-clause-prefix c = let s = c.args.self.now in let z : Sizes = key s.table.now in let v = state s.pass.now in let w = state c.load.new.pass in let n = c.load.result in let call = call_of s.pass.now in
    let k = counts_now z call s.room v n w c.requires.pin (load_at z call c.count_at-word.result n v w (in_rooms (at_count s.room)) (c.requires.pin.inside, omega arith) c.count_at-word.ensures c.load.ensures.loaded) in
    ap prefix_told (sym k.number)

pub returns-clause-front : goal.returns-clause-front
returns-clause-front c = let s = c.args.self.now in let z : Sizes = key s.table.now in let v = state s.pass.now in let w = state c.load.new.pass in let n = c.load.result in let call = call_of s.pass.now in
    (counts_now z call s.room v n w c.requires.pin (load_at z call c.count_at-word.result n v w (in_rooms (at_count s.room)) (c.requires.pin.inside, omega arith) c.count_at-word.ensures c.load.ensures.loaded)).front

pub returns-clause-within : goal.returns-clause-within
returns-clause-within c = let s = c.args.self.now in let z : Sizes = key s.table.now in let v = state s.pass.now in let w = state c.load.new.pass in let n = c.load.result in let call = call_of s.pass.now in
    (counts_now z call s.room v n w c.requires.pin (load_at z call c.count_at-word.result n v w (in_rooms (at_count s.room)) (c.requires.pin.inside, omega arith) c.count_at-word.ensures c.load.ensures.loaded)).within

pub returns-clause-room : goal.returns-clause-room
returns-clause-room c = let s = c.args.self.now in let z : Sizes = key s.table.now in let v = state s.pass.now in let w = state c.load.new.pass in let n = c.load.result in let call = call_of s.pass.now in
    (counts_now z call s.room v n w c.requires.pin (load_at z call c.count_at-word.result n v w (in_rooms (at_count s.room)) (c.requires.pin.inside, omega arith) c.count_at-word.ensures c.load.ensures.loaded)).few

pub returns-clause-meets : goal.returns-clause-meets
returns-clause-meets c = let s = c.args.self.now in let z : Sizes = key s.table.now in let v = state s.pass.now in let w = state c.load.new.pass in let n = c.load.result in let call = call_of s.pass.now in record {
  same = record { table = refl; same_reference = refl; room = refl; base = refl; place = refl; own = c.load.ensures.own };
  does = (w, load_at z call c.count_at-word.result n v w (in_rooms (at_count s.room)) (c.requires.pin.inside, omega arith) c.count_at-word.ensures c.load.ensures.loaded, refl);
}

use Rattle.std.proofs.Common.{refl, sym, ap, ◌∙◌, subst, arith}
use Rattle.chunk_core.specs.declared.holds.RoomHolds.{RoomHolds}
use Rattle.oak_model.specs.Limits.{Sizes}
use Rattle.chunk_core.specs.Rooms.{at_key}
use Rattle.oak_core.specs.Memory.{in_rooms}
use Rattle.oak_core.specs.Passes.{state, key, call_of}
use Rattle.oak_core.proofs.memory.Words.{index_below}
use Rattle.chunk_ops.specs.PinRecords.{RoomPinned, pin_or}
use Rattle.chunk_ops.specs.RoomLoads.{room_in}
use Rattle.chunk_ops.proofs.PinnedWords.{entry_inside, word_is}
use Rattle.chunk_ops.proofs.WordLoads.{load_at, only_loaded}
use Rattle.chunk_ops.proofs.pinned_table.PinnedTableSearchedRoom.key_word.Goals as goal

pub key_at-word-requires-clause-inside : goal.key_at-word-requires-clause-inside
key_at-word-requires-clause-inside c = let s = c.args.self.now in entry_inside (key s.table.now) s.room c.args.entry (state s.pass.now) c.requires.pinned.pin c.requires.found

pub load-requires-clause-inside : goal.load-requires-clause-inside
load-requires-clause-inside c = let s = c.args.self.now in let l = index_below (key s.table.now) (in_rooms (at_key s.room c.args.entry)) (entry_inside (key s.table.now) s.room c.args.entry (state s.pass.now) c.requires.pinned.pin c.requires.found) in let e = c.key_at-word.ensures in omega arith

pub returns-clause-pinned : goal.returns-clause-pinned
returns-clause-pinned c = let s = c.args.self.now in let z : Sizes = key s.table.now in let v = state s.pass.now in let w = state c.load.new.pass in
    let inside = entry_inside z s.room c.args.entry v c.requires.pinned.pin c.requires.found in
    let only = only_loaded z (call_of s.pass.now) c.key_at-word.result c.load.result v w (in_rooms (at_key s.room c.args.entry)) inside tt c.key_at-word.ensures c.load.ensures.loaded in record {
      own = c.load.ensures.own.table ∙ c.requires.pinned.own;
      pin = subst (RoomPinned z s.room) (sym only.rooms) c.requires.pinned.pin;
      first = c.requires.pinned.first;
    }

pub returns-clause-same : goal.returns-clause-same
returns-clause-same c = let s = c.args.self.now in let z : Sizes = key s.table.now in let v = state s.pass.now in let w = state c.load.new.pass in
    let inside = entry_inside z s.room c.args.entry v c.requires.pinned.pin c.requires.found in
    let only = only_loaded z (call_of s.pass.now) c.key_at-word.result c.load.result v w (in_rooms (at_key s.room c.args.entry)) inside tt c.key_at-word.ensures c.load.ensures.loaded in
    ap (λ (a : RoomHolds). room_in (pin_or a.pin)) only.rooms

pub returns-clause-word : goal.returns-clause-word
returns-clause-word c = let s = c.args.self.now in let z : Sizes = key s.table.now in let v = state s.pass.now in let w = state c.load.new.pass in let call = call_of s.pass.now in let p = c.requires.pinned.pin in
    word_is z s.room c.args.entry v p c.requires.found call c.load.result w
    (load_at z call c.key_at-word.result c.load.result v w (in_rooms (at_key s.room c.args.entry)) (entry_inside z s.room c.args.entry v p c.requires.found) c.key_at-word.ensures c.load.ensures.loaded)

pub returns-clause-meets : goal.returns-clause-meets
returns-clause-meets c = let s = c.args.self.now in let z : Sizes = key s.table.now in let v = state s.pass.now in let w = state c.load.new.pass in let call = call_of s.pass.now in let p = c.requires.pinned.pin in record {
  same = record { table = refl; same_reference = refl; room = refl; base = refl; place = refl; own = c.load.ensures.own };
  loads = (w, load_at z call c.key_at-word.result c.load.result v w (in_rooms (at_key s.room c.args.entry)) (entry_inside z s.room c.args.entry v p c.requires.found) c.key_at-word.ensures c.load.ensures.loaded, refl);
}

use Rattle.std.proofs.Common.{◌≡◌, ◌<◌, ◌*◌, length, refl, sym, ap, ◌∙◌, subst, arith}
use Rattle.chunk_core.specs.declared.holds.RoomHolds.{RoomHolds}
use Rattle.oak_model.specs.Limits.{Sizes}
use Rattle.arena_core.specs.Arena.{at_bytes}
use Rattle.arena_core.specs.Place.{class_in, block_in, length_in}
use Rattle.oak_core.specs.Memory.{in_arena}
use Rattle.oak_core.specs.Passes.{state, key, call_of}
use Rattle.oak_core.proofs.memory.Words.{index_below}
use Rattle.chunk_ops.specs.PinRecords.{RoomPinned, pin_or}
use Rattle.chunk_ops.specs.Room.{key_at}
use Rattle.chunk_ops.specs.RoomLoads.{room_in, room_of}
use Rattle.chunk_ops.specs.FoundNumbers.{table_room}
use Rattle.chunk_ops.proofs.PinnedWords.{block_is, named_inside}
use Rattle.chunk_ops.proofs.WordLoads.{load_at, only_loaded}
use Rattle.chunk_ops.proofs.pinned_table.PinnedTableSearchedRoom.block_word.Goals as goal

pub key_block_at-word-requires : goal.key_block_at-word-requires
key_block_at-word-requires c = let s = c.args.self.now in let q = c.requires.named in named_inside (key s.table.now) s.room q.0 (state s.pass.now) c.requires.pinned.pin q.1 c.args.place c.args.i q.2 q.3

pub load-requires-clause-inside : goal.load-requires-clause-inside
load-requires-clause-inside c = let s = c.args.self.now in let z : Sizes = key s.table.now in let q = c.requires.named in let n = named_inside z s.room q.0 (state s.pass.now) c.requires.pinned.pin q.1 c.args.place c.args.i q.2 q.3 in let word = c.args.place in
    let is = c.key_block_at-word.ensures in
    let l = index_below z (in_arena (at_bytes (class_in word) (block_in word) c.args.i)) n in omega arith

pub returns-clause-pinned : goal.returns-clause-pinned
returns-clause-pinned c = let s = c.args.self.now in let z : Sizes = key s.table.now in let q = c.requires.named in let n = named_inside z s.room q.0 (state s.pass.now) c.requires.pinned.pin q.1 c.args.place c.args.i q.2 q.3 in let word = c.args.place in let v = state s.pass.now in let w = state c.load.new.pass in
    let is = c.key_block_at-word.ensures in
    let only = only_loaded z (call_of s.pass.now) c.key_block_at-word.result c.load.result v w (in_arena (at_bytes (class_in word) (block_in word) c.args.i)) n tt is c.load.ensures.loaded in record {
      own = c.load.ensures.own.table ∙ c.requires.pinned.own;
      pin = subst (RoomPinned z s.room) (sym only.rooms) c.requires.pinned.pin;
      first = c.requires.pinned.first;
    }

pub returns-clause-same : goal.returns-clause-same
returns-clause-same c = let s = c.args.self.now in let z : Sizes = key s.table.now in let q = c.requires.named in let n = named_inside z s.room q.0 (state s.pass.now) c.requires.pinned.pin q.1 c.args.place c.args.i q.2 q.3 in let word = c.args.place in let v = state s.pass.now in let w = state c.load.new.pass in
    let is = c.key_block_at-word.ensures in
    let only = only_loaded z (call_of s.pass.now) c.key_block_at-word.result c.load.result v w (in_arena (at_bytes (class_in word) (block_in word) c.args.i)) n tt is c.load.ensures.loaded in
    ap (λ (a : RoomHolds). room_in (pin_or a.pin)) only.rooms

pub returns-clause-bytes : goal.returns-clause-bytes
returns-clause-bytes c = λ e lt at. let s = c.args.self.now in let z : Sizes = key s.table.now in let q = c.requires.named in let n = named_inside z s.room q.0 (state s.pass.now) c.requires.pinned.pin q.1 c.args.place c.args.i q.2 q.3 in let word = c.args.place in let v = state s.pass.now in let w = state c.load.new.pass in let call = call_of s.pass.now in
    let is = c.key_block_at-word.ensures in
    let o = table_room s c.requires.pinned in
    let few : 8 * c.args.i < length (key_at (room_of s) e) = (let a = o.long q.0 q.1 in let b = o.long e lt in let g : length_in ((room_of s).place e) ≡ length_in ((room_of s).place q.0) = ap length_in (sym at ∙ q.2) in let h = q.3 in omega arith) in
    block_is z s.room e v c.requires.pinned.pin lt call c.load.result word c.args.i w at few (load_at z call c.key_block_at-word.result c.load.result v w (in_arena (at_bytes (class_in word) (block_in word) c.args.i)) n is c.load.ensures.loaded)

pub returns-clause-meets : goal.returns-clause-meets
returns-clause-meets c = let s = c.args.self.now in let z : Sizes = key s.table.now in let q = c.requires.named in let n = named_inside z s.room q.0 (state s.pass.now) c.requires.pinned.pin q.1 c.args.place c.args.i q.2 q.3 in let word = c.args.place in let v = state s.pass.now in let w = state c.load.new.pass in let call = call_of s.pass.now in
    let is = c.key_block_at-word.ensures in record {
      same = record { table = refl; same_reference = refl; room = refl; base = refl; place = refl; own = c.load.ensures.own };
      loads = (w, load_at z call c.key_block_at-word.result c.load.result v w (in_arena (at_bytes (class_in word) (block_in word) c.args.i)) n is c.load.ensures.loaded, refl);
    }

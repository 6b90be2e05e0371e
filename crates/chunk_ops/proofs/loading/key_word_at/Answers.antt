use Rattle.std.proofs.Common.{arith}
use Rattle.oak_model.specs.Limits.{Sizes}
use Rattle.chunk_core.specs.Rooms.{at_key}
use Rattle.oak_core.specs.Memory.{in_rooms}
use Rattle.oak_core.specs.Passes.{state, key, call_of}
use Rattle.oak_core.proofs.memory.Words.{index_below}
use Rattle.chunk_ops.proofs.FoundEntries.{key_word_found}
use Rattle.chunk_ops.proofs.WordLoads.{found_inside, load_at, only_loaded}
use Rattle.chunk_ops.proofs.loading.key_word_at.Goals as goal

pub load-requires-clause-inside : goal.load-requires-clause-inside
load-requires-clause-inside c = let z : Sizes = key c.args.table.now in let r = c.args.pin.now.room in let e = c.requires.number in
    let l = index_below z (in_rooms (at_key r c.args.entry.0)) (c.requires.pinned.inside, found_inside z r c.args.entry.0 c.requires.entry.0 (state c.args.pass.now) c.requires.pinned c.requires.entry.1) in omega arith

pub returns-clause-word : goal.returns-clause-word
returns-clause-word c = λ k h. let z : Sizes = key c.args.table.now in let call = call_of c.args.pass.now in let r = c.args.pin.now.room in let v = state c.args.pass.now in let w = state c.load.new.pass in let i = c.args.entry.0 in
    key_word_found z call r c.load.result v w c.requires.pinned i k h
    (load_at z call c.args.at c.load.result v w (in_rooms (at_key r i)) (c.requires.pinned.inside, found_inside z r i k v c.requires.pinned h) c.requires.number c.load.ensures.loaded)

pub returns-clause-only : goal.returns-clause-only
returns-clause-only c = let z : Sizes = key c.args.table.now in let r = c.args.pin.now.room in only_loaded z (call_of c.args.pass.now) c.args.at c.load.result (state c.args.pass.now) (state c.load.new.pass) (in_rooms (at_key r c.args.entry.0)) (c.requires.pinned.inside, found_inside z r c.args.entry.0 c.requires.entry.0 (state c.args.pass.now) c.requires.pinned c.requires.entry.1) tt c.requires.number c.load.ensures.loaded

use Rattle.std.proofs.Common.{arith}
use Rattle.oak_model.specs.Limits.{Sizes}
use Rattle.oak_core.specs.Memory.{in_rooms}
use Rattle.oak_core.specs.Passes.{state, key, call_of}
use Rattle.oak_core.proofs.memory.Words.{index_below}
use Rattle.chunk_ops.specs.PinnedBounds.{bound_spot}
use Rattle.chunk_ops.proofs.WordLoads.{bound_inside, bound_loaded, load_at, only_loaded, bound_plain}
use Rattle.chunk_ops.proofs.RoomTries.{pins_load}
use Rattle.chunk_ops.proofs.bounds.bound_word.Goals as goal

pub load-requires-clause-inside : goal.load-requires-clause-inside
load-requires-clause-inside c = let z : Sizes = key c.args.table.now in let e = c.bound_at-word.ensures in let l = index_below z (in_rooms (bound_spot c.args.bound c.args.pin.now.room c.args.j)) (bound_inside z c.args.bound c.args.pin.now.room c.args.j c.requires.pinned.inside c.requires.word) in omega arith

pub returns-clause-word : goal.returns-clause-word
returns-clause-word c = let z : Sizes = key c.args.table.now in let r = c.args.pin.now.room in let inside = bound_inside z c.args.bound r c.args.j c.requires.pinned.inside c.requires.word in
    bound_loaded z (call_of c.args.pass.now) r c.load.result (state c.args.pass.now) (state c.load.new.pass) c.requires.pinned c.args.bound c.args.j c.requires.word
    (load_at z (call_of c.args.pass.now) c.bound_at-word.result c.load.result (state c.args.pass.now) (state c.load.new.pass) (in_rooms (bound_spot c.args.bound r c.args.j)) inside c.bound_at-word.ensures c.load.ensures.loaded)

pub returns-clause-only : goal.returns-clause-only
returns-clause-only c = let z : Sizes = key c.args.table.now in let r = c.args.pin.now.room in
    only_loaded z (call_of c.args.pass.now) c.bound_at-word.result c.load.result (state c.args.pass.now) (state c.load.new.pass) (in_rooms (bound_spot c.args.bound r c.args.j)) (bound_inside z c.args.bound r c.args.j c.requires.pinned.inside c.requires.word) (bound_plain c.args.bound r c.args.j) c.bound_at-word.ensures c.load.ensures.loaded

pub returns-clause-tries : goal.returns-clause-tries
returns-clause-tries c = let l = c.load.ensures.loaded in pins_load (key c.args.table.now) (call_of c.args.pass.now) l.spot c.load.result c.args.pass.now c.load.new.pass l.told c.load.ensures.tries

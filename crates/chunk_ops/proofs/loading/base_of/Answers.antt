use Rattle.std.proofs.Common.{arith}
use Rattle.oak_model.specs.Limits.{Sizes}
use Rattle.chunk_core.specs.Rooms.{at_base}
use Rattle.oak_core.specs.Memory.{in_rooms}
use Rattle.oak_core.specs.Passes.{state, key, call_of}
use Rattle.oak_core.proofs.memory.Words.{index_below}
use Rattle.chunk_ops.proofs.WordLoads.{base_loaded, load_at, only_loaded}
use Rattle.chunk_ops.proofs.loading.base_of.Goals as goal

pub load-requires-clause-inside : goal.load-requires-clause-inside
load-requires-clause-inside c = let e = c.base_at-word.ensures in let l = index_below (key c.args.table.now) (in_rooms (at_base c.args.pin.now.room)) (c.requires.pinned.inside, omega arith) in omega arith

pub returns-clause-base : goal.returns-clause-base
returns-clause-base c = let z : Sizes = key c.args.table.now in let call = call_of c.args.pass.now in let r = c.args.pin.now.room in let v = state c.args.pass.now in let w = state c.load.new.pass in
    base_loaded z call r c.load.result v w c.requires.pinned (load_at z call c.base_at-word.result c.load.result v w (in_rooms (at_base r)) (c.requires.pinned.inside, omega arith) c.base_at-word.ensures c.load.ensures.loaded)

pub returns-clause-only : goal.returns-clause-only
returns-clause-only c = only_loaded (key c.args.table.now) (call_of c.args.pass.now) c.base_at-word.result c.load.result (state c.args.pass.now) (state c.load.new.pass) (in_rooms (at_base c.args.pin.now.room)) (c.requires.pinned.inside, omega arith) tt c.base_at-word.ensures c.load.ensures.loaded

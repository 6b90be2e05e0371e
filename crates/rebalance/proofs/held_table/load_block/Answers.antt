use Rattle.std.proofs.Common.{◌≡◌, ℕ, ◌-◌, ◌*◌, List, length, take, sym, subst, arith}
use Rattle.oak_model.specs.Limits.{Sizes}
use Rattle.oak_model.specs.WordBytes.{word_bytes}
use Rattle.arena_core.specs.Arena.{at_bytes}
use Rattle.arena_core.specs.Place.{class_in, block_in}
use Rattle.arena_core.specs.Words.{bytes_in}
use Rattle.oak_core.specs.Memory.{in_arena}
use Rattle.oak_core.specs.Passes.{state, key, call_of}
use Rattle.oak_core.proofs.memory.Words.{index_below}
use Rattle.chunk_ops.proofs.WordLoads.{load_at}
use Rattle.rebalance.specs.HeldTables.{valued}
use Rattle.rebalance.proofs.AwayFromPins.{block_away}
use Rattle.rebalance.proofs.CarriedEntries.{block_found, block_inside}
use Rattle.rebalance.proofs.RoomWorks.{plain_works}
use Rattle.rebalance.proofs.held_table.load_block.Goals as goal

pub key_block_at-at-requires : goal.key_block_at-at-requires
key_block_at-at-requires c = block_inside (key c.args.table.now) c.args.place c.args.i (valued (state c.args.pass.now).rooms.moving) c.requires.named c.requires.within

pub load-requires-clause-inside : goal.load-requires-clause-inside
load-requires-clause-inside c = let z : Sizes = key c.args.table.now in let place = c.args.place in let n = block_inside z place c.args.i (valued (state c.args.pass.now).rooms.moving) c.requires.named c.requires.within in
    let is = c.key_block_at-at.ensures in
    let l = index_below z (in_arena (at_bytes (class_in place) (block_in place) c.args.i)) n in omega arith

pub returns-clause-works : goal.returns-clause-works
returns-clause-works c = let z : Sizes = key c.args.table.now in let place = c.args.place in let v = state c.args.pass.now in let w = state c.load.new.pass in let n = block_inside z place c.args.i (valued v.rooms.moving) c.requires.named c.requires.within in
    let is = c.key_block_at-at.ensures in
    (plain_works z (call_of c.args.pass.now) c.key_block_at-at.result c.load.result v w (in_arena (at_bytes (class_in place) (block_in place) c.args.i)) n tt is (block_away z c.key_block_at-at.result (class_in place) (block_in place) c.args.i n is) c.load.ensures.loaded).0

pub returns-clause-rooms : goal.returns-clause-rooms
returns-clause-rooms c = let z : Sizes = key c.args.table.now in let place = c.args.place in let v = state c.args.pass.now in let w = state c.load.new.pass in let n = block_inside z place c.args.i (valued v.rooms.moving) c.requires.named c.requires.within in
    let is = c.key_block_at-at.ensures in
    (plain_works z (call_of c.args.pass.now) c.key_block_at-at.result c.load.result v w (in_arena (at_bytes (class_in place) (block_in place) c.args.i)) n tt is (block_away z c.key_block_at-at.result (class_in place) (block_in place) c.args.i n is) c.load.ensures.loaded).1

pub returns-clause-bytes : goal.returns-clause-bytes
returns-clause-bytes c = λ k e. let z : Sizes = key c.args.table.now in let place = c.args.place in let v = state c.args.pass.now in let w = state c.load.new.pass in let n = block_inside z place c.args.i (valued v.rooms.moving) c.requires.named c.requires.within in
    let is = c.key_block_at-at.ensures in
    subst (λ (y : List ℕ). take (length y - 8 * c.args.i) (word_bytes c.load.result) ≡ bytes_in c.args.i y) (sym e)
    (block_found z (call_of c.args.pass.now) c.load.result place c.args.i v w c.requires.named c.requires.within
    (load_at z (call_of c.args.pass.now) c.key_block_at-at.result c.load.result v w (in_arena (at_bytes (class_in place) (block_in place) c.args.i)) n is c.load.ensures.loaded))

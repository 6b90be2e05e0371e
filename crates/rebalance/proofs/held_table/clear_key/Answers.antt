use Rattle.oak_model.specs.Limits.{Sizes}
use Rattle.chunk_core.specs.Rooms.{at_key}
use Rattle.oak_core.specs.Passes.{state, key, call_of}
use Rattle.rebalance.specs.declared.held_rooms.RoomWord.TheVariants.{Key}
use Rattle.rebalance.proofs.KeysCleared.{cleared_ranges, cleared_works}
use Rattle.rebalance.proofs.RoomStores.{store_memory}
use Rattle.rebalance.proofs.held_table.clear_key.Goals as goal

pub returns-clause-works : goal.returns-clause-works
returns-clause-works c = let z : Sizes = key c.args.table.now in let r = c.args.room in let e = c.args.entry in let q = c.requires in
    cleared_works z (call_of c.args.pass.now) r e (state c.args.pass.now) (state c.store_room.new.pass) q.valued (c.store_room.ensures.told (at_key r e) record { inside = (q.held.room.inside, q.within); word_is = c.requires.number })

pub returns-clause-ranges : goal.returns-clause-ranges
returns-clause-ranges c = let z : Sizes = key c.args.table.now in let r = c.args.room in let e = c.args.entry in let q = c.requires in
    cleared_ranges z (call_of c.args.pass.now) r e (state c.args.pass.now) (state c.store_room.new.pass) q.valued (c.store_room.ensures.told (at_key r e) record { inside = (q.held.room.inside, q.within); word_is = c.requires.number })

pub returns-clause-cleared : goal.returns-clause-cleared
returns-clause-cleared c = let z : Sizes = key c.args.table.now in let r = c.args.room in let e = c.args.entry in let q = c.requires in
    store_memory z (call_of c.args.pass.now) r 0 (Key e) (state c.args.pass.now) (state c.store_room.new.pass) q.held q.within (c.store_room.ensures.told (at_key r e) record { inside = (q.held.room.inside, q.within); word_is = c.requires.number })

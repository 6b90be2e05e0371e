use Rattle.oak_model.specs.Limits.{Sizes}
use Rattle.oak_core.specs.Passes.{state, key, call_of}
use Rattle.rebalance.specs.HeldRooms.{spot}
use Rattle.rebalance.proofs.HeldMemory.{word_inside}
use Rattle.rebalance.proofs.RoomStores.{may_store, store_memory, store_ranges, store_works}
use Rattle.rebalance.proofs.held_table.store_at.Goals as goal

pub store_room-requires-clause-names : goal.store_room-requires-clause-names
store_room-requires-clause-names c = let z : Sizes = key c.args.table.now in let r = c.args.room in let word = c.args.word in
    (spot r word, record { inside = word_inside z r c.requires.held.room.inside word c.requires.within; word_is = c.requires.number }, may_store z (call_of c.args.pass.now) r c.args.number word (state c.args.pass.now) c.requires.held c.requires.within c.ranges.number.fits)

pub returns-clause-works : goal.returns-clause-works
returns-clause-works c = let z : Sizes = key c.args.table.now in let r = c.args.room in let word = c.args.word in
    store_works z (call_of c.args.pass.now) r c.args.number word (state c.args.pass.now) (state c.store_room.new.pass) c.requires.held c.requires.within
    (c.store_room.ensures.told (spot r word) record { inside = word_inside z r c.requires.held.room.inside word c.requires.within; word_is = c.requires.number }) c.requires.plain

pub returns-clause-ranges : goal.returns-clause-ranges
returns-clause-ranges c = let z : Sizes = key c.args.table.now in let r = c.args.room in let word = c.args.word in
    store_ranges z (call_of c.args.pass.now) r c.args.number word (state c.args.pass.now) (state c.store_room.new.pass) c.requires.held c.requires.within
    (c.store_room.ensures.told (spot r word) record { inside = word_inside z r c.requires.held.room.inside word c.requires.within; word_is = c.requires.number }) c.requires.plain

pub returns-clause-stored : goal.returns-clause-stored
returns-clause-stored c = let z : Sizes = key c.args.table.now in let r = c.args.room in let word = c.args.word in
    store_memory z (call_of c.args.pass.now) r c.args.number word (state c.args.pass.now) (state c.store_room.new.pass) c.requires.held c.requires.within
    (c.store_room.ensures.told (spot r word) record { inside = word_inside z r c.requires.held.room.inside word c.requires.within; word_is = c.requires.number })

use Rattle.std.proofs.Common.{ℕ, ap, ◌∙◌, subst}
use Rattle.oak_model.specs.Limits.{Sizes}
use Rattle.chunk_core.specs.declared.holds.RoomHolds.{RoomHolds}
use Rattle.chunk_core.specs.Rooms.{at_key}
use Rattle.oak_core.specs.Passes.{state, key, call_of}
use Rattle.arena_ops.specs.Taking.{Gives}
use Rattle.rebalance.specs.declared.held_rooms.RoomWord.TheVariants.{Key}
use Rattle.rebalance.specs.Mirrors.{held_memory}
use Rattle.rebalance.proofs.KeysDropped.{drop_holds, drop_ranges, drop_works, given_rooms}
use Rattle.rebalance.proofs.RoomStores.{store_memory}
use Rattle.rebalance.proofs.held_table.drop_key.Goals as goal

pub give-requires-clause-held : goal.give-requires-clause-held
give-requires-clause-held c = let z : Sizes = key c.args.table.now in let r = c.args.room in let e = c.args.entry in let q = c.requires in
    drop_holds z (call_of c.args.pass.now) r e c.args.place (state c.args.pass.now) (state c.store_room.new.pass) q.held q.within q.is q.loose
    (c.store_room.ensures.told (at_key r e) record { inside = (q.held.room.inside, q.within); word_is = c.key_at-at.ensures }) c.class_in.result c.block_in.result c.class_in.ensures c.block_in.ensures

pub returns-clause-works : goal.returns-clause-works
returns-clause-works c = let z : Sizes = key c.args.table.now in let call = call_of c.args.pass.now in let r = c.args.room in let e = c.args.entry in let q = c.requires in let w = state c.store_room.new.pass in let u = state c.give.new.pass in
    let g = subst (λ (k : ℕ). Gives z k c.class_in.result c.block_in.result w u) c.store_room.ensures.own.call c.give.ensures.given in
    drop_works z call r e c.args.place (state c.args.pass.now) w q.held q.within q.is q.loose
    (c.store_room.ensures.told (at_key r e) record { inside = (q.held.room.inside, q.within); word_is = c.key_at-at.ensures }) c.class_in.result c.block_in.result c.class_in.ensures c.block_in.ensures u g

pub returns-clause-dropped : goal.returns-clause-dropped
returns-clause-dropped c = let z : Sizes = key c.args.table.now in let call = call_of c.args.pass.now in let r = c.args.room in let e = c.args.entry in let q = c.requires in let w = state c.store_room.new.pass in
    ap (λ (a : RoomHolds). held_memory a.held) (given_rooms z (call_of c.store_room.new.pass) w c.class_in.result c.block_in.result (state c.give.new.pass) c.give.ensures.given)
    ∙ store_memory z call r 0 (Key e) (state c.args.pass.now) w q.held q.within (c.store_room.ensures.told (at_key r e) record { inside = (q.held.room.inside, q.within); word_is = c.key_at-at.ensures })

pub returns-clause-ranges : goal.returns-clause-ranges
returns-clause-ranges c = let z : Sizes = key c.args.table.now in let call = call_of c.args.pass.now in let r = c.args.room in let e = c.args.entry in let q = c.requires in let w = state c.store_room.new.pass in
    ap (λ (a : RoomHolds). a.moving) (given_rooms z (call_of c.store_room.new.pass) w c.class_in.result c.block_in.result (state c.give.new.pass) c.give.ensures.given)
    ∙ drop_ranges z call r e c.args.place (state c.args.pass.now) w q.held q.within q.is q.loose (c.store_room.ensures.told (at_key r e) record { inside = (q.held.room.inside, q.within); word_is = c.key_at-at.ensures })

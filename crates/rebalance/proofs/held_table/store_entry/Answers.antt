use Rattle.std.proofs.Common.{ap, ◌∙◌}
use Rattle.oak_model.specs.Limits.{Sizes}
use Rattle.chunk_core.specs.RoomStep.{put_room}
use Rattle.chunk_core.specs.Rooms.{RoomMemory, at_value, at_next}
use Rattle.oak_core.specs.declared.states.PassState.{PassState}
use Rattle.oak_core.specs.Passes.{state, key, call_of}
use Rattle.oak_core.proofs.seats.SamePass.{stays_both}
use Rattle.rebalance.proofs.HeldParts.{alone_still, works_then}
use Rattle.rebalance.proofs.held_table.store_entry.Goals as goal

pub store_at-requires-2-clause-held : goal.store_at-requires-2-clause-held
store_at-requires-2-clause-held c = alone_still (key c.args.table.now) (call_of c.args.pass.now) c.args.room (state c.args.pass.now) (state c.store_at.new.pass) c.store_at.ensures.works c.requires.held

pub store_at-requires-3-clause-held : goal.store_at-requires-3-clause-held
store_at-requires-3-clause-held c = let z : Sizes = key c.args.table.now in let p = c.store_at in let q = c.store_at-2 in let r = c.args.room in
    alone_still z (call_of p.new.pass) r (state p.new.pass) (state q.new.pass) q.ensures.works (alone_still z (call_of c.args.pass.now) r (state c.args.pass.now) (state p.new.pass) p.ensures.works c.requires.held)

pub returns-clause-own : goal.returns-clause-own
returns-clause-own c = stays_both c.store_at.ensures.own (stays_both c.store_at-2.ensures.own c.store_at-3.ensures.own)

pub returns-clause-works : goal.returns-clause-works
returns-clause-works c = let z : Sizes = key c.args.table.now in let call = call_of c.args.pass.now in let p = c.store_at in let q = c.store_at-2 in let s = c.store_at-3 in
    let t : PassState = state c.args.pass.now in let u : PassState = state p.new.pass in let v : PassState = state q.new.pass in let w : PassState = state s.new.pass in
    works_then z call (call_of q.new.pass) t v w (q.ensures.own.call ∙ p.ensures.own.call) (works_then z call (call_of p.new.pass) t u v p.ensures.own.call p.ensures.works q.ensures.works) s.ensures.works

pub returns-clause-ranges : goal.returns-clause-ranges
returns-clause-ranges c = c.store_at-3.ensures.ranges ∙ (c.store_at-2.ensures.ranges ∙ c.store_at.ensures.ranges)

pub returns-clause-stored : goal.returns-clause-stored
returns-clause-stored c = let r = c.args.room in let i = c.args.entry in let e = c.args.words in
    c.store_at-3.ensures.stored ∙ ap (λ (m : RoomMemory). put_room m (at_next r i) e.next) (c.store_at-2.ensures.stored ∙ ap (λ (m : RoomMemory). put_room m (at_value r i) e.entry.value) c.store_at.ensures.stored)

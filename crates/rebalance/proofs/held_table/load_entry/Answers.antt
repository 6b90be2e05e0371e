use Rattle.std.proofs.Common.{ap, refl, ◌∙◌}
use Rattle.oak_model.specs.Limits.{Sizes}
use Rattle.chunk_core.specs.declared.holds.RoomHolds.{RoomHolds}
use Rattle.oak_core.specs.declared.states.PassState.{PassState}
use Rattle.oak_core.specs.Passes.{state, key, call_of}
use Rattle.oak_core.proofs.seats.SamePass.{stays_both}
use Rattle.rebalance.specs.Mirrors.{held_memory}
use Rattle.rebalance.proofs.HeldParts.{alone_still, value_earlier, value_later, works_then}
use Rattle.rebalance.proofs.held_table.load_entry.Goals as goal

pub load_at-value-requires-clause-held : goal.load_at-value-requires-clause-held
load_at-value-requires-clause-held c = alone_still (key c.args.table.now) (call_of c.args.pass.now) c.args.room (state c.args.pass.now) (state c.load_at-place.new.pass) c.load_at-place.ensures.works c.requires.held

pub load_at-next-requires-clause-held : goal.load_at-next-requires-clause-held
load_at-next-requires-clause-held c = let z : Sizes = key c.args.table.now in let p = c.load_at-place in let q = c.load_at-value in let r = c.args.room in
    alone_still z (call_of p.new.pass) r (state p.new.pass) (state q.new.pass) q.ensures.works (alone_still z (call_of c.args.pass.now) r (state c.args.pass.now) (state p.new.pass) p.ensures.works c.requires.held)

pub returns-clause-own : goal.returns-clause-own
returns-clause-own c = stays_both c.load_at-place.ensures.own (stays_both c.load_at-value.ensures.own c.load_at-next.ensures.own)

pub returns-clause-works : goal.returns-clause-works
returns-clause-works c = let z : Sizes = key c.args.table.now in let call = call_of c.args.pass.now in let p = c.load_at-place in let q = c.load_at-value in let s = c.load_at-next in
    let t : PassState = state c.args.pass.now in let u : PassState = state p.new.pass in let v : PassState = state q.new.pass in let w : PassState = state s.new.pass in
    works_then z call (call_of q.new.pass) t v w (q.ensures.own.call ∙ p.ensures.own.call) (works_then z call (call_of p.new.pass) t u v p.ensures.own.call p.ensures.works q.ensures.works) s.ensures.works

pub returns-clause-rooms : goal.returns-clause-rooms
returns-clause-rooms c = c.load_at-next.ensures.rooms ∙ (c.load_at-value.ensures.rooms ∙ c.load_at-place.ensures.rooms)

pub returns-clause-words : goal.returns-clause-words
returns-clause-words c = let r = c.args.room in let i = c.args.entry in let p = c.load_at-place.ensures in let q = c.load_at-value.ensures in let s = c.load_at-next.ensures in
    let place = p.word in
    let value = q.word ∙ ap (λ (a : RoomHolds). (held_memory a.held).value r i) p.rooms in
    let next = s.word ∙ ap (λ (a : RoomHolds). (held_memory a.held).next r i) (q.rooms ∙ p.rooms) in
    λ t. record { entry = record { place = place t; value = value t }; next = next t }

pub returns-clause-sees : goal.returns-clause-sees
returns-clause-sees c named = let z : Sizes = key c.args.table.now in let p = c.load_at-place in let q = c.load_at-value in let s = c.load_at-next in let r = c.args.room in let i = c.args.entry in
    let t : PassState = state c.args.pass.now in let u : PassState = state p.new.pass in let v : PassState = state q.new.pass in let w : PassState = state s.new.pass in
    value_earlier z (call_of c.args.pass.now) r i t u w p.ensures.works (value_later z (call_of q.new.pass) r i u v w (q.ensures.sees i refl named) s.ensures.works)

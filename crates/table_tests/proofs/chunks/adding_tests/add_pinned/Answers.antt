use Rattle.std.proofs.Common.{subst}
use Rattle.oak_core.specs.declared.blocks.Block.{Block}
use Rattle.oak_core.specs.Passes.{state, key as sizes, call_of}
use Rattle.arena_ops.specs.Taking.{Gives}
use Rattle.table_tests.proofs.AddedKeys.{added_idle, added_pinned, claim_under, idle_under, may_under, refused_idle, rest_under}
use Rattle.table_tests.proofs.chunks.adding_tests.add_pinned.Goals as goal

pub add-added-requires-clause-claim : goal.add-added-requires-clause-claim
add-added-requires-clause-claim c = let b = c.args.block in claim_under (sizes c.args.table.now) (call_of c.args.pass.now) c.args.pin.room b.class b.number (state c.args.pass.now) (state c.place_of-place.new.pass) c.place_of-place.ensures.under c.requires.rest

pub add-added-requires-clause-key : goal.add-added-requires-clause-key
add-added-requires-clause-key c = let b = c.args.block in may_under (sizes c.args.table.now) (call_of c.args.pass.now) c.args.pin.room b.class b.number c.args.key.now (state c.args.pass.now) (state c.place_of-place.new.pass) c.place_of-place.ensures.under c.requires.may

pub unpin-requires-clause-pinned : goal.unpin-requires-clause-pinned
unpin-requires-clause-pinned c = let b = c.args.block in let e = c.add-added.ensures in
    added_pinned (sizes c.args.table.now) (call_of c.place_of-place.new.pass) c.args.pin.room b.class b.number c.args.key.now (state c.place_of-place.new.pass) (state c.add-added.new.pass) c.add-added.result e.added e.under

pub returns-in-Ok-clause-idle : goal.returns-in-Ok-clause-idle
returns-in-Ok-clause-idle c = let z = sizes c.args.table.now in let b = c.args.block in let k = c.args.key.now in let r = c.args.pin.room in let call = call_of c.args.pass.now in let a = c.place_of-place in
    let t = state c.args.pass.now in let u = state a.new.pass in let v = state c.add-added.new.pass in let w = state c.unpin.new.pass in
    idle_under z call r t u w a.ensures.under (added_idle z (call_of a.new.pass) r c.in-Ok.entry.0 b.class b.number k u v w (call_of c.add-added.new.pass) (rest_under z call r b.class b.number t u a.ensures.under c.requires.rest) c.in-Ok.ensures.added c.unpin.ensures.unpinned)

pub returns-in-Err-clause-idle : goal.returns-in-Err-clause-idle
returns-in-Err-clause-idle c = let z = sizes c.args.table.now in let b = c.args.block in let k = c.args.key.now in let r = c.args.pin.room in let call = call_of c.args.pass.now in let a = c.place_of-place in
    let t = state c.args.pass.now in let u = state a.new.pass in let v = state c.add-added.new.pass in let w = state c.unpin.new.pass in let x = state c.give.new.pass in let last = call_of c.unpin.new.pass in
    idle_under z call r t u x a.ensures.under (refused_idle z (call_of a.new.pass) r b.class b.number k u v w x (call_of c.add-added.new.pass) last (rest_under z call r b.class b.number t u a.ensures.under c.requires.rest)
    c.in-Err.ensures.under c.unpin.ensures.unpinned (subst (λ (o : Block). Gives z last o.class o.number w x) c.in-Err.ensures.block c.give.ensures.given))

use Rattle.point_ops.proofs.LoneNewEntries.{adds_alone}
use Rattle.std.proofs.Common.{◌∙◌, length, sym, subst}
use Rattle.std.proofs.lemmas.Result.{err_from_is_err_and}
use Rattle.chunk_core.specs.PinnedRooms.{span_of}
use Rattle.oak_core.specs.AloneWords.{Runs}
use Rattle.chunk_ops.specs.PinRecords.{room_pin}
use Rattle.point_ops.specs.LoneInserts.{AddingHaltsIn}
use Rattle.point_ops.proofs.LoneEntered.{enters_alone, unblocked_alone, unentered_alone}
use Rattle.oak_core.specs.Passes.{state, key as sizes, call_of}
use Rattle.oak_core.specs.declared.blocks.Block.{Block}
use Rattle.arena_ops.specs.Taking.{Gives}
use Rattle.point_ops.specs.Inserts.{AddingHalts}
use Rattle.point_ops.specs.declared.halts.Halt.{Halt}
use Rattle.point_ops.proofs.EntriesMade.{may_add, added_under, unadded_under, unadded_halts}
use Rattle.chunk_ops.proofs.PinsKept.{before_kept, belongs_kept}
use Rattle.point_ops.proofs.inserting.add_entry.Goals as goal

pub add-requires-clause-key : goal.add-requires-clause-key
add-requires-clause-key c = let b = c.in_ok-block.block in let u = state c.take_block.new.pass in may_add (sizes c.args.table.now) (call_of c.args.pass.now) c.args.pin.now.room b.class b.number c.args.key.now (state c.args.pass.now) u u c.requires.none c.in_ok-block.ensures.made.1
    (call_of c.take_block.new.pass) c.take_block.ensures.own.call c.requires.key c.requires.covers

pub add-requires-clause-behind : goal.add-requires-clause-behind
add-requires-clause-behind c = (belongs_kept c.args.pin.now.room c.args.behind c.args.key.now (state c.args.pass.now) (state c.take_block.new.pass) c.in_ok-block.ensures.made.1.rooms c.requires.behind).above

pub add-requires-clause-before : goal.add-requires-clause-before
add-requires-clause-before c = before_kept c.args.pin.now.room c.args.link c.args.key.now (state c.args.pass.now) (state c.take_block.new.pass) c.in_ok-block.ensures.made.1.rooms c.requires.before

pub returns-in-Ok-clause-under : goal.returns-in-Ok-clause-under
returns-in-Ok-clause-under c = let z = sizes c.args.table.now in let call = call_of c.args.pass.now in let r = c.args.pin.now.room in let b = c.in_ok-block.block in let key = c.args.key.now in
    let v = state c.args.pass.now in let u = state c.take_block.new.pass in let m = c.in_ok-block.ensures.made.1 in let now = call_of c.take_block.new.pass in
    added_under z call r b.class b.number key v u (state c.add.new.pass) c.requires.none m now c.take_block.ensures.own.call c.in-Ok.entry.0
    c.in-Ok.ensures.added

pub returns-in-Err-clause-under : goal.returns-in-Err-clause-under
returns-in-Err-clause-under c = let z = sizes c.args.table.now in let call = call_of c.args.pass.now in let r = c.args.pin.now.room in let b = c.in_ok-block.block in let key = c.args.key.now in
    let v = state c.args.pass.now in let u = state c.take_block.new.pass in let w = state c.add.new.pass in let x = state c.give.new.pass in let m = c.in_ok-block.ensures.made.1 in let now = call_of c.take_block.new.pass in let later = call_of c.add.new.pass in
    unadded_under z call r b.class b.number key v u w c.requires.none m now c.take_block.ensures.own.call
    c.in-Err.ensures.under later x (c.add.ensures.own.call ∙ c.take_block.ensures.own.call)
    (subst (λ (o : Block). Gives z later o.class o.number w x) c.in-Err.ensures.block c.give.ensures.given)

pub returns-in-Err-clause-halted : goal.returns-in-Err-clause-halted
returns-in-Err-clause-halted c = let z = sizes c.args.table.now in let call = call_of c.args.pass.now in let r = c.args.pin.now.room in let b = c.in_ok-block.block in let key = c.args.key.now in
    let v = state c.args.pass.now in let u = state c.take_block.new.pass in let w = state c.add.new.pass in let x = state c.give.new.pass in let m = c.in_ok-block.ensures.made.1 in let now = call_of c.take_block.new.pass in let later = call_of c.add.new.pass in
    subst (λ (y : Halt). AddingHalts y z call key v x) (sym c.halt_of.ensures)
    (unadded_halts z call r b.class b.number key v u w c.requires.none m now c.take_block.ensures.own.call
    c.in-Err.ensures.under later x (c.add.ensures.own.call ∙ c.take_block.ensures.own.call)
    (subst (λ (o : Block). Gives z later o.class o.number w x) c.in-Err.ensures.block c.give.ensures.given) c.requires.covers c.in-Err.field-0.why
    c.in-Err.ensures.not_added)

pub returns-in-Ok-clause-alone : goal.returns-in-Ok-clause-alone
returns-in-Ok-clause-alone c = λ floor is. let z = sizes c.args.table.now in let call = call_of c.args.pass.now in let r = c.args.pin.now.room in let b = c.in_ok-block.block in let key = c.args.key.now in
    let v = state c.args.pass.now in let u = state c.take_block.new.pass in
    enters_alone z r (span_of (room_pin v)) c.requires.pinned.inside b.class b.number key v u (state c.add.new.pass) (c.in_ok-block.ensures.alone_under r c.requires.pinned) c.in-Ok.entry (length key)
    c.in-Ok.ensures.alone floor is

pub returns-in-Err-clause-alone_halted : goal.returns-in-Err-clause-alone_halted
returns-in-Err-clause-alone_halted c = let z = sizes c.args.table.now in let call = call_of c.args.pass.now in let r = c.args.pin.now.room in let b = c.in_ok-block.block in let key = c.args.key.now in
    let v = state c.args.pass.now in let u = state c.take_block.new.pass in let w = state c.add.new.pass in let x = state c.give.new.pass in
    subst (λ (y : Halt). Runs (AddingHaltsIn y z r key) v x) (sym c.halt_of.ensures)
    (unentered_alone z r (span_of (room_pin v)) c.requires.pinned.inside b.class b.number key v u w (c.in_ok-block.ensures.alone_under r c.requires.pinned) c.in-Err.field-0.why x c.in_ok-block.ensures.made.1.has.fits
    c.in-Err.ensures.alone_not_added
    (subst (λ (o : Block). Gives z (call_of c.add.new.pass) o.class o.number w x) c.in-Err.ensures.block c.give.ensures.given).still)

pub returns-in_err-block-clause-alone_halted : goal.returns-in_err-block-clause-alone_halted
returns-in_err-block-clause-alone_halted c = let p = err_from_is_err_and c.from_residual.result c.from_residual.ensures.1 in
    rw (p.1, p.2) (unblocked_alone (sizes c.args.table.now) c.args.pin.now.room c.args.key.now c.class_for.result c.in_err-block.field-0.0 (state c.args.pass.now) (state c.take_block.new.pass) c.class_for.ensures c.in_err-block.ensures.refused.0 c.in_err-block.ensures.alone_refused)

pub returns-in-Ok-clause-alone_gets : goal.returns-in-Ok-clause-alone_gets
returns-in-Ok-clause-alone_gets c = λ floor. let z = sizes c.args.table.now in let call = call_of c.args.pass.now in let r = c.args.pin.now.room in let b = c.in_ok-block.block in let key = c.args.key.now in
    let v = state c.args.pass.now in let u = state c.take_block.new.pass in
    adds_alone z r (span_of (room_pin v)) c.requires.pinned.inside b.class b.number key c.in_ok-block.ensures.made.1.has.fits v u (state c.add.new.pass) (c.in_ok-block.ensures.alone_under r c.requires.pinned) c.in-Ok.entry (length key)
    c.in-Ok.ensures.alone floor

use Rattle.point_ops.proofs.LoneInserting.{entry_there}
use Rattle.point_ops.proofs.LoneKept.{lock_whole}
use Rattle.point_ops.proofs.LoneRemoved.{removes_alone}
use Rattle.std.proofs.Common.{ℕ, ◌+◌, Some, None, false, sym, ap, ◌∙◌, subst}
use Rattle.point_ops.proofs.LoneLooks.{refused_lock}
use Rattle.std.proofs.Common.{ℕ, ◌+◌, Some, None, false, sym, ap, ◌∙◌, subst}
use Rattle.std.proofs.lemmas.Result.{err_from_is_err_and}
use Rattle.oak_model.specs.declared.writes.Kind.TheVariants.{Remove}
use Rattle.oak_model.specs.Limits.{Sizes}
use Rattle.oak_core.specs.declared.states.PassState.{PassState}
use Rattle.oak_core.specs.CallWrites.{Writes}
use Rattle.oak_core.specs.HeldRows.{BuriesLife}
use Rattle.oak_core.specs.Passes.{state, key as sizes, call_of}
use Rattle.oak_core.proofs.calls.CallSteps.{stands_none}
use Rattle.point_ops.proofs.NoLockFacts.{refused_by, refused_only}
use Rattle.point_ops.proofs.RemovedLives.{entry_buried, life_buried, life_unnamed, removed_held, removed_stands}
use Rattle.point_ops.proofs.WritesIn.{wrote_next, wrote_until}
use Rattle.point_ops.proofs.changing.remove_life.Goals as goal

pub returns-in_err-locked-clause-only : goal.returns-in_err-locked-clause-only
returns-in_err-locked-clause-only c = let p = err_from_is_err_and c.from_residual.result c.from_residual.ensures.1 in
    rw p.1 (refused_only (sizes c.args.table.now) (call_of c.args.pass.now) c.args.home.header c.args.home.generation c.in_err-locked.field-0.0 (state c.args.pass.now) (state c.lock.new.pass) c.requires.inside c.in_err-locked.ensures.refused c.in_err-locked.ensures.refused_alone)

pub returns-in_err-locked-clause-refused : goal.returns-in_err-locked-clause-refused
returns-in_err-locked-clause-refused c = let p = err_from_is_err_and c.from_residual.result c.from_residual.ensures.1 in
    rw (p.1, p.2) (refused_by (sizes c.args.table.now) (call_of c.args.pass.now) c.args.home.header c.args.home.generation c.in_err-locked.field-0.0 (state c.args.pass.now) (state c.lock.new.pass) c.requires.inside c.requires.headers c.in_err-locked.ensures.refused)

pub clear_value-requires-clause-buries : goal.clear_value-requires-clause-buries
clear_value-requires-clause-buries c = let z : Sizes = sizes c.args.table.now in let call = call_of c.args.pass.now in let l = c.in_ok-locked.locked in let b = c.bury-buried.result in let v : PassState = state c.args.pass.now in let u : PassState = state c.lock.new.pass in let w : PassState = state c.bury-buried.new.pass in
    let k = c.requires.life.0 in let own = entry_buried z call (call_of c.lock.new.pass) c.args.pin.now.room c.args.entry.0 l.header l.generation b.header b.generation b.stamp c.stamp-at.result k v u w (c.in_ok-locked.ensures.keys k c.requires.life.1) c.in_ok-locked.ensures.locked.2.rooms c.bury-buried.ensures.buried c.bury-buried.ensures.buries c.stamp-at.ensures c.requires.life.2 in
    (k, b.header, b.generation, own.0, own.1)

pub take_back-block-requires-clause-buried : goal.take_back-block-requires-clause-buried
take_back-block-requires-clause-buried c = let z : Sizes = sizes c.args.table.now in let call = call_of c.args.pass.now in let l = c.in_ok-locked.locked in let b = c.bury-buried.result in let v : PassState = state c.args.pass.now in let u : PassState = state c.lock.new.pass in let w : PassState = state c.bury-buried.new.pass in let x : PassState = state c.clear_value.new.pass in
    let k = c.requires.life.0 in let own = entry_buried z call (call_of c.lock.new.pass) c.args.pin.now.room c.args.entry.0 l.header l.generation b.header b.generation b.stamp c.stamp-at.result k v u w (c.in_ok-locked.ensures.keys k c.requires.life.1) c.in_ok-locked.ensures.locked.2.rooms c.bury-buried.ensures.buried c.bury-buried.ensures.buries c.stamp-at.ensures c.requires.life.2 in
    life_buried z k b.header b.generation b.stamp false x c.bury-buried.ensures.has.inside (subst (λ (s : ℕ). BuriesLife k b.header b.generation s false x) c.stamp-at.ensures (c.clear_value.ensures.cleared k b.header b.generation own.0 own.1).unnamed)

pub take_back-block-requires-clause-unnamed : goal.take_back-block-requires-clause-unnamed
take_back-block-requires-clause-unnamed c = let z : Sizes = sizes c.args.table.now in let call = call_of c.args.pass.now in let l = c.in_ok-locked.locked in let b = c.bury-buried.result in let v : PassState = state c.args.pass.now in let u : PassState = state c.lock.new.pass in let w : PassState = state c.bury-buried.new.pass in
    let k = c.requires.life.0 in let own = entry_buried z call (call_of c.lock.new.pass) c.args.pin.now.room c.args.entry.0 l.header l.generation b.header b.generation b.stamp c.stamp-at.result k v u w (c.in_ok-locked.ensures.keys k c.requires.life.1) c.in_ok-locked.ensures.locked.2.rooms c.bury-buried.ensures.buried c.bury-buried.ensures.buries c.stamp-at.ensures c.requires.life.2 in
    life_unnamed k b.header b.generation c.stamp-at.result (state c.clear_value.new.pass) (c.clear_value.ensures.cleared k b.header b.generation own.0 own.1).unnamed

pub returns-clause-held : goal.returns-clause-held
returns-clause-held c = let z : Sizes = sizes c.args.table.now in let call = call_of c.args.pass.now in let l = c.in_ok-locked.locked in let b = c.bury-buried.result in let v : PassState = state c.args.pass.now in let u : PassState = state c.lock.new.pass in let w : PassState = state c.bury-buried.new.pass in
    let k = c.requires.life.0 in let locked = c.in_ok-locked.ensures.locked in let r = c.take_back-block.result in let own = entry_buried z call (call_of c.lock.new.pass) c.args.pin.now.room c.args.entry.0 l.header l.generation b.header b.generation b.stamp c.stamp-at.result k v u w (c.in_ok-locked.ensures.keys k c.requires.life.1) c.in_ok-locked.ensures.locked.2.rooms c.bury-buried.ensures.buried c.bury-buried.ensures.buries c.stamp-at.ensures c.requires.life.2 in
    removed_held z (call_of c.lock.new.pass) (call_of c.bury-buried.new.pass) (call_of c.clear_value.new.pass) (call_of c.take_back-block.new.pass) l.header l.generation b.stamp k b.header b.generation c.stamp-at.result r.class r.number u w (state c.clear_value.new.pass) (state c.take_back-block.new.pass) (state c.give.new.pass)
    c.bury-buried.ensures.buried (c.clear_value.ensures.cleared k b.header b.generation own.0 own.1) c.bury-buried.ensures.header.0 c.take_back-block.ensures.renewed c.give.ensures.given call c.args.home.header c.args.home.generation v locked.0 locked.2 c.requires.blocks c.requires.headers

pub returns-clause-wrote : goal.returns-clause-wrote
returns-clause-wrote c = λ k known has. let z : Sizes = sizes c.args.table.now in let call = call_of c.args.pass.now in let l = c.in_ok-locked.locked in let b = c.bury-buried.result in let v : PassState = state c.args.pass.now in let u : PassState = state c.lock.new.pass in let w : PassState = state c.bury-buried.new.pass in let t : PassState = state c.give.new.pass in
    let locks = c.in_ok-locked.ensures.keys k known in let r = c.take_back-block.result in let own = entry_buried z call (call_of c.lock.new.pass) c.args.pin.now.room c.args.entry.0 l.header l.generation b.header b.generation b.stamp c.stamp-at.result k v u w locks c.in_ok-locked.ensures.locked.2.rooms c.bury-buried.ensures.buried c.bury-buried.ensures.buries c.stamp-at.ensures has in
    let first = c.lock.ensures.own.call in let second = c.bury-buried.ensures.own.call ∙ first in let third = c.clear_value.ensures.own.call ∙ second in (
      locks.before,
      wrote_until call k Remove (Some locks.before) None c.stamp-at.result v w t
          (wrote_next call k Remove (Some locks.before) None c.stamp-at.result v u u w locks.stamp (c.stamp-at.ensures ∙ (c.bury-buried.ensures.stamp ∙ ap (λ (n : ℕ). n + 1) locks.lock.stamp_is)) c.in_ok-locked.ensures.locked.2.learns locks.sighted (stands_none call u)
          (subst (λ (p : ℕ × ℕ). Writes p.0 k Remove (Some locks.before) None p.1 u w) (λ i. (first i, sym c.stamp-at.ensures i)) (c.bury-buried.ensures.wrote k locks.before locks.stamp locks.lock)))
          (removed_stands z (call_of c.lock.new.pass) (call_of c.bury-buried.new.pass) (call_of c.clear_value.new.pass) (call_of c.take_back-block.new.pass) l.header l.generation b.stamp k b.header b.generation c.stamp-at.result r.class r.number u w (state c.clear_value.new.pass) (state c.take_back-block.new.pass) t
          c.bury-buried.ensures.buried (c.clear_value.ensures.cleared k b.header b.generation own.0 own.1) c.bury-buried.ensures.header.0 c.take_back-block.ensures.renewed c.give.ensures.given call second third (c.take_back-block.ensures.own.call ∙ third)),
    )

pub returns-in_err-locked-clause-alone : goal.returns-in_err-locked-clause-alone
returns-in_err-locked-clause-alone c = let p = err_from_is_err_and c.from_residual.result c.from_residual.ensures.1 in
    rw p.1 (refused_lock (sizes c.args.table.now) (call_of c.args.pass.now) c.args.home.header c.args.home.generation c.in_err-locked.field-0.0 (state c.args.pass.now) (state c.lock.new.pass) c.requires.inside c.requires.headers c.in_err-locked.ensures.refused)

pub returns-clause-alone_removes : goal.returns-clause-alone_removes
returns-clause-alone_removes c = let z : Sizes = sizes c.args.table.now in let h = c.args.home.header in let g = c.args.home.generation in let l = c.in_ok-locked.locked in let b = c.bury-buried.result in let r = c.take_back-block.result in
    let v : PassState = state c.args.pass.now in let u : PassState = state c.lock.new.pass in let locked = c.in_ok-locked.ensures.locked in let is = c.bury-buried.ensures.header in
    removes_alone z c.args.pin.now.room c.args.entry.0 h g c.stamp-at.result c.requires.inside (entry_there z c.args.pin.now.room c.args.entry.0 c.requires.life.0 v c.requires.pinned c.requires.life.2) r.class r.number c.take_back-block.ensures.held.inside
    l.header l.generation b.stamp locked.0 locked.1 (sym c.stamp-at.ensures) v u (state c.bury-buried.new.pass) (state c.clear_value.new.pass) (state c.take_back-block.new.pass) (state c.give.new.pass)
    (lock_whole z (call_of c.args.pass.now) h g l.header l.generation v u locked.0 locked.2 c.in_ok-locked.ensures.has.0 c.in_ok-locked.ensures.alone) c.bury-buried.ensures.alone c.clear_value.ensures.alone
    b.header b.generation (is.0 ∙ locked.0) (is.1 ∙ locked.1) c.take_back-block.ensures.alone c.give.ensures.given.still

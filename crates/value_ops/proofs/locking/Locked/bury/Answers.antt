use Rattle.oak_model.specs.Limits.{Sizes}
use Rattle.pin_word.specs.PinWord.{STATE}
use Rattle.header_core.specs.HeaderStep.{mark_dead, stamped_at}
use Rattle.oak_core.specs.HeaderCalls.{MarksDead}
use Rattle.value_ops.proofs.AloneEnds.{buries_alone}
use Rattle.oak_core.specs.Passes.{state, key, call_of}
use Rattle.oak_core.specs.Step.{on_headers}
use Rattle.value_ops.proofs.ComesFurther.{headers_come}
use Rattle.oak_core.proofs.calls.MetMore.{told_in}
use Rattle.value_ops.proofs.StampStores.{is_stamped}
use Rattle.value_ops.proofs.UnlockFacts.{may_bury, buries, has_buried}
use Rattle.value_ops.proofs.locking.Locked.bury.Goals as goal
use Rattle.value_ops.proofs.LockEndings.{may_remove, raised_by_one}
use Rattle.value_ops.proofs.LockWrites.{removal_writes, buries_of}
use Rattle.oak_core.specs.MayWrite.{MayEnd}
use Rattle.oak_core.specs.declared.states.PassState.{PassState}
use Rattle.header_core.specs.declared.holds.HeaderHolds.{HeaderHolds}
use Rattle.std.proofs.Common.{ℕ, sym, subst, ap}

pub mark_dead-requires-clause-names : goal.mark_dead-requires-clause-names
mark_dead-requires-clause-names c = let z : Sizes = key c.args.table.now in let call = call_of c.args.pass.now in let h = c.args.self.header in let g = c.args.self.generation in let x = c.store_next_stamp-stamp.result in let v = state c.args.pass.now in let u = state c.store_next_stamp-stamp.new.pass in (
  h,
  record { inside = c.requires.locked.inside; word_is = c.pin_at.ensures },
  (λ i. STATE),
  may_bury z call h g x v u (is_stamped z call h g v c.requires.locked x u c.store_next_stamp-stamp.ensures.stored),
  subst (λ (k : ℕ). MayEnd k (mark_dead h) u) (sym c.store_next_stamp-stamp.ensures.own.call) (may_remove z call h g x v u c.requires.locked c.store_next_stamp-stamp.ensures.next c.store_next_stamp-stamp.ensures.stored c.requires.new_call),
)

pub returns-clause-buried : goal.returns-clause-buried
returns-clause-buried c = let z : Sizes = key c.args.table.now in let call = call_of c.args.pass.now in let h = c.args.self.header in let g = c.args.self.generation in let x = c.store_next_stamp-stamp.result in let v = state c.args.pass.now in let u = state c.store_next_stamp-stamp.new.pass in let w = state c.mark_dead.new.pass in let n = c.mark_dead.result in
    let t : MarksDead z call h u n w = told_in z call (call_of c.store_next_stamp-stamp.new.pass) (on_headers (mark_dead h)) u n w c.store_next_stamp-stamp.ensures.own.call (c.mark_dead.ensures.told h record { inside = c.requires.locked.inside; word_is = c.pin_at.ensures }) in
    buries z call h g x v u (is_stamped z call h g v c.requires.locked x u c.store_next_stamp-stamp.ensures.stored) n w t c.store_next_stamp-stamp.ensures.next (headers_come z call v.blocks.held (stamped_at h x v.headers.held) v u c.store_next_stamp-stamp.ensures.stored)

pub returns-clause-has : goal.returns-clause-has
returns-clause-has c = let z : Sizes = key c.args.table.now in let call = call_of c.args.pass.now in let h = c.args.self.header in let g = c.args.self.generation in let x = c.store_next_stamp-stamp.result in let v = state c.args.pass.now in let u = state c.store_next_stamp-stamp.new.pass in let w = state c.mark_dead.new.pass in let n = c.mark_dead.result in
    let t : MarksDead z call h u n w = told_in z call (call_of c.store_next_stamp-stamp.new.pass) (on_headers (mark_dead h)) u n w c.store_next_stamp-stamp.ensures.own.call (c.mark_dead.ensures.told h record { inside = c.requires.locked.inside; word_is = c.pin_at.ensures }) in
    has_buried z call h g x v u (is_stamped z call h g v c.requires.locked x u c.store_next_stamp-stamp.ensures.stored) n w t

pub returns-clause-alone : goal.returns-clause-alone
returns-clause-alone c = let z : Sizes = key c.args.table.now in let call = call_of c.args.pass.now in let h = c.args.self.header in let g = c.args.self.generation in let x = c.store_next_stamp-stamp.result in let v = state c.args.pass.now in
    buries_alone z call h g x v (state c.mark_dead.new.pass) (returns-clause-buried c) c.requires.locked

pub returns-clause-stamp : goal.returns-clause-stamp
returns-clause-stamp c = let z : Sizes = key c.args.table.now in let v = state c.args.pass.now in let u = state c.store_next_stamp-stamp.new.pass in
    raised_by_one z (call_of c.args.pass.now) c.args.self.header c.args.self.generation c.store_next_stamp-stamp.result v u c.requires.locked c.store_next_stamp-stamp.ensures.next c.store_next_stamp-stamp.ensures.stored

-- the step, in the call
marked : (c : goal.After-mark_dead) → MarksDead (key c.args.table.now) (call_of c.args.pass.now) c.args.self.header (state c.store_next_stamp-stamp.new.pass) c.mark_dead.result (state c.mark_dead.new.pass)
marked c = let z : Sizes = key c.args.table.now in let h = c.args.self.header in told_in z (call_of c.args.pass.now) (call_of c.store_next_stamp-stamp.new.pass) (on_headers (mark_dead h)) (state c.store_next_stamp-stamp.new.pass) c.mark_dead.result (state c.mark_dead.new.pass) c.store_next_stamp-stamp.ensures.own.call
    (c.mark_dead.ensures.told h record { inside = c.requires.locked.inside; word_is = c.pin_at.ensures })

pub returns-clause-wrote : goal.returns-clause-wrote
returns-clause-wrote c of before stamp l = let z : Sizes = key c.args.table.now in
    removal_writes z (call_of c.args.pass.now) c.args.self.header c.args.self.generation c.store_next_stamp-stamp.result (state c.args.pass.now) (state c.store_next_stamp-stamp.new.pass) of before stamp l c.store_next_stamp-stamp.ensures.next c.store_next_stamp-stamp.ensures.stored
    c.mark_dead.result (state c.mark_dead.new.pass) (marked c)

pub returns-clause-buries : goal.returns-clause-buries
returns-clause-buries c of before stamp l = let z : Sizes = key c.args.table.now in let call = call_of c.args.pass.now in let h = c.args.self.header in let v = state c.args.pass.now in let w = state c.mark_dead.new.pass in
    buries_of z call h c.args.self.generation c.store_next_stamp-stamp.result v (state c.store_next_stamp-stamp.new.pass) of before stamp l c.store_next_stamp-stamp.ensures.next c.store_next_stamp-stamp.ensures.stored
    c.mark_dead.result w (marked c) (returns-clause-has c) (ap (λ (a : HeaderHolds). a.held) (ap (λ (i : PassState). i.headers) (marked c).after))

use Rattle.oak_model.specs.Limits.{Sizes}
use Rattle.pin_word.specs.PinWord.{STATE}
use Rattle.header_core.specs.HeaderStep.{unlock_header}
use Rattle.value_ops.proofs.AloneEnds.{writes_alone}
use Rattle.oak_core.specs.Passes.{state, key, call_of}
use Rattle.oak_core.specs.Step.{on_headers}
use Rattle.oak_core.proofs.calls.MetMore.{told_in}
use Rattle.value_ops.proofs.StampStores.{is_stamped}
use Rattle.value_ops.proofs.UnlockFacts.{may_unlock, ends_lock}
use Rattle.value_ops.proofs.locking.Locked.unlock.Goals as goal
use Rattle.value_ops.proofs.LockEndings.{may_write, raised_by_one}
use Rattle.value_ops.proofs.LockWrites.{unlock_writes}
use Rattle.oak_core.specs.MayWrite.{MayEnd}
use Rattle.std.proofs.Common.{ℕ, sym, subst}

pub unlock_header-requires-clause-names : goal.unlock_header-requires-clause-names
unlock_header-requires-clause-names c = let z : Sizes = key c.args.table.now in let call = call_of c.args.pass.now in let h = c.args.self.header in let g = c.args.self.generation in let x = c.store_next_stamp-written.result in let v = state c.args.pass.now in let u = state c.store_next_stamp-written.new.pass in (
  h,
  record { inside = c.requires.locked.inside; word_is = c.pin_at.ensures },
  (λ i. STATE),
  may_unlock z call h g x v u (is_stamped z call h g v c.requires.locked x u c.store_next_stamp-written.ensures.stored) c.args.kind,
  subst (λ (k : ℕ). MayEnd k (unlock_header h c.args.kind) u) (sym c.store_next_stamp-written.ensures.own.call) (may_write z call h g x v u c.requires.locked c.store_next_stamp-written.ensures.next c.store_next_stamp-written.ensures.stored c.args.kind c.requires.new_call c.requires.makes),
)

pub returns-clause-unlocked : goal.returns-clause-unlocked
returns-clause-unlocked c = let z : Sizes = key c.args.table.now in let call = call_of c.args.pass.now in let h = c.args.self.header in let g = c.args.self.generation in let x = c.store_next_stamp-written.result in let v = state c.args.pass.now in let u = state c.store_next_stamp-written.new.pass in let w = state c.unlock_header.new.pass in let n = c.unlock_header.result in
    record {
      stamped = u;
      stores = c.store_next_stamp-written.ensures.next;
      ends = ends_lock z call h g x v u (is_stamped z call h g v c.requires.locked x u c.store_next_stamp-written.ensures.stored) c.args.kind n w
          (told_in z call (call_of c.store_next_stamp-written.new.pass) (on_headers (unlock_header h c.args.kind)) u n w c.store_next_stamp-written.ensures.own.call
          (c.unlock_header.ensures.told h record { inside = c.requires.locked.inside; word_is = c.pin_at.ensures }));
    }

pub returns-clause-alone : goal.returns-clause-alone
returns-clause-alone c = let z : Sizes = key c.args.table.now in let call = call_of c.args.pass.now in let h = c.args.self.header in let g = c.args.self.generation in let x = c.store_next_stamp-written.result in let v = state c.args.pass.now in
    writes_alone z call h g c.args.kind x v (state c.unlock_header.new.pass) (returns-clause-unlocked c) c.requires.locked

pub returns-clause-stamp : goal.returns-clause-stamp
returns-clause-stamp c = let z : Sizes = key c.args.table.now in let v = state c.args.pass.now in let u = state c.store_next_stamp-written.new.pass in
    raised_by_one z (call_of c.args.pass.now) c.args.self.header c.args.self.generation c.store_next_stamp-written.result v u c.requires.locked c.store_next_stamp-written.ensures.next c.store_next_stamp-written.ensures.stored

pub returns-clause-wrote : goal.returns-clause-wrote
returns-clause-wrote c of before stamp l = let z : Sizes = key c.args.table.now in let call = call_of c.args.pass.now in let h = c.args.self.header in let u = state c.store_next_stamp-written.new.pass in let w = state c.unlock_header.new.pass in let n = c.unlock_header.result in
    unlock_writes z call h c.args.self.generation c.store_next_stamp-written.result (state c.args.pass.now) u of before stamp l c.store_next_stamp-written.ensures.next c.store_next_stamp-written.ensures.stored c.args.kind n w
    (told_in z call (call_of c.store_next_stamp-written.new.pass) (on_headers (unlock_header h c.args.kind)) u n w c.store_next_stamp-written.ensures.own.call
    (c.unlock_header.ensures.told h record { inside = c.requires.locked.inside; word_is = c.pin_at.ensures }))

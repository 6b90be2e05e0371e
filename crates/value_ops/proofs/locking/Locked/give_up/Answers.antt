use Rattle.oak_model.specs.declared.writes.Kind.TheVariants.{Put}
use Rattle.oak_model.specs.Limits.{Sizes}
use Rattle.pin_word.specs.PinWord.{STATE}
use Rattle.value_ops.proofs.AloneEnds.{gives_up_alone}
use Rattle.oak_core.specs.Passes.{state, key, call_of}
use Rattle.value_ops.specs.HeldValue.{stamp_held}
use Rattle.value_ops.proofs.StampStores.{as_stamped}
use Rattle.value_ops.proofs.UnlockFacts.{may_unlock, ends_lock}
use Rattle.value_ops.proofs.locking.Locked.give_up.Goals as goal
use Rattle.value_ops.proofs.LockEndings.{may_give_up}
use Rattle.value_ops.proofs.LockWrites.{give_up_learns}

pub unlock_header-requires-clause-names : goal.unlock_header-requires-clause-names
unlock_header-requires-clause-names c = let z : Sizes = key c.args.table.now in let call = call_of c.args.pass.now in let h = c.args.self.header in let g = c.args.self.generation in let v = state c.args.pass.now in
    (h, record { inside = c.requires.locked.inside; word_is = c.pin_at.ensures }, (λ i. STATE), may_unlock z call h g (stamp_held h v.headers.held) v v (as_stamped z call h g v c.requires.locked) Put, may_give_up z call h g Put v c.requires.locked c.requires.unchanged)

pub returns-clause-unlocked : goal.returns-clause-unlocked
returns-clause-unlocked c = let z : Sizes = key c.args.table.now in let call = call_of c.args.pass.now in let h = c.args.self.header in let g = c.args.self.generation in let v = state c.args.pass.now in let w = state c.unlock_header.new.pass in
    let t = c.unlock_header.ensures.told h record { inside = c.requires.locked.inside; word_is = c.pin_at.ensures } in record {
      ends = ends_lock z call h g (stamp_held h v.headers.held) v v (as_stamped z call h g v c.requires.locked) Put c.unlock_header.result w t;
      knowledge = give_up_learns z call h g Put v c.requires.locked c.unlock_header.result w t;
    }

pub returns-clause-alone : goal.returns-clause-alone
returns-clause-alone c = let v = state c.args.pass.now in
    gives_up_alone (key c.args.table.now) (call_of c.args.pass.now) c.args.self.header c.args.self.generation (stamp_held c.args.self.header v.headers.held) v (state c.unlock_header.new.pass) (returns-clause-unlocked c) c.requires.locked

use Rattle.std.proofs.Common.{◌+◌, sym, refl, ◌∙◌, subst, arith}
use Rattle.oak_model.specs.Limits.{Sizes}
use Rattle.pin_word.specs.PinWord.{STATE}
use Rattle.header_core.specs.HeaderStep.{lock_header}
use Rattle.oak_core.specs.AloneWords.{Runs}
use Rattle.value_ops.specs.AloneLocks.{RefusesPin}
use Rattle.value_ops.proofs.AloneLock.{refuses_first, never_lost, locks_alone}
use Rattle.oak_core.specs.Passes.{state, key, call_of}
use Rattle.oak_core.specs.Step.{on_headers}
use Rattle.oak_core.proofs.memory.HeaderNames.{pin_below}
use Rattle.value_ops.specs.declared.locking.NoLock.{NoLock}
use Rattle.value_ops.specs.Locking.{LocksHeader, FindsNoLock}
use Rattle.value_ops.proofs.ExchangeFacts.{state_fits}
use Rattle.value_ops.proofs.LockFacts.{live_word, refused_first, may_be_locked, refused_second, locks}
use Rattle.oak_core.proofs.calls.MetMore.{told_in}
use Rattle.value_ops.proofs.locking.lock.Goals as goal
use Rattle.value_ops.proofs.LockedNow.{has_lock, is_unchanged, locks_key}

pub load-seen-requires-clause-inside : goal.load-seen-requires-clause-inside
load-seen-requires-clause-inside c = pin_below (key c.args.table.now) c.args.header c.pin_at-word.result c.requires.inside c.pin_at-word.ensures

pub returns-then-not-may_lock-clause-refused : goal.returns-then-not-may_lock-clause-refused
returns-then-not-may_lock-clause-refused c = let z : Sizes = key c.args.table.now in let call = call_of c.args.pass.now in let h = c.args.header in let g = c.args.generation in let n = c.load-seen.result in let v = state c.args.pass.now in let u = state c.load-seen.new.pass in
    subst (λ (y : NoLock). FindsNoLock z call h g y v u) (sym c.refusal.ensures)
    (refused_first z call h g c.requires.inside c.pin_at-word.result n v u c.pin_at-word.ensures c.requires.known c.load-seen.ensures.loaded (sym c.may_lock.ensures ∙ c.if-not-may_lock.true))

pub overflow_add-seen : goal.overflow_add-seen
overflow_add-seen c = let w = (live_word c.load-seen.result c.args.generation (sym c.may_lock.ensures ∙ c.if-not-may_lock.false)).0 in let s = w.state in let h = state_fits c.load-seen.result c.load-seen.type_inv (omega arith) in omega arith

pub lock_header-found-requires-clause-names : goal.lock_header-found-requires-clause-names
lock_header-found-requires-clause-names c = let z : Sizes = key c.args.table.now in let call = call_of c.args.pass.now in let h = c.args.header in let g = c.args.generation in let n = c.load-seen.result in let v = state c.args.pass.now in let u = state c.load-seen.new.pass in
    let free = sym c.may_lock.ensures ∙ c.if-not-may_lock.false in (
      h,
      record { inside = c.requires.inside; word_is = c.pin_at-word.ensures; unpinned = (live_word n g free).0; new_is = (λ i. n + STATE) },
      may_be_locked z call h g c.requires.inside c.pin_at-word.result n v u c.pin_at-word.ensures c.requires.known c.load-seen.ensures.loaded free,
    )

pub returns-then-found-seen-clause-refused : goal.returns-then-found-seen-clause-refused
returns-then-found-seen-clause-refused c = let z : Sizes = key c.args.table.now in let call = call_of c.args.pass.now in let h = c.args.header in let g = c.args.generation in let n = c.load-seen.result in let v = state c.args.pass.now in let u = state c.load-seen.new.pass in
    let k = c.lock_header-found.result in let w = state c.lock_header-found.new.pass in let free = sym c.may_lock.ensures ∙ c.if-not-may_lock.false in
    let t = told_in z call (call_of c.load-seen.new.pass) (on_headers (lock_header h n)) u k w c.load-seen.ensures.own.call
    (c.lock_header-found.ensures.told h record { inside = c.requires.inside; word_is = c.pin_at-word.ensures; unpinned = (live_word n g free).0; new_is = (λ i. n + STATE) }) in
    subst (λ (y : NoLock). FindsNoLock z call h g y v w) (sym c.refusal-then-found-seen.ensures)
    (refused_second z call h g c.requires.inside c.pin_at-word.result n v u c.pin_at-word.ensures c.requires.known c.load-seen.ensures.loaded free k w t c.if-found-seen.true)

pub returns-clause-locked : goal.returns-clause-locked
returns-clause-locked c = let z : Sizes = key c.args.table.now in let call = call_of c.args.pass.now in let h = c.args.header in let g = c.args.generation in let n = c.load-seen.result in let v = state c.args.pass.now in let u = state c.load-seen.new.pass in
    let k = c.lock_header-found.result in let w = state c.lock_header-found.new.pass in let free = sym c.may_lock.ensures ∙ c.if-not-may_lock.false in
    let t = told_in z call (call_of c.load-seen.new.pass) (on_headers (lock_header h n)) u k w c.load-seen.ensures.own.call
    (c.lock_header-found.ensures.told h record { inside = c.requires.inside; word_is = c.pin_at-word.ensures; unpinned = (live_word n g free).0; new_is = (λ i. n + STATE) }) in
    (refl, refl, locks z call h g c.requires.inside c.pin_at-word.result n v u c.pin_at-word.ensures c.requires.known c.load-seen.ensures.loaded free k w t c.if-found-seen.false)

pub returns-clause-has : goal.returns-clause-has
returns-clause-has c = let z : Sizes = key c.args.table.now in let call = call_of c.args.pass.now in let h = c.args.header in let g = c.args.generation in let v = state c.args.pass.now in let w = state c.lock_header-found.new.pass in
    let l : LocksHeader z call h g v w = (returns-clause-locked c).2 in (has_lock z call h g v w l, is_unchanged z call h g v w l)

pub returns-then-not-may_lock-clause-refused_alone : goal.returns-then-not-may_lock-clause-refused_alone
returns-then-not-may_lock-clause-refused_alone c = let z : Sizes = key c.args.table.now in let h = c.args.header in let g = c.args.generation in let n = c.load-seen.result in let v = state c.args.pass.now in let u = state c.load-seen.new.pass in
    subst (λ (y : NoLock). Runs (RefusesPin z h g y) v u) (sym c.refusal.ensures)
    (refuses_first z (call_of c.args.pass.now) h g c.requires.inside c.pin_at-word.result n v u c.pin_at-word.ensures c.load-seen.ensures.loaded (sym c.may_lock.ensures ∙ c.if-not-may_lock.true))

pub returns-then-found-seen-clause-refused_alone : goal.returns-then-found-seen-clause-refused_alone
returns-then-found-seen-clause-refused_alone c = let z : Sizes = key c.args.table.now in let call = call_of c.args.pass.now in let h = c.args.header in let g = c.args.generation in let n = c.load-seen.result in let v = state c.args.pass.now in let u = state c.load-seen.new.pass in
    let k = c.lock_header-found.result in let w = state c.lock_header-found.new.pass in let free = sym c.may_lock.ensures ∙ c.if-not-may_lock.false in
    let t = told_in z call (call_of c.load-seen.new.pass) (on_headers (lock_header h n)) u k w c.load-seen.ensures.own.call
    (c.lock_header-found.ensures.told h record { inside = c.requires.inside; word_is = c.pin_at-word.ensures; unpinned = (live_word n g free).0; new_is = (λ i. n + STATE) }) in
    never_lost z call h g c.requires.inside c.pin_at-word.result n v u c.pin_at-word.ensures c.load-seen.ensures.loaded k w t c.if-found-seen.true (RefusesPin z h g c.refusal-then-found-seen.result)

pub returns-clause-alone : goal.returns-clause-alone
returns-clause-alone c = let z : Sizes = key c.args.table.now in let call = call_of c.args.pass.now in let h = c.args.header in let g = c.args.generation in let n = c.load-seen.result in let v = state c.args.pass.now in let u = state c.load-seen.new.pass in
    let k = c.lock_header-found.result in let w = state c.lock_header-found.new.pass in let free = sym c.may_lock.ensures ∙ c.if-not-may_lock.false in
    let t = told_in z call (call_of c.load-seen.new.pass) (on_headers (lock_header h n)) u k w c.load-seen.ensures.own.call
    (c.lock_header-found.ensures.told h record { inside = c.requires.inside; word_is = c.pin_at-word.ensures; unpinned = (live_word n g free).0; new_is = (λ i. n + STATE) }) in
    locks_alone z call h g c.requires.inside c.pin_at-word.result n v u c.pin_at-word.ensures c.load-seen.ensures.loaded k w t c.if-found-seen.false free

pub returns-clause-keys : goal.returns-clause-keys
returns-clause-keys c = let z : Sizes = key c.args.table.now in let call = call_of c.args.pass.now in let h = c.args.header in let g = c.args.generation in let v = state c.args.pass.now in let w = state c.lock_header-found.new.pass in
    let l : LocksHeader z call h g v w = (returns-clause-locked c).2 in locks_key z call h g v w l

use Rattle.arena_core.proofs.PlaceLaws.{same_class}
use Rattle.point_ops.proofs.LoneOver.{exchanges_alone, gives_up_class, refills_alone}
use Rattle.std.proofs.Common.{ℕ, List, cond, ◌==◌, length, refl, sym, ◌∙◌, Some, ap, rules, ◌≡◌}
use Rattle.std.proofs.lemmas.Result.{err_from_is_err_and, IfOk-weaker, IfErr-weaker}
use Rattle.oak_core.specs.AloneWords.{Runs}
use Rattle.point_ops.proofs.LoneChanges.{FreeIn, free_again, gave_up_pinned, gives_up_free, no_block_alone}
use Rattle.point_ops.proofs.LoneLooks.{refused_lock}
use Rattle.point_ops.specs.LoneLives.{OverHaltsIn}
use denote.Enum.Bare.{same_true}
use Rattle.oak_model.specs.Class.{class_of}
use Rattle.oak_core.proofs.seats.AloneRuns.{runs_then}
use Rattle.value_ops.specs.AloneLocks.{FindsClass, RefillsWords}
use Rattle.point_ops.proofs.LoneKept.{behind_block, lock_whole, refills_kept, round_alone}
use denote.Enum.Bare.{same_false}
use Rattle.oak_model.specs.contracts.classes.Class.{the_type}
use Rattle.oak_model.specs.declared.writes.Kind.TheVariants.{Put}
use Rattle.oak_model.specs.declared.cells.CellCall.TheVariants as calls
use Rattle.oak_model.specs.Class.{class_number}
use Rattle.oak_model.specs.Limits.{Sizes}
use Rattle.arena_core.specs.Place.{place_word}
use Rattle.header_core.specs.declared.holds.HeldHeader.{HeldHeader}
use Rattle.oak_core.specs.declared.states.PassState.{PassState}
use Rattle.oak_core.specs.CallSteps.{Learns, Stands}
use Rattle.oak_core.specs.Passes.{state, key as sizes, call_of}
use Rattle.oak_core.proofs.calls.CallSteps.{learns_both, stands_both, stands_in, stands_learns}
use Rattle.oak_core.proofs.known.KnownHeaders.{known_life}
use Rattle.value_ops.specs.HeldValue.{words_in}
use Rattle.value_ops.specs.UnderLock.{words_over}
use Rattle.value_ops.proofs.ComesFurther.{lock_met}
use Rattle.point_ops.proofs.LocksKept.{changed_writes, key_loaded, load_stands}
use Rattle.point_ops.proofs.NoLockFacts.{refused_by, refused_some}
use Rattle.point_ops.proofs.OtherClasses.{life_locked, other_class}
use Rattle.point_ops.proofs.OverHalted.{looked_stands, looked_took, no_block_halts, over_written, stands_learned, unlocked_halts}
use Rattle.point_ops.proofs.changing.overwrite.Goals as goal

pub returns-in_default-clause-halted : goal.returns-in_default-clause-halted
returns-in_default-clause-halted c = let z : Sizes = sizes c.args.table.now in let call = call_of c.args.pass.now in let v : PassState = state c.args.pass.now in let u : PassState = state c.lock.new.pass in
    refused_some z call c.args.home.header c.args.home.generation c.in_default.field-0 v u (refused_by z call c.args.home.header c.args.home.generation c.in_default.field-0 v u c.requires.inside c.requires.headers c.in_default.ensures.refused)

pub fill-requires-clause-locked : goal.fill-requires-clause-locked
fill-requires-clause-locked c = let l = c.in-Ok.locked in lock_met (sizes c.args.table.now) (call_of c.lock.new.pass) (state c.lock.new.pass) (state c.class.new.pass) c.class.ensures.met l.header l.generation c.in-Ok.ensures.has.0

pub unlock-requires-clause-makes : goal.unlock-requires-clause-makes
unlock-requires-clause-makes c = record { ask = calls.Put _; kind_is = refl; writes = refl; leaves = refl }

pub returns-then-eq-clause-wrote : goal.returns-then-eq-clause-wrote
returns-then-eq-clause-wrote c = λ k known. let z : Sizes = sizes c.args.table.now in let call = call_of c.args.pass.now in let v : PassState = state c.args.pass.now in let u : PassState = state c.lock.new.pass in let y : PassState = state c.class.new.pass in let w : PassState = state c.fill.new.pass in let l = c.in-Ok.locked in
    let bytes : List ℕ = c.args.value.now in let filled = c.fill.ensures.filled in let comes = filled.2.comes in
    let locks = key_loaded z call (call_of c.lock.new.pass) k l.header l.generation v u y c.class.ensures.met (c.in-Ok.ensures.keys k known) in
    let place : ℕ = place_word (class_number filled.0) filled.1 (length bytes) in let words : List ℕ = words_over bytes (words_in l.header y.headers.held) in
    let first = c.lock.ensures.own.call in let second = c.class.ensures.own.call ∙ first in (
      locks.before,
      changed_writes (λ (r : HeldHeader). record r { place = cond (r.header == l.header) place r.place; words = cond (r.header == l.header) words r.words }) (λ r. refl) (λ r. refl) (λ r. refl) (λ r. refl)
          z call (call_of c.class.new.pass) (call_of c.fill.new.pass) k v y w (state c.unlock.new.pass) l c.fill.new.self c.fill.ensures.same Put c.unlock.result bytes locks
          (learns_both call v u y c.in-Ok.ensures.locked.2.learns (stands_learns call u y (stands_in call (call_of c.lock.new.pass) u y first (load_stands z (call_of c.lock.new.pass) u y c.class.ensures.met))))
          second y.blocks.held comes c.fill.ensures.locked filled.2.value c.unlock.ensures.stamp (c.fill.ensures.own.call ∙ second) c.unlock.ensures.wrote,
    )

pub give_up-requires-clause-locked : goal.give_up-requires-clause-locked
give_up-requires-clause-locked c = let l = c.in-Ok.locked in lock_met (sizes c.args.table.now) (call_of c.lock.new.pass) (state c.lock.new.pass) (state c.class.new.pass) c.class.ensures.met l.header l.generation c.in-Ok.ensures.has.0

pub returns-in_err-block-clause-learns : goal.returns-in_err-block-clause-learns
returns-in_err-block-clause-learns c = let z : Sizes = sizes c.args.table.now in let call = call_of c.args.pass.now in let v : PassState = state c.args.pass.now in let u : PassState = state c.lock.new.pass in let y : PassState = state c.class.new.pass in let x : PassState = state c.give_up.new.pass in let w : PassState = state c.make_block.new.pass in
    let first = c.lock.ensures.own.call in let second = c.class.ensures.own.call ∙ first in let l = c.in-Ok.locked in
    let looked : Stands call u x = looked_stands z call (call_of c.lock.new.pass) (call_of c.class.new.pass) l.header l.generation _ u y x first second c.class.ensures.met c.give_up.ensures.unlocked in
    let rest : Stands call u w = stands_both call u x w looked (stands_in call (call_of c.give_up.new.pass) x w (c.give_up.ensures.own.call ∙ second) c.in_err-block.ensures.back.stands) in
    let p = err_from_is_err_and c.from_residual.result c.from_residual.ensures.1 in rw p.1 (learns_both call v u w c.in-Ok.ensures.locked.2.learns (stands_learns call u w rest))

pub returns-in_err-block-clause-halted : goal.returns-in_err-block-clause-halted
returns-in_err-block-clause-halted c = let z : Sizes = sizes c.args.table.now in let call = call_of c.args.pass.now in let v : PassState = state c.args.pass.now in let u : PassState = state c.lock.new.pass in let y : PassState = state c.class.new.pass in let x : PassState = state c.give_up.new.pass in let w : PassState = state c.make_block.new.pass in
    let first = c.lock.ensures.own.call in let second = c.class.ensures.own.call ∙ first in let third = c.give_up.ensures.own.call ∙ second in let l = c.in-Ok.locked in let met = c.class.ensures.met in
    let looked : Stands call u x = looked_stands z call (call_of c.lock.new.pass) (call_of c.class.new.pass) l.header l.generation _ u y x first second met c.give_up.ensures.unlocked in
    let rest : Stands call u w = stands_both call u x w looked (stands_in call (call_of c.give_up.new.pass) x w third c.in_err-block.ensures.back.stands) in
    let learned : Learns call v w = learns_both call v u w c.in-Ok.ensures.locked.2.learns (stands_learns call u w rest) in
    let p = err_from_is_err_and c.from_residual.result c.from_residual.ensures.1 in
    rw (p.1, p.2) (no_block_halts z call (call_of c.give_up.new.pass) third c.args.home.header c.args.home.generation c.args.value.now v x w c.in_err-block.field-0.0 c.class_for-class.result
    (learns_both call v u x c.in-Ok.ensures.locked.2.learns (stands_learns call u x looked)).met c.in_err-block.ensures.refused c.class_for-class.ensures
    (λ k known. other_class z call (call_of c.lock.new.pass) (call_of c.class.new.pass) _ l.header l.generation k c.class_for-class.result c.class.result v u y x w (c.in-Ok.ensures.keys k known) met
    (lock_met z (call_of c.lock.new.pass) u y met l.header l.generation c.in-Ok.ensures.has.0) c.class.ensures.class (same_false the_type c.class.result c.class_for-class.result (sym c.eq.ensures ∙ c.if-eq.false)) c.give_up.ensures.unlocked learned.all.seen rest)
    (looked_took z call (call_of c.lock.new.pass) (call_of c.class.new.pass) c.args.home.header c.args.home.generation l.header l.generation _ v u y x w c.in-Ok.ensures.locked.2 met c.give_up.ensures.unlocked c.in_err-block.ensures.quiet))

pub exchange-requires-clause-known : goal.exchange-requires-clause-known
exchange-requires-clause-known c = let z : Sizes = sizes c.args.table.now in let call = call_of c.args.pass.now in let v : PassState = state c.args.pass.now in let u : PassState = state c.lock.new.pass in let y : PassState = state c.class.new.pass in let x : PassState = state c.give_up.new.pass in let w : PassState = state c.make_block.new.pass in
    let k = c.requires.life.0 in let l = c.in-Ok.locked in
    let looked : Stands call u x = looked_stands z call (call_of c.lock.new.pass) (call_of c.class.new.pass) l.header l.generation _ u y x c.lock.ensures.own.call (c.class.ensures.own.call ∙ c.lock.ensures.own.call) c.class.ensures.met c.give_up.ensures.unlocked in
    known_life c.args.home.header c.args.home.generation k w.knowledge (life_locked z call c.args.home.header c.args.home.generation v u w c.in-Ok.ensures.locked.2 (c.in_ok-block.ensures.made.1.stands.knowledge ∙ looked.knowledge) c.args.home.header c.args.home.generation k c.requires.life.1)

pub exchange-requires-clause-life : goal.exchange-requires-clause-life
exchange-requires-clause-life c = let z : Sizes = sizes c.args.table.now in let call = call_of c.args.pass.now in let v : PassState = state c.args.pass.now in let u : PassState = state c.lock.new.pass in let y : PassState = state c.class.new.pass in let x : PassState = state c.give_up.new.pass in let w : PassState = state c.make_block.new.pass in
    let k = c.requires.life.0 in let l = c.in-Ok.locked in
    let looked : Stands call u x = looked_stands z call (call_of c.lock.new.pass) (call_of c.class.new.pass) l.header l.generation _ u y x c.lock.ensures.own.call (c.class.ensures.own.call ∙ c.lock.ensures.own.call) c.class.ensures.met c.give_up.ensures.unlocked in
    (k, life_locked z call c.args.home.header c.args.home.generation v u w c.in-Ok.ensures.locked.2 (c.in_ok-block.ensures.made.1.stands.knowledge ∙ looked.knowledge) c.args.home.header c.args.home.generation k c.requires.life.1)

pub returns-clause-wrote : goal.returns-clause-wrote
returns-clause-wrote c = let z : Sizes = sizes c.args.table.now in let call = call_of c.args.pass.now in let v : PassState = state c.args.pass.now in let u : PassState = state c.lock.new.pass in let y : PassState = state c.class.new.pass in let x : PassState = state c.give_up.new.pass in let w : PassState = state c.make_block.new.pass in
    let first = c.lock.ensures.own.call in let second = c.class.ensures.own.call ∙ first in let third = c.give_up.ensures.own.call ∙ second in let l = c.in-Ok.locked in
    let looked : Stands call u x = looked_stands z call (call_of c.lock.new.pass) (call_of c.class.new.pass) l.header l.generation _ u y x first second c.class.ensures.met c.give_up.ensures.unlocked in
    let rest : Stands call u w = stands_both call u x w looked (stands_in call (call_of c.give_up.new.pass) x w third c.in_ok-block.ensures.made.1.stands) in
    over_written call (call_of c.make_block.new.pass) (c.make_block.ensures.own.call ∙ third) c.args.home.header c.args.home.generation c.args.value.now v w (state c.exchange.new.pass) c.exchange.result (learns_both call v u w c.in-Ok.ensures.locked.2.learns (stands_learns call u w rest))
    (life_locked z call c.args.home.header c.args.home.generation v u w c.in-Ok.ensures.locked.2 rest.knowledge c.args.home.header c.args.home.generation) c.exchange.ensures.wrote

pub returns-clause-learns : goal.returns-clause-learns
returns-clause-learns c = let z : Sizes = sizes c.args.table.now in let call = call_of c.args.pass.now in let v : PassState = state c.args.pass.now in let u : PassState = state c.lock.new.pass in let y : PassState = state c.class.new.pass in let x : PassState = state c.give_up.new.pass in let w : PassState = state c.make_block.new.pass in
    let first = c.lock.ensures.own.call in let second = c.class.ensures.own.call ∙ first in let third = c.give_up.ensures.own.call ∙ second in let l = c.in-Ok.locked in
    let looked : Stands call u x = looked_stands z call (call_of c.lock.new.pass) (call_of c.class.new.pass) l.header l.generation _ u y x first second c.class.ensures.met c.give_up.ensures.unlocked in
    let rest : Stands call u w = stands_both call u x w looked (stands_in call (call_of c.give_up.new.pass) x w third c.in_ok-block.ensures.made.1.stands) in
    stands_learned call (call_of c.make_block.new.pass) (c.make_block.ensures.own.call ∙ third) v w (state c.exchange.new.pass) c.exchange.result (learns_both call v u w c.in-Ok.ensures.locked.2.learns (stands_learns call u w rest)) c.exchange.ensures.stands

pub returns-clause-halted : goal.returns-clause-halted
returns-clause-halted c = let z : Sizes = sizes c.args.table.now in let call = call_of c.args.pass.now in let v : PassState = state c.args.pass.now in let u : PassState = state c.lock.new.pass in let y : PassState = state c.class.new.pass in let x : PassState = state c.give_up.new.pass in let w : PassState = state c.make_block.new.pass in
    let first = c.lock.ensures.own.call in let second = c.class.ensures.own.call ∙ first in let third = c.give_up.ensures.own.call ∙ second in let l = c.in-Ok.locked in
    let looked : Stands call u x = looked_stands z call (call_of c.lock.new.pass) (call_of c.class.new.pass) l.header l.generation _ u y x first second c.class.ensures.met c.give_up.ensures.unlocked in
    let rest : Stands call u w = stands_both call u x w looked (stands_in call (call_of c.give_up.new.pass) x w third c.in_ok-block.ensures.made.1.stands) in
    unlocked_halts z call (call_of c.make_block.new.pass) (c.make_block.ensures.own.call ∙ third) c.args.home.header c.args.home.generation c.args.value.now v w (state c.exchange.new.pass) c.exchange.result (learns_both call v u w c.in-Ok.ensures.locked.2.learns (stands_learns call u w rest)).met c.exchange.ensures.refused

pub returns-in_default-clause-alone : goal.returns-in_default-clause-alone
returns-in_default-clause-alone c = λ r pin. refused_lock (sizes c.args.table.now) (call_of c.args.pass.now) c.args.home.header c.args.home.generation c.in_default.field-0 (state c.args.pass.now) (state c.lock.new.pass) c.requires.inside c.requires.headers c.in_default.ensures.refused

pub returns-in_err-block-clause-alone : goal.returns-in_err-block-clause-alone
returns-in_err-block-clause-alone c = let z : Sizes = sizes c.args.table.now in let h = c.args.home.header in let g = c.args.home.generation in let l = c.in-Ok.locked in
    let v : PassState = state c.args.pass.now in let u : PassState = state c.lock.new.pass in let y : PassState = state c.class.new.pass in let x : PassState = state c.give_up.new.pass in let w : PassState = state c.make_block.new.pass in
    let free : Runs (FreeIn z h g) v x = gives_up_free z h g l.header l.generation c.requires.inside c.in-Ok.ensures.locked.0 c.in-Ok.ensures.locked.1 c.class.result v u y x c.in-Ok.ensures.alone c.class.ensures.alone c.give_up.ensures.alone in
    let p = err_from_is_err_and c.from_residual.result c.from_residual.ensures.1 in
    rw (p.1, p.2) (λ r pin. no_block_alone z h g c.args.value.now v x w free c.in_err-block.field-0.0 c.class_for-class.result c.in_err-block.ensures.refused.0 c.class_for-class.ensures c.in_err-block.ensures.alone_refused)

pub returns-clause-alone : goal.returns-clause-alone
returns-clause-alone c = let z : Sizes = sizes c.args.table.now in let h = c.args.home.header in let g = c.args.home.generation in let l = c.in-Ok.locked in
    let v : PassState = state c.args.pass.now in let u : PassState = state c.lock.new.pass in let y : PassState = state c.class.new.pass in let x : PassState = state c.give_up.new.pass in let w : PassState = state c.make_block.new.pass in
    let free : Runs (FreeIn z h g) v x = gives_up_free z h g l.header l.generation c.requires.inside c.in-Ok.ensures.locked.0 c.in-Ok.ensures.locked.1 c.class.result v u y x c.in-Ok.ensures.alone c.class.ensures.alone c.give_up.ensures.alone in
    let b = c.in_ok-block.block in let t : PassState = state c.exchange.new.pass in
    IfErr-weaker c.exchange.result _ _ (λ why unfree r pin. free_again z h g c.args.value.now v x w free r b.class b.number t (OverHaltsIn why z h g c.args.value.now v)
    (c.in_ok-block.ensures.alone r (gave_up_pinned z (call_of c.args.pass.now) (call_of c.lock.new.pass) (call_of c.class.new.pass) h g l.header l.generation _ r v u y x c.in-Ok.ensures.locked.2 c.class.ensures.met c.give_up.ensures.unlocked pin)) unfree) c.exchange.ensures.alone

pub returns-then-eq-clause-alone_kept : goal.returns-then-eq-clause-alone_kept
returns-then-eq-clause-alone_kept c = λ r pin. let z : Sizes = sizes c.args.table.now in let h = c.args.home.header in let g = c.args.home.generation in let l = c.in-Ok.locked in
    let v : PassState = state c.args.pass.now in let u : PassState = state c.lock.new.pass in let y : PassState = state c.class.new.pass in let w : PassState = state c.fill.new.pass in let bytes : List ℕ = c.args.value.now in let k = c.class.result in
    let same = c.fill.ensures.same in let header = c.in-Ok.ensures.locked.0 in let generation = c.in-Ok.ensures.locked.1 in
    let fits : class_of (length bytes) ≡ Some k = c.class_for-class.ensures ∙ ap Some (sym (same_true the_type (search rules) k c.class_for-class.result (sym c.eq.ensures ∙ c.if-eq.true))) in
    round_alone z h g c.requires.inside _ (refills_kept z h c.requires.inside l.header header k bytes fits) v u w (state c.unlock.new.pass)
    (lock_whole z (call_of c.args.pass.now) h g l.header l.generation v u header c.in-Ok.ensures.locked.2 c.in-Ok.ensures.has.0 c.in-Ok.ensures.alone)
    (runs_then (FindsClass z l.header k) (RefillsWords z l.header bytes) u y w c.class.ensures.alone c.fill.ensures.alone)
    c.fill.new.self.header c.fill.new.self.generation c.unlock.result (ap (λ o. o.header) same ∙ header) (ap (λ o. o.generation) same ∙ generation) c.unlock.ensures.alone

pub returns-clause-alone_kept : goal.returns-clause-alone_kept
returns-clause-alone_kept c = let z : Sizes = sizes c.args.table.now in let h = c.args.home.header in let g = c.args.home.generation in let l = c.in-Ok.locked in
    let v : PassState = state c.args.pass.now in let u : PassState = state c.lock.new.pass in let y : PassState = state c.class.new.pass in
    let x : PassState = state c.give_up.new.pass in let w : PassState = state c.make_block.new.pass in
    let free : Runs (FreeIn z h g) v x = gives_up_free z h g l.header l.generation c.requires.inside c.in-Ok.ensures.locked.0 c.in-Ok.ensures.locked.1 c.class.result v u y x c.in-Ok.ensures.alone c.class.ensures.alone c.give_up.ensures.alone in
    let b = c.in_ok-block.block in
    IfOk-weaker c.exchange.result _ _ (λ at kept r pin. behind_block z h g r b.class b.number v x w (state c.exchange.new.pass) free
    (c.in_ok-block.ensures.alone r (gave_up_pinned z (call_of c.args.pass.now) (call_of c.lock.new.pass) (call_of c.class.new.pass) h g l.header l.generation _ r v u y x c.in-Ok.ensures.locked.2 c.class.ensures.met c.give_up.ensures.unlocked pin)) kept) c.exchange.ensures.alone_kept

pub returns-then-eq-clause-alone_over : goal.returns-then-eq-clause-alone_over
returns-then-eq-clause-alone_over c = λ r pin. let z : Sizes = sizes c.args.table.now in let h = c.args.home.header in let g = c.args.home.generation in let l = c.in-Ok.locked in
    let v : PassState = state c.args.pass.now in let u : PassState = state c.lock.new.pass in let y : PassState = state c.class.new.pass in let w : PassState = state c.fill.new.pass in let bytes : List ℕ = c.args.value.now in let k = c.class.result in
    let same = c.fill.ensures.same in let header = c.in-Ok.ensures.locked.0 in let generation = c.in-Ok.ensures.locked.1 in
    let fits : class_of (length bytes) ≡ Some k = c.class_for-class.ensures ∙ ap Some (sym (same_true the_type (search rules) k c.class_for-class.result (sym c.eq.ensures ∙ c.if-eq.true))) in
    refills_alone z h g c.requires.inside k bytes fits v u w (state c.unlock.new.pass)
    (lock_whole z (call_of c.args.pass.now) h g l.header l.generation v u header c.in-Ok.ensures.locked.2 c.in-Ok.ensures.has.0 c.in-Ok.ensures.alone) l.header header
    (runs_then (FindsClass z l.header k) (RefillsWords z l.header bytes) u y w c.class.ensures.alone c.fill.ensures.alone)
    c.fill.new.self.header c.fill.new.self.generation c.unlock.result (ap (λ o. o.header) same ∙ header) (ap (λ o. o.generation) same ∙ generation) c.unlock.ensures.alone

pub returns-clause-alone_over : goal.returns-clause-alone_over
returns-clause-alone_over c = let z : Sizes = sizes c.args.table.now in let h = c.args.home.header in let g = c.args.home.generation in let l = c.in-Ok.locked in let k = c.class.result in let d = c.class_for-class.result in
    let v : PassState = state c.args.pass.now in let u : PassState = state c.lock.new.pass in let y : PassState = state c.class.new.pass in
    let x : PassState = state c.give_up.new.pass in let w : PassState = state c.make_block.new.pass in let b = c.in_ok-block.block in let is = c.in_ok-block.ensures.made.0 in
    let free = gives_up_class z h g l.header l.generation c.requires.inside c.in-Ok.ensures.locked.0 c.in-Ok.ensures.locked.1 k v u y x c.in-Ok.ensures.alone c.class.ensures.alone c.give_up.ensures.alone in
    IfOk-weaker c.exchange.result _ _ (λ at swap r pin. exchanges_alone z h r k b.class b.number at c.args.value.now (c.class_for-class.ensures ∙ ap Some (sym is))
    (λ e. same_false the_type k d (sym c.eq.ensures ∙ c.if-eq.false) (same_class k b.class e ∙ is)) v x w (state c.exchange.new.pass) free
    (c.in_ok-block.ensures.alone r (gave_up_pinned z (call_of c.args.pass.now) (call_of c.lock.new.pass) (call_of c.class.new.pass) h g l.header l.generation _ r v u y x c.in-Ok.ensures.locked.2 c.class.ensures.met c.give_up.ensures.unlocked pin)) swap) c.exchange.ensures.alone_swaps

use Rattle.point_ops.proofs.LoneRounds.{computes_alone}
use Rattle.std.proofs.Common.{◌≡◌, ℕ, List, cond, ◌==◌, refl, ◌∙◌, subst, ap}
use Rattle.point_ops.proofs.LoneLooks.{refused_lock}
use Rattle.point_ops.proofs.LoneKept.{applies_kept, lock_whole, round_alone}
use Rattle.std.proofs.lemmas.Result.{err_from_is_err_and}
use Rattle.oak_model.specs.Limits.{Sizes}
use Rattle.oak_model.specs.Recipe.{recipe_result}
use Rattle.header_core.specs.declared.holds.HeldHeader.{HeldHeader}
use Rattle.oak_core.specs.declared.states.PassState.{PassState}
use Rattle.oak_core.specs.Passes.{state, key as sizes, call_of}
use Rattle.value_ops.specs.HeldValue.{words_in, value_held}
use Rattle.value_ops.specs.UnderLock.{words_over}
use Rattle.point_ops.proofs.LocksKept.{changed_writes}
use Rattle.point_ops.proofs.NoLockFacts.{refused_by, refused_only}
use Rattle.point_ops.proofs.RecipesFed.{replaced_by}
use Rattle.point_ops.proofs.changing.compute_life.Goals as goal

pub returns-in_err-locked-clause-only : goal.returns-in_err-locked-clause-only
returns-in_err-locked-clause-only g c = let p = err_from_is_err_and c.from_residual.result c.from_residual.ensures.1 in
    rw p.1 (refused_only (sizes c.args.table.now) (call_of c.args.pass.now) c.args.home.header c.args.home.generation c.in_err-locked.field-0.0 (state c.args.pass.now) (state c.lock.new.pass) c.requires.inside c.in_err-locked.ensures.refused c.in_err-locked.ensures.refused_alone)

pub returns-in_err-locked-clause-refused : goal.returns-in_err-locked-clause-refused
returns-in_err-locked-clause-refused g c = let p = err_from_is_err_and c.from_residual.result c.from_residual.ensures.1 in
    rw (p.1, p.2) (refused_by (sizes c.args.table.now) (call_of c.args.pass.now) c.args.home.header c.args.home.generation c.in_err-locked.field-0.0 (state c.args.pass.now) (state c.lock.new.pass) c.requires.inside c.requires.none c.in_err-locked.ensures.refused)

pub returns-clause-wrote : goal.returns-clause-wrote
returns-clause-wrote g c = λ k known. let z : Sizes = sizes c.args.table.now in let call = call_of c.args.pass.now in let v : PassState = state c.args.pass.now in let u : PassState = state c.lock.new.pass in let w : PassState = state c.apply.new.pass in
    let o = c.args.recipe.now in let l = c.in_ok-locked.locked in let locks = c.in_ok-locked.ensures.keys k known in let applied = c.apply.ensures.applied in
    let computed : List ℕ → List ℕ = recipe_result ((goal.Recipe-dyn g (o.vtable, o.value)).told_kind o.value) ((goal.Recipe-dyn g (o.vtable, o.value)).told_argument o.value) in
    let words : List ℕ = words_over (computed (value_held l.header u.headers.held)) (words_in l.header u.headers.held) in (
      locks.before,
      changed_writes (λ (r : HeldHeader). record r { words = cond (r.header == l.header) words r.words }) (λ r. refl) (λ r. refl) (λ r. refl) (λ r. refl)
          z call (call_of c.lock.new.pass) (call_of c.apply.new.pass) k v u w (state c.unlock.new.pass) l c.apply.new.self c.apply.ensures.same c.args.kind c.unlock.result (computed locks.before) locks c.in_ok-locked.ensures.locked.2.learns
          c.lock.ensures.own.call u.blocks.held applied.comes c.apply.ensures.locked (subst (λ (b : List ℕ). value_held l.header w.headers.held ≡ computed b) locks.value applied.value) c.unlock.ensures.stamp
          (c.apply.ensures.own.call ∙ c.lock.ensures.own.call) c.unlock.ensures.wrote,
    )

pub returns-in_err-locked-clause-alone : goal.returns-in_err-locked-clause-alone
returns-in_err-locked-clause-alone g c = let p = err_from_is_err_and c.from_residual.result c.from_residual.ensures.1 in
    rw p.1 (refused_lock (sizes c.args.table.now) (call_of c.args.pass.now) c.args.home.header c.args.home.generation c.in_err-locked.field-0.0 (state c.args.pass.now) (state c.lock.new.pass) c.requires.inside c.requires.none c.in_err-locked.ensures.refused)

pub returns-clause-alone_kept : goal.returns-clause-alone_kept
returns-clause-alone_kept g c = let z : Sizes = sizes c.args.table.now in let h = c.args.home.header in let l = c.in_ok-locked.locked in let v : PassState = state c.args.pass.now in let u : PassState = state c.lock.new.pass in
    let same = c.apply.ensures.same in let header = c.in_ok-locked.ensures.locked.0 in let generation = c.in_ok-locked.ensures.locked.1 in
    round_alone z h c.args.home.generation c.requires.inside _ (applies_kept z h l.header header _ _) v u (state c.apply.new.pass) (state c.unlock.new.pass)
    (lock_whole z (call_of c.args.pass.now) h c.args.home.generation l.header l.generation v u header c.in_ok-locked.ensures.locked.2 c.in_ok-locked.ensures.has.0 c.in_ok-locked.ensures.alone) c.apply.ensures.alone
    c.apply.new.self.header c.apply.new.self.generation c.unlock.result (ap (λ o. o.header) same ∙ header) (ap (λ o. o.generation) same ∙ generation) c.unlock.ensures.alone

-- what the recipe was fed
pub returns-clause-fed : goal.returns-clause-fed
unfolding returns-clause-wrote
returns-clause-fed g c = λ k known. let r = c.apply.new.recipe in let locks = c.in_ok-locked.ensures.keys k known in let x = returns-clause-wrote g c k known in record {
  bytes = locks.before;
  held = replaced_by (call_of c.args.pass.now) k c.args.kind _ _ c.unlock.result (state c.args.pass.now) (state c.unlock.new.pass) x.1;
  said = subst ((goal.Recipe-dyn g (r.vtable, r.value)).fed r.value) locks.value c.apply.ensures.fed;
}

pub returns-clause-alone_rewrites : goal.returns-clause-alone_rewrites
returns-clause-alone_rewrites g c = let z : Sizes = sizes c.args.table.now in let h = c.args.home.header in let l = c.in_ok-locked.locked in let v : PassState = state c.args.pass.now in let u : PassState = state c.lock.new.pass in
    let same = c.apply.ensures.same in let header = c.in_ok-locked.ensures.locked.0 in let generation = c.in_ok-locked.ensures.locked.1 in
    computes_alone z h c.args.home.generation c.requires.inside _ _ l.header header v u (state c.apply.new.pass) (state c.unlock.new.pass)
    (lock_whole z (call_of c.args.pass.now) h c.args.home.generation l.header l.generation v u header c.in_ok-locked.ensures.locked.2 c.in_ok-locked.ensures.has.0 c.in_ok-locked.ensures.alone) c.apply.ensures.alone
    c.apply.new.self.header c.apply.new.self.generation c.unlock.result (ap (λ o. o.header) same ∙ header) (ap (λ o. o.generation) same ∙ generation) c.unlock.ensures.alone

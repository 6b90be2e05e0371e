use Rattle.std.proofs.Common.{ℕ, Ok, refl, subst, arith}
use Rattle.oak_model.specs.declared.cells.CellCall.{CellCall}
use Rattle.oak_model.specs.declared.cells.CellCall.TheVariants.{Compute}
use Rattle.oak_model.specs.declared.recipes.RecipeKind.{RecipeKind}
use Rattle.oak_core.specs.declared.states.PassState.{PassState}
use Rattle.oak_core.specs.Passes.{call_of, key as sizes, state}
use Rattle.point_ops.specs.LoneLeft.{LeavesBy}
use Rattle.point_ops.specs.LoneReplies.{WroteAlone}
use Rattle.point_ops.specs.Parts.{WroteFits}
use Rattle.oak_map.specs.GivingUp.{IsHalted}
use Rattle.oak_map.proofs.LoneRetries.{lone_since, runs_since}
use Rattle.oak_map.proofs.RepeatedTries.{halted_as, tried_all, tried_first, tried_more}
use Rattle.oak_map.proofs.RepliesSince.{compute_same, holds_both, same_both, wrote_holds, wrote_since}
use Rattle.point_ops.proofs.RecipesFed.{feeds_alone, feeds_since, says_both, says_same}
use Rattle.oak_map.proofs.SameScratch.{scratch_both}
use Rattle.oak_map.proofs.bare.compute.try_compute.Goals as goal

pub returns-in-Ok-clause-wrote : goal.returns-in-Ok-clause-wrote
returns-in-Ok-clause-wrote g c = let call = call_of c.args.pass.now in let u = state c.args.pass.now in let v = state c.loop.pass in let w = state c.try_compute.new.pass in let i = c.loop.invariant in
    let first = c.args.recipe.now in let now = c.loop.recipe in let x = goal.Recipe-dyn g (first.vtable, first.value) in let y = goal.Recipe-dyn g (now.vtable, now.value) in
    wrote_since call u v w i.tried.refused c.in-Ok.wrote c.args.key.now (Compute (x.told_kind first.value) (x.told_argument first.value))
    (subst (λ (a : CellCall). WroteFits c.in-Ok.wrote call c.args.key.now a v w) (compute_same (y.told_kind now.value) (x.told_kind first.value) (y.told_argument now.value) (x.told_argument first.value) i.kind i.argument) (subst (λ (k : ℕ). WroteFits c.in-Ok.wrote k c.args.key.now (Compute (y.told_kind now.value) (y.told_argument now.value)) v w) i.stays.call c.in-Ok.ensures.wrote))

pub returns-in-Ok-clause-holds : goal.returns-in-Ok-clause-holds
returns-in-Ok-clause-holds g c = let v = state c.loop.pass in let w = state c.try_compute.new.pass in let now = c.loop.recipe in let y = goal.Recipe-dyn g (now.vtable, now.value) in
    holds_both (state c.args.pass.now) v w c.loop.invariant.tried.refused.holds (wrote_holds c.in-Ok.wrote (call_of c.loop.pass) c.args.key.now (Compute (y.told_kind now.value) (y.told_argument now.value)) v w c.in-Ok.ensures.wrote)

-- to a pass that is alone
pub returns-in-Ok-clause-alone_reply : goal.returns-in-Ok-clause-alone_reply
returns-in-Ok-clause-alone_reply g c = let z = sizes c.args.table.now in let u = state c.args.pass.now in let v = state c.loop.pass in let w = state c.try_compute.new.pass in let i = c.loop.invariant in
    let first = c.args.recipe.now in let now = c.loop.recipe in let x = goal.Recipe-dyn g (first.vtable, first.value) in let y = goal.Recipe-dyn g (now.vtable, now.value) in
    lone_since (λ (t : PassState). WroteAlone c.in-Ok.wrote z c.args.key.now (Compute (x.told_kind first.value) (x.told_argument first.value)) t w) u v i.tried.waits
    (λ alone. subst (λ (a : CellCall). WroteAlone c.in-Ok.wrote z c.args.key.now a v w) (compute_same (y.told_kind now.value) (x.told_kind first.value) (y.told_argument now.value) (x.told_argument first.value) i.kind i.argument) (c.in-Ok.ensures.alone_reply alone))

pub returns-in-Ok-clause-alone_left : goal.returns-in-Ok-clause-alone_left
returns-in-Ok-clause-alone_left g c = runs_since (LeavesBy c.in-Ok.wrote (sizes c.args.table.now) c.args.key.now) (state c.args.pass.now) (state c.loop.pass) (state c.try_compute.new.pass) c.loop.invariant.tried.waits c.in-Ok.ensures.alone_left

pub loop-preserved : goal.loop-preserved
loop-preserved g c = let z = sizes c.args.table.now in let call = call_of c.args.pass.now in let key = c.args.key.now in let u = state c.args.pass.now in let v = state c.loop.pass in let w = state c.try_compute.new.pass in let i = c.loop.invariant in
    let first = c.args.recipe.now in let now = c.loop.recipe in let next = c.try_compute.new.recipe in let x = goal.Recipe-dyn g (first.vtable, first.value) in let y = goal.Recipe-dyn g (now.vtable, now.value) in let t = goal.Recipe-dyn g (next.vtable, next.value) in
    let ask = Compute (x.told_kind first.value) (x.told_argument first.value) in let told = Compute (y.told_kind now.value) (y.told_argument now.value) in
    let same = compute_same (y.told_kind now.value) (x.told_kind first.value) (y.told_argument now.value) (x.told_argument first.value) i.kind i.argument in
    let e = c.in_default.ensures in let h = halted_as z (call_of c.loop.pass) call key told ask c.in_default.field-0 v w i.stays.call same e.halted e.either e.refused in record {
      stays = scratch_both c.args.pass.now c.loop.pass c.try_compute.new.pass i.stays c.try_compute.ensures.own;
      few = let l = c.loop-test.true in omega arith;
      tried = tried_more (IsHalted z call key ask) call c.loop.counter u v w i.tried h h.refused e.alone;
      counted = let p = e.counted in let f = i.counted in omega arith;
      kind = same_both RecipeKind (t.told_kind next.value) (y.told_kind now.value) (x.told_kind first.value) c.try_compute.ensures.told.0 i.kind;
      argument = same_both ℕ (t.told_argument next.value) (y.told_argument now.value) (x.told_argument first.value) c.try_compute.ensures.told.1 i.argument;
      fed = says_both (x.fed first.value) (y.fed now.value) (t.fed next.value) i.fed e.fed;
    }

pub loop-init : goal.loop-init
loop-init g c = let first = c.args.recipe.now in let x = goal.Recipe-dyn g (first.vtable, first.value) in let ask = Compute (x.told_kind first.value) (x.told_argument first.value) in record {
  stays = record { table = refl; seat = refl; call = refl; scratch = refl; sorting = refl };
  few = omega arith;
  tried = tried_first (IsHalted (sizes c.args.table.now) (call_of c.args.pass.now) c.args.key.now ask) (call_of c.args.pass.now) (state c.args.pass.now);
  counted = refl;
  kind = refl;
  argument = refl;
  fed = says_same (x.fed first.value);
}

pub returns-clause-busy : goal.returns-clause-busy
returns-clause-busy g c = let first = c.args.recipe.now in let x = goal.Recipe-dyn g (first.vtable, first.value) in let ask = Compute (x.told_kind first.value) (x.told_argument first.value) in
    tried_all (IsHalted (sizes c.args.table.now) (call_of c.args.pass.now) c.args.key.now ask) (call_of c.args.pass.now) c.loop.counter c.args.looks (state c.args.pass.now) (state c.loop.pass) c.requires.some c.loop.invariant.few c.loop-test.false c.loop.invariant.tried

-- what the recipe was fed

pub returns-in-Ok-clause-fed : goal.returns-in-Ok-clause-fed
returns-in-Ok-clause-fed g c = let first = c.args.recipe.now in let now = c.loop.recipe in let next = c.try_compute.new.recipe in let x = goal.Recipe-dyn g (first.vtable, first.value) in let y = goal.Recipe-dyn g (now.vtable, now.value) in let t = goal.Recipe-dyn g (next.vtable, next.value) in
    feeds_since (Ok c.in-Ok.wrote) c.args.key.now (x.fed first.value) (y.fed now.value) (t.fed next.value) (state c.try_compute.new.pass) c.loop.invariant.fed c.in-Ok.ensures.fed

pub returns-in-Ok-clause-alone_fed : goal.returns-in-Ok-clause-alone_fed
returns-in-Ok-clause-alone_fed g c = let first = c.args.recipe.now in let now = c.loop.recipe in let next = c.try_compute.new.recipe in let x = goal.Recipe-dyn g (first.vtable, first.value) in let y = goal.Recipe-dyn g (now.vtable, now.value) in let t = goal.Recipe-dyn g (next.vtable, next.value) in λ alone.
    feeds_alone (Ok c.in-Ok.wrote) (sizes c.args.table.now) (call_of c.args.pass.now) c.args.key.now (Compute (x.told_kind first.value) (x.told_argument first.value)) (x.fed first.value) (t.fed next.value) (state c.args.pass.now) (state c.try_compute.new.pass) alone
    (returns-in-Ok-clause-wrote g c) (returns-in-Ok-clause-alone_reply g c) (returns-in-Ok-clause-fed g c)

use Rattle.std.proofs.Common.{ℕ, Ok, subst, arith}
use Rattle.oak_model.specs.declared.cells.CellCall.{CellCall}
use Rattle.oak_model.specs.declared.cells.CellCall.TheVariants.{Compute}
use Rattle.oak_model.specs.declared.recipes.RecipeKind.{RecipeKind}
use Rattle.oak_core.specs.declared.states.PassState.{PassState}
use Rattle.oak_core.specs.Passes.{state as table_state}
use Rattle.point_ops.specs.LoneLeft.{LeavesBy}
use Rattle.point_ops.specs.LoneReplies.{WroteAlone}
use Rattle.point_ops.specs.Parts.{WroteFits}
use Rattle.point_ops.specs.Replies.{Refuses}
use Rattle.oak_map.specs.Maps.{call_of, pass_of, sizes, state}
use Rattle.oak_map.proofs.LoneRetries.{lone_since, runs_since, waits_again}
use Rattle.oak_map.proofs.RepliesSince.{compute_same, holds_both, refuses_both, same_both, wrote_holds, wrote_since}
use Rattle.point_ops.proofs.RecipesFed.{feeds_alone, feeds_since, says_both}
use Rattle.oak_map.proofs.SameScratch.{scratch_both}
use Rattle.oak_map.proofs.map.OakMap.compute.Goals as goal

pub returns-in-Ok-clause-wrote : goal.returns-in-Ok-clause-wrote
returns-in-Ok-clause-wrote g c = let call = call_of c.args.pass.now in let u = state c.args.pass.now in let v = state c.loop.pass in let w = table_state c.try_compute.new.pass in let i = c.loop.invariant in
    let first = c.args.recipe.now in let now = c.loop.recipe in let x = goal.Recipe-dyn g (first.vtable, first.value) in let y = goal.Recipe-dyn g (now.vtable, now.value) in
    wrote_since call u v w i.refused c.in-Ok.wrote c.args.key.now (Compute (x.told_kind first.value) (x.told_argument first.value))
    (subst (λ (a : CellCall). WroteFits c.in-Ok.wrote call c.args.key.now a v w) (compute_same (y.told_kind now.value) (x.told_kind first.value) (y.told_argument now.value) (x.told_argument first.value) i.kind i.argument) (subst (λ (k : ℕ). WroteFits c.in-Ok.wrote k c.args.key.now (Compute (y.told_kind now.value) (y.told_argument now.value)) v w) i.stays.call c.in-Ok.ensures.wrote))

pub returns-in-Ok-clause-holds : goal.returns-in-Ok-clause-holds
returns-in-Ok-clause-holds g c = let v = state c.loop.pass in let w = table_state c.try_compute.new.pass in let now = c.loop.recipe in let y = goal.Recipe-dyn g (now.vtable, now.value) in
    holds_both (state c.args.pass.now) v w c.loop.invariant.refused.holds (wrote_holds c.in-Ok.wrote (call_of c.loop.pass) c.args.key.now (Compute (y.told_kind now.value) (y.told_argument now.value)) v w c.in-Ok.ensures.wrote)

-- to a pass that is alone
pub returns-in-Ok-clause-alone_reply : goal.returns-in-Ok-clause-alone_reply
returns-in-Ok-clause-alone_reply g c = let z = sizes c.args.self.now in let u = state c.args.pass.now in let v = state c.loop.pass in let w = table_state c.try_compute.new.pass in let i = c.loop.invariant in
    let first = c.args.recipe.now in let now = c.loop.recipe in let x = goal.Recipe-dyn g (first.vtable, first.value) in let y = goal.Recipe-dyn g (now.vtable, now.value) in
    lone_since (λ (t : PassState). WroteAlone c.in-Ok.wrote z c.args.key.now (Compute (x.told_kind first.value) (x.told_argument first.value)) t w) u v i.waits
    (λ alone. subst (λ (a : CellCall). WroteAlone c.in-Ok.wrote z c.args.key.now a v w) (compute_same (y.told_kind now.value) (x.told_kind first.value) (y.told_argument now.value) (x.told_argument first.value) i.kind i.argument) (c.in-Ok.ensures.alone_reply alone))

pub returns-in-Ok-clause-alone_left : goal.returns-in-Ok-clause-alone_left
returns-in-Ok-clause-alone_left g c = runs_since (LeavesBy c.in-Ok.wrote (sizes c.args.self.now) c.args.key.now) (state c.args.pass.now) (state c.loop.pass) (table_state c.try_compute.new.pass) c.loop.invariant.waits c.in-Ok.ensures.alone_left

pub loop-preserved : goal.loop-preserved
loop-preserved g c = let call = call_of c.args.pass.now in let u = state c.args.pass.now in let v = state c.loop.pass in let w = table_state c.try_compute.new.pass in let i = c.loop.invariant in
    let first = c.args.recipe.now in let now = c.loop.recipe in let next = c.try_compute.new.recipe in let x = goal.Recipe-dyn g (first.vtable, first.value) in let y = goal.Recipe-dyn g (now.vtable, now.value) in let t = goal.Recipe-dyn g (next.vtable, next.value) in record {
      next = tt;
      stays = scratch_both (pass_of c.args.pass.now) (pass_of c.loop.pass) c.try_compute.new.pass i.stays c.try_compute.ensures.own;
      refused = refuses_both call u v w i.refused (subst (λ (k : ℕ). Refuses k v w) i.stays.call c.in_default.ensures.busy.refused);
      waits = waits_again u v w i.waits c.in_default.ensures.busy.alone;
      counted = let e = c.in_default.ensures.uncounted in let f = i.counted in omega arith;
      kind = same_both RecipeKind (t.told_kind next.value) (y.told_kind now.value) (x.told_kind first.value) c.try_compute.ensures.told.0 i.kind;
      argument = same_both ℕ (t.told_argument next.value) (y.told_argument now.value) (x.told_argument first.value) c.try_compute.ensures.told.1 i.argument;
      fed = says_both (x.fed first.value) (y.fed now.value) (t.fed next.value) i.fed c.in_default.ensures.unfed;
    }

-- what the recipe was fed

pub returns-in-Ok-clause-fed : goal.returns-in-Ok-clause-fed
returns-in-Ok-clause-fed g c = let first = c.args.recipe.now in let now = c.loop.recipe in let next = c.try_compute.new.recipe in let x = goal.Recipe-dyn g (first.vtable, first.value) in let y = goal.Recipe-dyn g (now.vtable, now.value) in let t = goal.Recipe-dyn g (next.vtable, next.value) in
    feeds_since (Ok c.in-Ok.wrote) c.args.key.now (x.fed first.value) (y.fed now.value) (t.fed next.value) (table_state c.try_compute.new.pass) c.loop.invariant.fed c.in-Ok.ensures.fed

pub returns-in-Ok-clause-alone_fed : goal.returns-in-Ok-clause-alone_fed
returns-in-Ok-clause-alone_fed g c = let first = c.args.recipe.now in let now = c.loop.recipe in let next = c.try_compute.new.recipe in let x = goal.Recipe-dyn g (first.vtable, first.value) in let y = goal.Recipe-dyn g (now.vtable, now.value) in let t = goal.Recipe-dyn g (next.vtable, next.value) in λ alone.
    feeds_alone (Ok c.in-Ok.wrote) (sizes c.args.self.now) (call_of c.args.pass.now) c.args.key.now (Compute (x.told_kind first.value) (x.told_argument first.value)) (x.fed first.value) (t.fed next.value) (state c.args.pass.now) (table_state c.try_compute.new.pass) alone
    (returns-in-Ok-clause-wrote g c) (returns-in-Ok-clause-alone_reply g c) (returns-in-Ok-clause-fed g c)

use Rattle.std.proofs.Common.{◌≡◌}
use Rattle.oak_core.specs.Scratch.{StaysButScratch}
use Rattle.point_ops.specs.Replies.{Refuses}
use Rattle.value_ops.specs.Recipes.{SaysTheSame}
use Rattle.oak_map.specs.Maps.{call_of, pass_of, state}
use Rattle.oak_map.proofs.LoneRetries.{Waits}
use Rattle.oak_map.proofs.map.OakMap.compute.Given as goal

abbrev pub invariant-loop : goal.invariant-loop
invariant-loop g l = record {
  next : (goal.iterator-loop g).can_next l.iterator';
  stays : StaysButScratch (pass_of l.fn.pass) (pass_of l.pass);
  refused : Refuses (call_of l.fn.pass) (state l.fn.pass) (state l.pass);
  waits : Waits (state l.fn.pass) (state l.pass);
  counted : (goal.Recipe-dyn g (l.recipe.vtable, l.recipe.value)).calls l.recipe.value ≡ (goal.Recipe-dyn g (l.fn.recipe.vtable, l.fn.recipe.value)).calls l.fn.recipe.value;
  kind : (goal.Recipe-dyn g (l.recipe.vtable, l.recipe.value)).told_kind l.recipe.value ≡ (goal.Recipe-dyn g (l.fn.recipe.vtable, l.fn.recipe.value)).told_kind l.fn.recipe.value;
  argument : (goal.Recipe-dyn g (l.recipe.vtable, l.recipe.value)).told_argument l.recipe.value ≡ (goal.Recipe-dyn g (l.fn.recipe.vtable, l.fn.recipe.value)).told_argument l.fn.recipe.value;
  fed : SaysTheSame ((goal.Recipe-dyn g (l.fn.recipe.vtable, l.fn.recipe.value)).fed l.fn.recipe.value) ((goal.Recipe-dyn g (l.recipe.vtable, l.recipe.value)).fed l.recipe.value);
}

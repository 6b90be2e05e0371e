use Rattle.std.proofs.Common.{◌≡◌, ◌≤◌}
use Rattle.oak_model.specs.declared.cells.CellCall.TheVariants.{Compute}
use Rattle.oak_core.specs.Passes.{call_of, key as sizes, state}
use Rattle.oak_core.specs.Scratch.{StaysButScratch}
use Rattle.value_ops.specs.Recipes.{SaysTheSame}
use Rattle.oak_map.specs.GivingUp.{IsHalted}
use Rattle.oak_map.proofs.RepeatedTries.{Tried}
use Rattle.oak_map.proofs.bare.compute.try_compute.Given as goal

abbrev pub invariant-loop : goal.invariant-loop
invariant-loop g l = record {
  stays : StaysButScratch l.fn.pass l.pass;
  few : l.counter ≤ l.looks;
  tried : Tried (IsHalted (sizes l.table) (call_of l.fn.pass) l.key (Compute ((goal.Recipe-dyn g (l.fn.recipe.vtable, l.fn.recipe.value)).told_kind l.fn.recipe.value) ((goal.Recipe-dyn g (l.fn.recipe.vtable, l.fn.recipe.value)).told_argument l.fn.recipe.value)))
      (call_of l.fn.pass) l.counter (state l.fn.pass) (state l.pass);
  counted : (goal.Recipe-dyn g (l.recipe.vtable, l.recipe.value)).calls l.recipe.value ≡ (goal.Recipe-dyn g (l.fn.recipe.vtable, l.fn.recipe.value)).calls l.fn.recipe.value;
  kind : (goal.Recipe-dyn g (l.recipe.vtable, l.recipe.value)).told_kind l.recipe.value ≡ (goal.Recipe-dyn g (l.fn.recipe.vtable, l.fn.recipe.value)).told_kind l.fn.recipe.value;
  argument : (goal.Recipe-dyn g (l.recipe.vtable, l.recipe.value)).told_argument l.recipe.value ≡ (goal.Recipe-dyn g (l.fn.recipe.vtable, l.fn.recipe.value)).told_argument l.fn.recipe.value;
  fed : SaysTheSame ((goal.Recipe-dyn g (l.fn.recipe.vtable, l.fn.recipe.value)).fed l.fn.recipe.value) ((goal.Recipe-dyn g (l.recipe.vtable, l.recipe.value)).fed l.recipe.value);
}

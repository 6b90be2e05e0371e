use Rattle.std.proofs.Common.{◌≡◌}
use Rattle.oak_core.specs.MayWrite.{IsNewCall}
use Rattle.oak_core.specs.Passes.{state, call_of}
use Rattle.oak_core.specs.Scratch.{StaysButScratch}
use Rattle.point_ops.specs.TestStates.{IsReadyAgain}
use Rattle.call_tests.proofs.keys.tests.flip.Given as goal

abbrev pub invariant-loop : goal.invariant-loop
invariant-loop g l = record {
  own : StaysButScratch l.fn.pass l.pass;
  ready : IsReadyAgain (call_of l.fn.pass) (state l.fn.pass) (state l.pass);
  turn : IsNewCall (call_of l.fn.pass) (state l.pass);
  few : (goal.Recipe-dyn g (l.recipe.vtable, l.recipe.value)).calls l.recipe.value ≡ (goal.Recipe-dyn g (l.fn.recipe.vtable, l.fn.recipe.value)).calls l.fn.recipe.value;
}

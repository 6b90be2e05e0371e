use Rattle.std.proofs.Common.{◌≡◌, ◌+◌, ◌≤◌, take}
use Rattle.oak_map.specs.Maps.{IsReady, call_of, sizes, state}
use Rattle.oak_run.specs.CallTurns.{times_computed}
use Rattle.oak_run.specs.Working.{Working}
use Rattle.oak_run.proofs.worker.run_calls.Given as goal

abbrev pub invariant-loop-call : goal.invariant-loop-call
invariant-loop-call g l = record {
  ready : IsReady l.map l.pass;
  call : call_of l.pass ≡ l.call-index;
  number : l.call_number ≡ l.call-index;
  few : l.computed ≤ l.call-index;
  counted : l.computed ≡ times_computed l.replies.items;
  rose : (goal.Recipe-dyn g (l.recipe.vtable, l.recipe.value)).calls l.recipe.value ≡ (goal.Recipe-dyn g (l.fn.recipe.vtable, l.fn.recipe.value)).calls l.fn.recipe.value + l.computed;
  working : Working (sizes l.map) (state l.fn.pass) (state l.pass) l.holds (take l.call-index l.thread) l.replies.items;
}

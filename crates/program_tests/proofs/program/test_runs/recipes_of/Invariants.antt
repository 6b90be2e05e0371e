use Rattle.std.proofs.Common.{◌≡◌, ◌<◌, ◌^◌, length}
use Rattle.std.specs.List.{AllByRecursion}
use Rattle.program_tests.proofs.program.test_runs.recipes_of.Given as goal

abbrev pub invariant-loop : goal.invariant-loop
invariant-loop g l = record {
  made : length l.recipes.items ≡ l.counter;
  counts : AllByRecursion (λ r. (goal.Recipe-dyn g (r.vtable, r.value)).calls r.value < 2 ^ 63) l.recipes.items;
}

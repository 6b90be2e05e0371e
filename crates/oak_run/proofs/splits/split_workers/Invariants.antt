use Rattle.std.proofs.Common.{◌≡◌, ◌+◌, ◌++◌, ◌<◌, ◌≤◌, ◌^◌, length, map, vec_capacity}
use Rattle.std.specs.List.{AllByRecursion}
use Rattle.oak_map.specs.Maps.{IsReady, sizes, state}
use Rattle.oak_run.specs.SplitPasses.{HasSplit}
use Rattle.oak_run.specs.Workers.{IsFresh}
use Rattle.oak_run.proofs.splits.split_workers.Given as goal

abbrev pub invariant-loop-i : goal.invariant-loop-i
invariant-loop-i g l = record {
  ready : IsReady l.map l.first;
  split : HasSplit (sizes l.map) (state l.first) (map (λ w. (state w.pass).numbers) l.workers.items);
  fresh : AllByRecursion (λ w. IsFresh l.map w.pass) l.workers.items;
  counts : AllByRecursion (λ w. (goal.Recipe-dyn g (w.recipe.vtable, w.recipe.value)).calls w.recipe.value < 2 ^ 63) l.workers.items;
  made : length l.workers.items ≡ l._i;
  room : l.threads ≤ vec_capacity l.workers;
  left : l.threads ≤ length l.recipes.items + l._i;
  moved : map (λ w. w.recipe) l.workers.items ++ l.recipes.items ≡ l.fn.recipes.items;
  capacity : vec_capacity l.recipes ≡ vec_capacity l.fn.recipes;
  unused : AllByRecursion (λ r. (goal.Recipe-dyn g (r.vtable, r.value)).calls r.value < 2 ^ 63) l.recipes.items;
}

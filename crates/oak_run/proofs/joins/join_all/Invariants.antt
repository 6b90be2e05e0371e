use Rattle.std.proofs.Common.{◌≡◌, ◌+◌, ◌++◌, ◌≤◌, Some, drop, length, map, take, vec_capacity}
use Rattle.std.specs.Prelude.{MatchBool, ⊤}
use Rattle.oak_map.specs.Maps.{IsReady, state}
use Rattle.oak_run.specs.SplitPasses.{joined_passes}
use Rattle.oak_run.proofs.joins.join_all.Given as goal

abbrev pub invariant-loop-i : goal.invariant-loop-i
invariant-loop-i g l = record {
  ready : IsReady l.map l.first;
  left : l.workers.items ≡ drop l.i l.fn.workers.items;
  joined : state l.first ≡ joined_passes (state l.fn.first) (map (λ w. state w.pass) (take l.i l.fn.workers.items));
  recipes : l.recipes.items ≡ map (λ w. w.recipe) (take l.i l.fn.workers.items) ++ l.fn.recipes.items;
  room : length l.fn.workers.items + length l.fn.recipes.items ≤ vec_capacity l.recipes;
  answers : MatchBool l.whole (map (λ w. w.answered) (take l.i l.fn.workers.items) ≡ map (λ a. Some a) l.answers.items) ⊤;
}

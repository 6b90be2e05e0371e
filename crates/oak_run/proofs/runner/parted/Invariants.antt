use Rattle.std.proofs.Common.{◌≡◌, ◌++◌, map}
use Rattle.oak_run.proofs.runner.parted.Given as goal

abbrev pub invariant-loop-answered : goal.invariant-loop-answered
invariant-loop-answered l = (l.replies.items ++ map (λ a. a.replies) l.answered-iterator.rest.items ≡ map (λ a. a.replies) l.fn.answers.items) × (l.recipe_calls.items ++ map (λ a. a.computed) l.answered-iterator.rest.items ≡ map (λ a. a.computed) l.fn.answers.items)

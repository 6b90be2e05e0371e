use Rattle.std.proofs.Common.{◌∙◌, ap, map, sym}
use Rattle.oak_run.specs.LentRecipes.{risen}
use Rattle.oakmap.proofs.workloads.summary_text.Goals as goal

pub returns-clause-printed : goal.returns-clause-printed
returns-clause-printed g c =
    (c.in_ok-text.ensures.0, c.in_ok-ran.ensures.rose ∙ ap (risen (map (λ r. (goal.Recipe-dyn g (r.vtable, r.value)).calls r.value) c.args.recipes.now.items)) (sym c.in_ok-text.ensures.1))

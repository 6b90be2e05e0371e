use Rattle.oak_run.proofs.ScriptRuns.{runs_script}
use Rattle.oak_run.proofs.runner.run_script_lent.Goals as goal

pub returns-clause-runs : goal.returns-clause-runs
returns-clause-runs g c =
    runs_script c.args.script.now c.in_ok-answers.answers.items c.in_ok-answers.finals.items c.in_ok-answers.closed c.in_ok-replies.replies.items c.in_ok-replies.recipe_calls.items c.in_ok-answers.ensures.runs c.in_ok-replies.ensures.0 c.in_ok-replies.ensures.1

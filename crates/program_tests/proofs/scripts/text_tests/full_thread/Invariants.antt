use Rattle.oak_script.specs.Text.{CallsAnswered}
use Rattle.program_tests.proofs.scripts.text_tests.full_thread.Given as goal

abbrev pub invariant-loop-lack : goal.invariant-loop-lack
invariant-loop-lack l = CallsAnswered l.thread.calls.items l.thread.replies.items

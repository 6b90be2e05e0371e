use Rattle.oak_script.proofs.Answered.{CallsAnswered-push}
use Rattle.program_tests.proofs.scripts.text_tests.Thread.add.Goals as goal

pub returns : goal.returns
returns c =
    rw (c.in_ok-push.ensures.items, c.in_ok-push-2.ensures.items) (CallsAnswered-push _ _ _ _ c.requires.answered c.requires.one)

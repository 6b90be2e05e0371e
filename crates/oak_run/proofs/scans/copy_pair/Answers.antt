use Rattle.oak_run.proofs.GatherLaws.{keeps_self}
use Rattle.oak_run.proofs.scans.copy_pair.Goals as goal

pub returns-in_err-key-clause-keeps : goal.returns-in_err-key-clause-keeps
returns-in_err-key-clause-keeps c = keeps_self c.args.cursor.now c.requires.cursor

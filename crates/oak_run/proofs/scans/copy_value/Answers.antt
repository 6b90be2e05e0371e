use Rattle.oak_run.proofs.GatherLaws.{reads_keeps}
use Rattle.oak_run.proofs.scans.copy_value.Goals as goal

pub returns-clause-keeps : goal.returns-clause-keeps
returns-clause-keeps c = reads_keeps c.args.cursor.now c.copy_into.new.self c.copy_into.ensures.reads

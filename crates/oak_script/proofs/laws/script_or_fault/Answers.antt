use Rattle.oak_script.proofs.LawLemmas.{script_or_fault, script_not_fault, one_script, same_fault}
use Rattle.oak_script.proofs.laws.script_or_fault.Goals as goal

pub returns-clause-either : goal.returns-clause-either
returns-clause-either c = script_or_fault c.args.text.now

pub returns-clause-never_both : goal.returns-clause-never_both
returns-clause-never_both c = script_not_fault c.args.text.now

pub returns-clause-one_script : goal.returns-clause-one_script
returns-clause-one_script c = one_script c.args.text.now

pub returns-clause-one_fault : goal.returns-clause-one_fault
returns-clause-one_fault c = same_fault c.args.text.now

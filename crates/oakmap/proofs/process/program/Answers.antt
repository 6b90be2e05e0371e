use Rattle.std.proofs.Common.{rules, Some}
use Rattle.oakmap.specs.declared.commands.Command.TheVariants.{Run}
use Rattle.oakmap.specs.declared.status.Status.TheVariants.{NoMemory}
use Rattle.oakmap.proofs.process.program.Goals as goal

pub returns-in-Err-2 : goal.returns-in-Err-2
returns-in-Err-2 g c = (NoMemory, Some Run, search rules, search rules)

pub returns-in_default : goal.returns-in_default
returns-in_default g c = (NoMemory, Some Run, search rules, search rules)

pub returns-then-is_err : goal.returns-then-is_err
returns-then-is_err g c = (NoMemory, Some Run, search rules, search rules)

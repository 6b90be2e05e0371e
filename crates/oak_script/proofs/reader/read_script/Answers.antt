use Rattle.oak_script.proofs.LawLemmas.{only_by}
use Rattle.oak_script.proofs.reader.read_script.Goals as goal

pub returns-clause-only : goal.returns-clause-only
returns-clause-only c = only_by c.read_lines.result c.args.text.now c.read_lines.ensures.exact c.read_lines.ensures.found

use Rattle.outside.proofs.Read.{rest_behind}
use Rattle.outside.proofs.cut_source.CutSourceSource.read.Goals as goal

pub returns-clause-rest : goal.returns-clause-rest
returns-clause-rest c = rest_behind c.read.result c.let_through-asked.result c.args.piece.now c.read.new.piece c.read.auto.piece c.read.ensures.bound c.read.ensures.rest

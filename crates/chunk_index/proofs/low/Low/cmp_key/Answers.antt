use Rattle.std.proofs.Common.{rules}
use Rattle.chunk_index.proofs.HeadLaws.{heads_decide}
use Rattle.chunk_index.proofs.low.Low.cmp_key.Goals as goal

pub returns-in_default : goal.returns-in_default
returns-in_default c = heads_decide c.args.self.now.0 c.args.key.now c.cmp.result (search rules) (search rules) (search rules) (search rules)

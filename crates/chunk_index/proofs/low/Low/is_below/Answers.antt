use Rattle.std.proofs.Common.{rules}
use Rattle.chunk_index.proofs.HeadLaws.{head_less}
use Rattle.chunk_index.proofs.low.Low.is_below.Goals as goal

pub returns : goal.returns
returns c less = head_less c.args.self.now.0 c.args.key.now (search rules) (search rules) (search rules)

use Rattle.std.proofs.Common.{rules}
use Rattle.chunk_index.proofs.HeadLaws.{head_more}
use Rattle.chunk_index.proofs.low.Low.is_above.Goals as goal

pub returns : goal.returns
returns c more = head_more c.args.self.now.0 c.args.key.now (search rules) (search rules) (search rules)

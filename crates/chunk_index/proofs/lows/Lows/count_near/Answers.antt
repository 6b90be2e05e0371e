use Rattle.chunk_index.proofs.lows.Lows.count_near.Goals as goal

pub returns-then-parts_by_heads-clause-point : goal.returns-then-parts_by_heads-clause-point
returns-then-parts_by_heads-clause-point c = c.parts_by_heads.ensures.point c.if-parts_by_heads.true c.args.equal

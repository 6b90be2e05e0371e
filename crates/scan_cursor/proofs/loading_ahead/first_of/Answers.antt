use Rattle.std.proofs.Common.{◌<◌, ℕ, subst, arith}
use Rattle.scan_cursor.proofs.BlocksAhead.{some_words}
use Rattle.scan_cursor.proofs.loading_ahead.first_of.Goals as goal

pub bytes_at-requires-clause-block : goal.bytes_at-requires-clause-block
bytes_at-requires-clause-block c = subst (λ (n : ℕ). 0 < n) c.requires (let t = c.if-many-gt0.true in omega arith)

pub bytes_at-requires-clause-inside : goal.bytes_at-requires-clause-inside
bytes_at-requires-clause-inside c = some_words c.args.class

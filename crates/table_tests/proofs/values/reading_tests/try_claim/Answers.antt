use Rattle.oak_core.specs.Passes.{state, key, call_of}
use Rattle.value_ops.proofs.ClaimLaws.{claims_owned}
use Rattle.table_tests.proofs.values.reading_tests.try_claim.Goals as goal

pub returns-in-Ok-clause-owned : goal.returns-in-Ok-clause-owned
returns-in-Ok-clause-owned c = claims_owned (key c.args.table.now) (call_of c.args.pass.now) _ (state c.args.pass.now) (state c.claim.new.pass) c.in-Ok.ensures.claimed

use Rattle.std.proofs.Common.{subst, IfOk, Result}
use Rattle.oak_core.specs.Passes.{state, key, call_of}
use Rattle.value_ops.specs.declared.claiming.Owned.{Owned}
use Rattle.value_ops.specs.declared.claiming.NoHeader.{NoHeader}
use Rattle.value_ops.specs.Claiming.{ClaimsHeader}
use Rattle.value_ops.proofs.ClaimLaws.{claims_owned}
use Rattle.value_ops.proofs.OneHeaderLaws.{claimed_one, claimed_else, claimed_blocks}
use Rattle.table_tests.proofs.values.claiming_tests.claim_one.Goals as goal

pub returns-clause-rest : goal.returns-clause-rest
returns-clause-rest g c = claimed_else (key c.args.table.now) (call_of c.args.pass.now) (state c.args.pass.now) (state c.claim.new.pass) c.expect.result.header
    (subst (λ (r : Result Owned NoHeader). IfOk r (λ (o : Owned). ClaimsHeader (key c.args.table.now) (call_of c.args.pass.now) o.header (state c.args.pass.now) (state c.claim.new.pass))) c.expect.ensures c.claim.ensures.claimed)

pub returns-clause-kept_blocks : goal.returns-clause-kept_blocks
returns-clause-kept_blocks g c = claimed_blocks (key c.args.table.now) (call_of c.args.pass.now) (state c.args.pass.now) (state c.claim.new.pass) c.expect.result.header
    (subst (λ (r : Result Owned NoHeader). IfOk r (λ (o : Owned). ClaimsHeader (key c.args.table.now) (call_of c.args.pass.now) o.header (state c.args.pass.now) (state c.claim.new.pass))) c.expect.ensures c.claim.ensures.claimed)

pub returns-clause-owned : goal.returns-clause-owned
returns-clause-owned g c = claims_owned (key c.args.table.now) (call_of c.args.pass.now) c.expect.result.header (state c.args.pass.now) (state c.claim.new.pass)
    (subst (λ (r : Result Owned NoHeader). IfOk r (λ (o : Owned). ClaimsHeader (key c.args.table.now) (call_of c.args.pass.now) o.header (state c.args.pass.now) (state c.claim.new.pass))) c.expect.ensures c.claim.ensures.claimed)

pub returns-clause-one : goal.returns-clause-one
returns-clause-one g c = claimed_one (key c.args.table.now) (call_of c.args.pass.now) (state c.args.pass.now) (state c.claim.new.pass) c.expect.result.header c.requires.none
    (subst (λ (r : Result Owned NoHeader). IfOk r (λ (o : Owned). ClaimsHeader (key c.args.table.now) (call_of c.args.pass.now) o.header (state c.args.pass.now) (state c.claim.new.pass))) c.expect.ensures c.claim.ensures.claimed)

use Rattle.std.proofs.Common.{◌<◌, sym, ap, ◌∙◌, subst}
use Rattle.header_core.specs.declared.states.TheConstants.{OWNED}
use Rattle.header_core.specs.declared.holds.HeaderHolds.{HeaderHolds}
use Rattle.header_core.specs.HeaderHolds.{in_state}
use Rattle.oak_core.specs.declared.states.PassState.{PassState}
use Rattle.oak_core.specs.Passes.{state, key, call_of}
use Rattle.value_ops.proofs.OneHeaderLaws.{one_same, released_none, released_else, else_on}
use Rattle.table_tests.proofs.values.claiming_tests.claim_and_release.Goals as goal

pub release-requires-clause-owned : goal.release-requires-clause-owned
release-requires-clause-owned g c = subst (λ (a : HeaderHolds). 0 < in_state c.claim_one-owned.result.header OWNED a) (sym c.none_left.ensures.headers) c.claim_one-owned.ensures.owned

pub returns-clause-rest : goal.returns-clause-rest
returns-clause-rest g c = let x = state c.none_left.new.pass in
    else_on (state c.args.pass.now) x (state c.release.new.pass) (else_on (state c.args.pass.now) (state c.claim_one-owned.new.pass) x c.claim_one-owned.ensures.rest c.none_left.ensures.rest)
    (released_else (key c.args.table.now) (call_of c.none_left.new.pass) x (state c.release.new.pass) c.claim_one-owned.result.header c.release.ensures.released)

pub returns-clause-kept_blocks : goal.returns-clause-kept_blocks
returns-clause-kept_blocks g c = ap (λ (y : PassState). y.blocks) c.release.ensures.released.after ∙ (c.none_left.ensures.kept_blocks ∙ c.claim_one-owned.ensures.kept_blocks)

pub returns-clause-no_header : goal.returns-clause-no_header
returns-clause-no_header g c = let h = c.claim_one-owned.result.header in let x = state c.none_left.new.pass in
    released_none (key c.args.table.now) (call_of c.none_left.new.pass) x (state c.release.new.pass) h (one_same h (state c.claim_one-owned.new.pass).headers x.headers c.none_left.ensures.headers c.claim_one-owned.ensures.one) c.release.ensures.released

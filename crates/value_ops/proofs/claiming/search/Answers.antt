use Rattle.std.proofs.Common.{◌≤◌, ◌<◌}
use Rattle.oak_model.specs.Limits.{Sizes}
use Rattle.oak_core.specs.Passes.{state, key, call_of}
use Rattle.value_ops.specs.Claiming.{Looked, FindsNoneFree, ClaimsHeader}
use Rattle.value_ops.proofs.ClaimLaws.{if_none, if_some, claims_behind, looked_in, claims_in, all_round}
use Rattle.value_ops.proofs.claiming.search.Goals as goal

pub returns-clause-claimed : goal.returns-clause-claimed
returns-clause-claimed c = let z : Sizes = key c.args.table.now in let call = call_of c.args.pass.now in let first = c.min-first.result in let count = c.headers-headers.result in
    let v = state c.args.pass.now in let w = state c.claim_between.new.pass in let x = state c.claim_between-2.new.pass in
    if_some c.claim_between-2.result (λ h. ClaimsHeader z (call_of c.claim_between.new.pass) h w x) (λ h. ClaimsHeader z call h v x)
    (λ h t. claims_behind z call h v w x (λ k. (first ≤ k) × (k < count)) c.in_default.ensures.none (claims_in z call (call_of c.claim_between.new.pass) w x c.claim_between.ensures.own.call h t))
    c.claim_between-2.ensures.claimed

pub returns-clause-none : goal.returns-clause-none
returns-clause-none c = let z : Sizes = key c.args.table.now in let call = call_of c.args.pass.now in let first = c.min-first.result in let count = c.headers-headers.result in
    let v = state c.args.pass.now in let w = state c.claim_between.new.pass in let x = state c.claim_between-2.new.pass in
    if_none c.claim_between-2.result (Looked z (call_of c.claim_between.new.pass) w x (λ h. (0 ≤ h) × (h < first))) (FindsNoneFree z call v x)
    (λ l. all_round z call first count v w x c.headers-headers.ensures.is c.in_default.ensures.none (looked_in z call (call_of c.claim_between.new.pass) w x c.claim_between.ensures.own.call (λ h. (0 ≤ h) × (h < first)) l))
    c.claim_between-2.ensures.none

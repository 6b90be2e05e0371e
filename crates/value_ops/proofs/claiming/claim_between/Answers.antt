use Rattle.std.proofs.Common.{◌≡◌, ◌≤◌, ◌<◌, arith}
use Rattle.oak_model.specs.Limits.{Sizes}
use Rattle.oak_core.specs.Passes.{state, key, call_of}
use Rattle.oak_core.proofs.seats.SamePass.{stays_both}
use Rattle.value_ops.proofs.ClaimLaws.{claims_behind, looked_in, claims_in, next_header, names_pin, pin_room, looked_only, looked_none}
use Rattle.value_ops.proofs.claiming.claim_between.Goals as goal

pub loop-header-preserved : goal.loop-header-preserved
loop-header-preserved c = let z : Sizes = key c.args.table.now in let call = call_of c.args.pass.now in let v = state c.args.pass.now in let w = state c.loop-header.pass in let x = state c.claim_one.new.pass in record {
  stays = stays_both c.loop-header.invariant.stays c.claim_one.ensures.own;
  looked = next_header z call c.args.from c.loop-header.header v w x c.loop-header.invariant.looked
      (looked_in z call (call_of c.loop-header.pass) w x c.loop-header.invariant.stays.call (λ h. h ≡ c.loop-header.header) (c.claim_one.ensures.taken c.loop-header.header (names_pin z c.loop-header.header c.args.to c.pin_at-last.result (omega arith) c.requires.inside c.pin_at-last.ensures) c.if-claim_one.false));
}

pub returns-then-claim_one-clause-claimed : goal.returns-then-claim_one-clause-claimed
returns-then-claim_one-clause-claimed c = let z : Sizes = key c.args.table.now in let call = call_of c.args.pass.now in let v = state c.args.pass.now in let w = state c.loop-header.pass in let x = state c.claim_one.new.pass in
    claims_behind z call c.loop-header.header v w x (λ h. (c.args.from ≤ h) × (h < c.loop-header.header)) c.loop-header.invariant.looked
    (claims_in z call (call_of c.loop-header.pass) w x c.loop-header.invariant.stays.call c.loop-header.header (c.claim_one.ensures.claimed c.loop-header.header (names_pin z c.loop-header.header c.args.to c.pin_at-last.result (omega arith) c.requires.inside c.pin_at-last.ensures) c.if-claim_one.true))

pub overflow_mul-behind : goal.overflow_mul-behind
overflow_mul-behind c = let room = pin_room (key c.args.table.now) c.loop-header.header c.args.to c.pin_at-last.result (omega arith) c.requires.inside c.pin_at-last.ensures in let small = c.pin_at-last.type_inv in omega arith

pub overflow_sub-last : goal.overflow_sub-last
overflow_sub-last c = let room = pin_room (key c.args.table.now) c.loop-header.header c.args.to c.pin_at-last.result (omega arith) c.requires.inside c.pin_at-last.ensures in omega arith

pub claim_one-requires-clause-names : goal.claim_one-requires-clause-names
claim_one-requires-clause-names c = (c.loop-header.header, names_pin (key c.args.table.now) c.loop-header.header c.args.to c.pin_at-last.result (omega arith) c.requires.inside c.pin_at-last.ensures)

pub returns-clause-none : goal.returns-clause-none
returns-clause-none c = looked_only (key c.args.table.now) (call_of c.args.pass.now) (state c.args.pass.now) (state c.loop-header.pass) (λ h. (c.args.from ≤ h) × (h < c.loop-header.header)) (λ h. (c.args.from ≤ h) × (h < c.args.to))
    (λ h lh q. let t = c.loop-header-test.false in (q.0, (let l = q.1 in omega arith))) c.loop-header.invariant.looked

pub returns-then-from-to-clause-none : goal.returns-then-from-to-clause-none
returns-then-from-to-clause-none c = looked_none (key c.args.table.now) (call_of c.args.pass.now) (state c.args.pass.now) (λ h. (c.args.from ≤ h) × (h < c.args.to)) (λ h q. let t = c.if-from-to.true in let a = q.0 in let b = q.1 in omega arith)

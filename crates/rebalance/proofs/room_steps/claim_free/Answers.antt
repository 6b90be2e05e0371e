use Rattle.std.proofs.Common.{◌≢◌, ℕ, subst}
use Rattle.oak_model.specs.Limits.{Sizes}
use Rattle.chunk_core.specs.declared.holds.RoomCopy.{RoomCopy}
use Rattle.oak_core.specs.Passes.{state, key, call_of}
use Rattle.value_ops.proofs.ClaimLaws.{if_none, if_some}
use Rattle.rebalance.specs.Holding.{Claims, FindsNoneFree, FindsTaken}
use Rattle.rebalance.proofs.ClaimedRooms.{claims_since}
use Rattle.rebalance.proofs.OtherClaims.{others_both}
use Rattle.rebalance.proofs.TakenRooms.{none_round}
use Rattle.rebalance.proofs.room_steps.claim_free.Goals as goal

pub returns-clause-claims : goal.returns-clause-claims
returns-clause-claims c = let z : Sizes = key c.args.table.now in let call = call_of c.args.pass.now in let later = call_of c.claim_between.new.pass in let u = state c.args.pass.now in let v = state c.claim_between.new.pass in let w = state c.claim_between-2.new.pass in let but = c.args.but in
    if_some c.claim_between-2.result (λ r. (r ≢ but) × ((copy : RoomCopy) × Claims z later r copy v w)) (λ r. (r ≢ but) × ((copy : RoomCopy) × Claims z call r copy u w))
    (λ r p. (p.0, claims_since z call r u v w c.in_default.ensures.none.only (subst (λ (k : ℕ). (copy : RoomCopy) × Claims z k r copy v w) c.claim_between.ensures.own.call p.1)))
    c.claim_between-2.ensures.claims

pub returns-clause-none : goal.returns-clause-none
returns-clause-none c = let z : Sizes = key c.args.table.now in let call = call_of c.args.pass.now in let later = call_of c.claim_between.new.pass in let u = state c.args.pass.now in let v = state c.claim_between.new.pass in let w = state c.claim_between-2.new.pass in let but = c.args.but in let first = c.look_from-first.result in
    if_none c.claim_between-2.result (FindsTaken z later but 0 first v w) (FindsNoneFree z call but u w)
    (λ f. none_round z call but first u v w (subst (λ (n : ℕ). FindsTaken z call but first n u v) c.rooms-rooms.ensures.is c.in_default.ensures.none) (subst (λ (k : ℕ). FindsTaken z k but 0 first v w) c.claim_between.ensures.own.call f))
    c.claim_between-2.ensures.none

pub returns-clause-others : goal.returns-clause-others
returns-clause-others c = others_both (key c.args.table.now) c.args.but (state c.args.pass.now) (state c.claim_between.new.pass) (state c.claim_between-2.new.pass) c.claim_between.ensures.others c.claim_between-2.ensures.others

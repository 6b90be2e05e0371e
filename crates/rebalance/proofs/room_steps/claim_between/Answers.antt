use Rattle.std.proofs.Common.{◌≢◌, ℕ, ◌+◌, ◌<◌, ◌≤◌, refl, sym, ap, ◌∙◌, rules, subst, arith}
use Rattle.oak_model.specs.Limits.{Sizes}
use Rattle.chunk_core.specs.RoomHolds.{had_room}
use Rattle.chunk_core.specs.declared.holds.RoomCopy.{RoomCopy}
use Rattle.chunk_core.specs.declared.holds.RoomHolds.{RoomHolds}
use Rattle.oak_core.specs.declared.table.Pass.{Pass}
use Rattle.oak_core.specs.AloneWords.{Runs}
use Rattle.oak_core.specs.Passes.{Stays, state, key, call_of}
use Rattle.oak_core.proofs.calls.CallSteps.{met_none}
use Rattle.oak_core.proofs.seats.AloneRuns.{runs_none}
use Rattle.oak_core.proofs.seats.SamePass.{stays_both}
use Rattle.chunk_ops.specs.RoomPins.{HadMoment}
use Rattle.rebalance.specs.Holding.{Claims, ClaimsOthers, FindsUsed}
use Rattle.rebalance.proofs.ClaimedRooms.{claims_since, had_none, used_since, used_more}
use Rattle.rebalance.proofs.OtherClaims.{others_both}
use Rattle.rebalance.proofs.TakenRooms.{taken_but, taken_more, taken_upto}
use Rattle.rebalance.proofs.room_steps.claim_between.Goals.{else-room-but-via-then-room-but+else-try_claim, else-room-but-via-else-room-but}
use Rattle.rebalance.specs.LoneWords.{TakenBetween}
use Rattle.rebalance.specs.Resting.{OnlyTries, trying_both, trying_in}
use Rattle.rebalance.proofs.room_steps.claim_between.Goals as goal

pub returns-then-try_claim-clause-claims : goal.returns-then-try_claim-clause-claims
returns-then-try_claim-clause-claims c = let z : Sizes = key c.args.table.now in let call = call_of c.args.pass.now in let r = c.loop-room.room in let v = state c.loop-room.pass in let w = state c.try_claim.new.pass in let i = c.loop-room.invariant in
    (c.if-room-but.true, claims_since z call r (state c.args.pass.now) v w i.only (subst (λ (k : ℕ). (copy : RoomCopy) × Claims z k r copy v w) i.stays.call (c.try_claim.ensures.claims c.if-try_claim.true)))

pub returns-then-try_claim-clause-others : goal.returns-then-try_claim-clause-others
returns-then-try_claim-clause-others c = let z : Sizes = key c.args.table.now in let i = c.loop-room.invariant in
    others_both z c.args.but (state c.args.pass.now) (state c.loop-room.pass) (state c.try_claim.new.pass) i.others (c.try_claim.ensures.others c.args.but c.if-room-but.true)

pub loop-room-init : goal.loop-room-init
loop-room-init c = let z : Sizes = key c.args.table.now in let u = state c.args.pass.now in let from = c.args.from in record {
  stays = search rules;
  only = search rules;
  others = search rules;
  moment = λ h. h;
  used = λ r ge lt ne. absurd (omega arith);
  alone = runs_none (TakenBetween z c.args.but from from) u (λ a. (refl, λ r ge lt ne. absurd (omega arith)));
}

pub loop-room-preserved : goal.loop-room-preserved
loop-room-preserved c = let z : Sizes = key c.args.table.now in let call = call_of c.args.pass.now in let r = c.loop-room.room in let u = state c.args.pass.now in let v = state c.loop-room.pass in let i = c.loop-room.invariant in
    elim c.else-room-but.branch [
      | else-room-but-via-then-room-but+else-try_claim t ↦ (let w = state t.try_claim.new.pass in let only : OnlyTries call v w = trying_in call (call_of c.loop-room.pass) v w i.stays.call (t.try_claim.ensures.only t.if-try_claim.false) in record {
        stays = subst (λ (p : Pass). Stays c.args.pass.now p) (sym t.pass-is) (stays_both i.stays t.try_claim.ensures.own);
        only = subst (λ (p : Pass). OnlyTries call u (state p)) (sym t.pass-is) (trying_both call u v w i.only only);
        others = subst (λ (p : Pass). ClaimsOthers z c.args.but u (state p)) (sym t.pass-is) (others_both z c.args.but u v w i.others (t.try_claim.ensures.others c.args.but t.if-room-but.true));
        moment = λ _. subst (λ (p : Pass). HadMoment z (state p)) (sym t.pass-is) (t.try_claim.ensures.moment t.if-try_claim.false);
        used = subst (λ (p : Pass). (j : ℕ) → c.args.from ≤ j → j < r + 1 → j ≢ c.args.but → FindsUsed z u (state p) j) (sym t.pass-is) (used_more z call c.args.but c.args.from r u v w only.stands.met i.used
            (λ ne. used_since z call r u v w i.only.stands.met (t.try_claim.ensures.used t.if-try_claim.false (ap (had_room r) i.only.rooms ∙ had_none r c.args.but u.rooms c.requires.only ne))));
        alone = subst (λ (p : Pass). Runs (TakenBetween z c.args.but c.args.from (r + 1)) u (state p)) (sym t.pass-is) (taken_more z c.args.but c.args.from r u v w i.alone (t.try_claim.ensures.alone t.if-try_claim.false (ap (λ (a : RoomHolds). a.pin) i.only.rooms ∙ c.requires.only.pin)));
      })
      | else-room-but-via-else-room-but t ↦ record {
        stays = subst (λ (p : Pass). Stays c.args.pass.now p) (sym t.pass-is) i.stays;
        only = subst (λ (p : Pass). OnlyTries call u (state p)) (sym t.pass-is) i.only;
        others = subst (λ (p : Pass). ClaimsOthers z c.args.but u (state p)) (sym t.pass-is) i.others;
        moment = λ h. subst (λ (p : Pass). HadMoment z (state p)) (sym t.pass-is) (i.moment h);
        used = subst (λ (p : Pass). (j : ℕ) → c.args.from ≤ j → j < r + 1 → j ≢ c.args.but → FindsUsed z u (state p) j) (sym t.pass-is) (used_more z call c.args.but c.args.from r u v v (met_none call v) i.used (λ ne. absurd (ne t.if-room-but.false)));
        alone = subst (λ (p : Pass). Runs (TakenBetween z c.args.but c.args.from (r + 1)) u (state p)) (sym t.pass-is) (taken_but z c.args.but c.args.from r u v t.if-room-but.false i.alone);
      }
    ]

pub returns-clause-none : goal.returns-clause-none
returns-clause-none c = let z : Sizes = key c.args.table.now in let i = c.loop-room.invariant in let all : c.args.to ≤ c.loop-room.room = let no = c.loop-room-test.false in omega arith in let within = c.loop-room.room in
    record { used = λ r ge lt ne. i.used r ge (omega arith) ne; only = i.only; moment = i.moment; alone = taken_upto z c.args.but c.args.from c.args.to c.loop-room.room (state c.args.pass.now) (state c.loop-room.pass) all i.alone }

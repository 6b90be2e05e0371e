use Rattle.std.proofs.Common.{ℕ, refl, subst, arith}
use Rattle.oak_model.specs.declared.cells.CellCall.TheVariants.{Remove}
use Rattle.oak_core.specs.declared.states.PassState.{PassState}
use Rattle.oak_core.specs.Passes.{call_of, key as sizes, state}
use Rattle.oak_core.proofs.seats.SamePass.{stays_both}
use Rattle.point_ops.specs.LoneLeft.{LeavesBy}
use Rattle.point_ops.specs.LoneReplies.{WroteAlone}
use Rattle.point_ops.specs.Parts.{WroteFits}
use Rattle.oak_map.specs.GivingUp.{IsHalted}
use Rattle.oak_map.proofs.LoneRetries.{lone_since, runs_since}
use Rattle.oak_map.proofs.RepeatedTries.{halted_as, tried_all, tried_first, tried_more}
use Rattle.oak_map.proofs.RepliesSince.{holds_both, wrote_holds, wrote_since}
use Rattle.oak_map.proofs.bare.remove.try_remove.Goals as goal

pub returns-in-Ok-clause-wrote : goal.returns-in-Ok-clause-wrote
returns-in-Ok-clause-wrote c = let call = call_of c.args.pass.now in let u = state c.args.pass.now in let v = state c.loop.pass in let w = state c.try_remove.new.pass in
    wrote_since call u v w c.loop.invariant.tried.refused c.in-Ok.wrote c.args.key.now Remove (subst (λ (k : ℕ). WroteFits c.in-Ok.wrote k c.args.key.now Remove v w) c.loop.invariant.stays.call c.in-Ok.ensures.wrote)

pub returns-in-Ok-clause-holds : goal.returns-in-Ok-clause-holds
returns-in-Ok-clause-holds c = let v = state c.loop.pass in let w = state c.try_remove.new.pass in
    holds_both (state c.args.pass.now) v w c.loop.invariant.tried.refused.holds (wrote_holds c.in-Ok.wrote (call_of c.loop.pass) c.args.key.now Remove v w c.in-Ok.ensures.wrote)

-- to a pass that is alone
pub returns-in-Ok-clause-alone_reply : goal.returns-in-Ok-clause-alone_reply
returns-in-Ok-clause-alone_reply c = let w = state c.try_remove.new.pass in
    lone_since (λ (x : PassState). WroteAlone c.in-Ok.wrote (sizes c.args.table.now) c.args.key.now Remove x w) (state c.args.pass.now) (state c.loop.pass) c.loop.invariant.tried.waits c.in-Ok.ensures.alone_reply

pub returns-in-Ok-clause-alone_left : goal.returns-in-Ok-clause-alone_left
returns-in-Ok-clause-alone_left c = runs_since (LeavesBy c.in-Ok.wrote (sizes c.args.table.now) c.args.key.now) (state c.args.pass.now) (state c.loop.pass) (state c.try_remove.new.pass) c.loop.invariant.tried.waits c.in-Ok.ensures.alone_left

pub loop-preserved : goal.loop-preserved
loop-preserved c = let z = sizes c.args.table.now in let call = call_of c.args.pass.now in let key = c.args.key.now in let u = state c.args.pass.now in let v = state c.loop.pass in let w = state c.try_remove.new.pass in let i = c.loop.invariant in
    let e = c.in_default.ensures in let h = halted_as z (call_of c.loop.pass) call key Remove Remove c.in_default.field-0 v w i.stays.call refl e.halted e.either e.refused in record {
      stays = stays_both i.stays c.try_remove.ensures.own;
      few = let l = c.loop-test.true in omega arith;
      tried = tried_more (IsHalted z call key Remove) call c.loop.counter u v w i.tried h h.refused e.alone;
    }

pub loop-init : goal.loop-init
loop-init c = record {
  stays = record { table = refl; seat = refl; call = refl; scratch = refl; sorting = refl };
  few = omega arith;
  tried = tried_first (IsHalted (sizes c.args.table.now) (call_of c.args.pass.now) c.args.key.now Remove) (call_of c.args.pass.now) (state c.args.pass.now);
}

pub returns-clause-busy : goal.returns-clause-busy
returns-clause-busy c = tried_all (IsHalted (sizes c.args.table.now) (call_of c.args.pass.now) c.args.key.now Remove) (call_of c.args.pass.now) c.loop.counter c.args.looks (state c.args.pass.now) (state c.loop.pass) c.requires.some c.loop.invariant.few c.loop-test.false c.loop.invariant.tried

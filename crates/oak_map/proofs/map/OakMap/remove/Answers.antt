use Rattle.std.proofs.Common.{ℕ, subst}
use Rattle.oak_model.specs.declared.cells.CellCall.TheVariants.{Remove}
use Rattle.oak_core.specs.declared.states.PassState.{PassState}
use Rattle.oak_core.specs.Passes.{state as table_state}
use Rattle.oak_core.proofs.seats.SamePass.{stays_both}
use Rattle.point_ops.specs.LoneLeft.{LeavesBy}
use Rattle.point_ops.specs.LoneReplies.{WroteAlone}
use Rattle.point_ops.specs.Parts.{WroteFits}
use Rattle.point_ops.specs.Replies.{Refuses}
use Rattle.oak_map.specs.Maps.{call_of, sizes, state}
use Rattle.oak_map.proofs.LoneRetries.{lone_since, runs_since, waits_again}
use Rattle.oak_map.proofs.RepliesSince.{holds_both, refuses_both, wrote_holds, wrote_since}
use Rattle.oak_map.proofs.map.OakMap.remove.Goals as goal

pub returns-in-Ok-clause-wrote : goal.returns-in-Ok-clause-wrote
returns-in-Ok-clause-wrote g c = let call = call_of c.args.pass.now in let u = state c.args.pass.now in let v = state c.loop.pass in let w = table_state c.try_remove.new.pass in
    wrote_since call u v w c.loop.invariant.refused c.in-Ok.wrote c.args.key.now Remove (subst (λ (k : ℕ). WroteFits c.in-Ok.wrote k c.args.key.now Remove v w) c.loop.invariant.stays.call c.in-Ok.ensures.wrote)

pub returns-in-Ok-clause-holds : goal.returns-in-Ok-clause-holds
returns-in-Ok-clause-holds g c = let v = state c.loop.pass in let w = table_state c.try_remove.new.pass in
    holds_both (state c.args.pass.now) v w c.loop.invariant.refused.holds (wrote_holds c.in-Ok.wrote (call_of c.loop.pass) c.args.key.now Remove v w c.in-Ok.ensures.wrote)

-- to a pass that is alone
pub returns-in-Ok-clause-alone_reply : goal.returns-in-Ok-clause-alone_reply
returns-in-Ok-clause-alone_reply g c = let w = table_state c.try_remove.new.pass in
    lone_since (λ (x : PassState). WroteAlone c.in-Ok.wrote (sizes c.args.self.now) c.args.key.now Remove x w) (state c.args.pass.now) (state c.loop.pass) c.loop.invariant.waits c.in-Ok.ensures.alone_reply

pub returns-in-Ok-clause-alone_left : goal.returns-in-Ok-clause-alone_left
returns-in-Ok-clause-alone_left g c = runs_since (LeavesBy c.in-Ok.wrote (sizes c.args.self.now) c.args.key.now) (state c.args.pass.now) (state c.loop.pass) (table_state c.try_remove.new.pass) c.loop.invariant.waits c.in-Ok.ensures.alone_left

pub loop-preserved : goal.loop-preserved
loop-preserved g c = let call = call_of c.args.pass.now in let u = state c.args.pass.now in let v = state c.loop.pass in let w = table_state c.try_remove.new.pass in let i = c.loop.invariant in record {
  next = tt;
  stays = stays_both i.stays c.try_remove.ensures.own;
  refused = refuses_both call u v w i.refused (subst (λ (k : ℕ). Refuses k v w) i.stays.call c.in_default.ensures.busy.refused);
  waits = waits_again u v w i.waits c.in_default.ensures.busy.alone;
}

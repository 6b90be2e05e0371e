use Rattle.std.proofs.Common.{ℕ, subst}
use Rattle.oak_core.specs.QuietSteps.{IsQuiet}
use Rattle.oak_core.proofs.calls.QuietCalls.{only_both}
use Rattle.oak_core.proofs.seats.SamePass.{stays_both}
use Rattle.point_ops.specs.Gets.{GotFits}
use Rattle.point_ops.specs.LoneReplies.{GotAlone}
use Rattle.point_ops.specs.Replies.{Refuses}
use Rattle.oak_core.specs.declared.states.PassState.{PassState}
use Rattle.oak_core.specs.Passes.{state as table_state}
use Rattle.oak_map.specs.Maps.{StayAll, call_of, sizes, state}
use Rattle.oak_map.proofs.LoneRetries.{lone_since, runs_since, waits_again}
use Rattle.oak_map.proofs.RepliesSince.{got_holds, got_since, holds_both, refuses_both}
use Rattle.oak_map.proofs.map.OakMap.view.Goals as goal

pub returns-in-Ok-clause-got : goal.returns-in-Ok-clause-got
returns-in-Ok-clause-got g c = let z = sizes c.args.self.now in let call = call_of c.args.pass.now in let u = state c.args.pass.now in let v = state c.loop.pass in let w = table_state c.try_view.new.pass in
    got_since call u v w c.loop.invariant.refused c.in-Ok.got z c.args.key.now (subst (λ (k : ℕ). GotFits c.in-Ok.got z k c.args.key.now v w) c.loop.invariant.stays.call c.in-Ok.ensures.got)

pub returns-in-Ok-clause-holds : goal.returns-in-Ok-clause-holds
returns-in-Ok-clause-holds g c = let v = state c.loop.pass in let w = table_state c.try_view.new.pass in
    holds_both (state c.args.pass.now) v w c.loop.invariant.refused.holds (got_holds c.in-Ok.got (sizes c.args.self.now) (call_of c.loop.pass) c.args.key.now v w c.in-Ok.ensures.got)

pub returns-in-Ok-clause-quiet : goal.returns-in-Ok-clause-quiet
returns-in-Ok-clause-quiet g c = only_both IsQuiet (state c.args.pass.now) (state c.loop.pass) (table_state c.try_view.new.pass) c.loop.invariant.quiet c.try_view.ensures.quiet

-- to a pass that is alone

pub returns-in-Ok-clause-alone_reply : goal.returns-in-Ok-clause-alone_reply
returns-in-Ok-clause-alone_reply g c = let w = table_state c.try_view.new.pass in
    lone_since (λ (x : PassState). GotAlone c.in-Ok.got (sizes c.args.self.now) c.args.key.now x w) (state c.args.pass.now) (state c.loop.pass) c.loop.invariant.waits c.in-Ok.ensures.alone_reply

pub returns-in-Ok-clause-alone : goal.returns-in-Ok-clause-alone
returns-in-Ok-clause-alone g c = runs_since StayAll (state c.args.pass.now) (state c.loop.pass) (table_state c.try_view.new.pass) c.loop.invariant.waits c.try_view.ensures.alone

pub loop-preserved : goal.loop-preserved
loop-preserved g c = let call = call_of c.args.pass.now in let u = state c.args.pass.now in let v = state c.loop.pass in let w = table_state c.try_view.new.pass in let i = c.loop.invariant in record {
  next = tt;
  stays = stays_both i.stays c.try_view.ensures.own;
  refused = refuses_both call u v w i.refused (subst (λ (k : ℕ). Refuses k v w) i.stays.call c.in_default.ensures.busy.refused);
  quiet = only_both IsQuiet u v w i.quiet c.try_view.ensures.quiet;
  waits = waits_again u v w i.waits c.in_default.ensures.busy.alone;
}

use Rattle.std.proofs.Common.{ℕ, refl, subst, arith}
use Rattle.oak_model.specs.declared.cells.CellCall.TheVariants.{Get}
use Rattle.oak_core.specs.QuietSteps.{IsQuiet}
use Rattle.oak_core.proofs.seats.AloneRuns.{runs_as}
use Rattle.oak_core.proofs.calls.QuietCalls.{only_both, only_none}
use Rattle.oak_core.proofs.seats.SamePass.{stays_both}
use Rattle.chunk_ops.specs.AddsAlone.{Never}
use Rattle.point_ops.specs.Gets.{GotFits}
use Rattle.point_ops.specs.LoneReplies.{GotAlone}
use Rattle.oak_core.specs.declared.states.PassState.{PassState}
use Rattle.oak_core.specs.Passes.{call_of, key as sizes, state}
use Rattle.oak_map.specs.Maps.{StayAll}
use Rattle.oak_map.specs.GivingUp.{IsHalted}
use Rattle.oak_map.proofs.LoneRetries.{lone_since, runs_since}
use Rattle.oak_map.proofs.RepeatedTries.{halted_as, tried_all, tried_first, tried_more}
use Rattle.oak_map.proofs.RepliesSince.{got_holds, got_since, holds_both}
use Rattle.oak_map.proofs.bare.view.try_view.Goals as goal

pub returns-in-Ok-clause-got : goal.returns-in-Ok-clause-got
returns-in-Ok-clause-got c = let z = sizes c.args.table.now in let call = call_of c.args.pass.now in let u = state c.args.pass.now in let v = state c.loop.pass in let w = state c.try_get.new.pass in
    got_since call u v w c.loop.invariant.tried.refused c.in-Ok.got z c.args.key.now (subst (λ (k : ℕ). GotFits c.in-Ok.got z k c.args.key.now v w) c.loop.invariant.stays.call c.in-Ok.ensures.got)

pub returns-in-Ok-clause-holds : goal.returns-in-Ok-clause-holds
returns-in-Ok-clause-holds c = let v = state c.loop.pass in let w = state c.try_get.new.pass in
    holds_both (state c.args.pass.now) v w c.loop.invariant.tried.refused.holds (got_holds c.in-Ok.got (sizes c.args.table.now) (call_of c.loop.pass) c.args.key.now v w c.in-Ok.ensures.got)

pub returns-in-Ok-clause-quiet : goal.returns-in-Ok-clause-quiet
returns-in-Ok-clause-quiet c = only_both IsQuiet (state c.args.pass.now) (state c.loop.pass) (state c.try_get.new.pass) c.loop.invariant.quiet c.try_get.ensures.quiet

-- to a pass that is alone

pub returns-in-Ok-clause-alone_reply : goal.returns-in-Ok-clause-alone_reply
returns-in-Ok-clause-alone_reply c = let w = state c.try_get.new.pass in
    lone_since (λ (x : PassState). GotAlone c.in-Ok.got (sizes c.args.table.now) c.args.key.now x w) (state c.args.pass.now) (state c.loop.pass) c.loop.invariant.tried.waits c.in-Ok.ensures.alone_reply

pub returns-in-Ok-clause-alone : goal.returns-in-Ok-clause-alone
returns-in-Ok-clause-alone c = runs_since StayAll (state c.args.pass.now) (state c.loop.pass) (state c.try_get.new.pass) c.loop.invariant.tried.waits c.in-Ok.ensures.alone

pub loop-preserved : goal.loop-preserved
loop-preserved c = let z = sizes c.args.table.now in let call = call_of c.args.pass.now in let key = c.args.key.now in let u = state c.args.pass.now in let v = state c.loop.pass in let w = state c.try_get.new.pass in let i = c.loop.invariant in
    let e = c.in_default.ensures in let h = halted_as z (call_of c.loop.pass) call key Get Get c.in_default.field-0 v w i.stays.call refl e.halted e.either e.refused in record {
      stays = stays_both i.stays c.try_get.ensures.own;
      few = let l = c.loop-test.true in omega arith;
      quiet = only_both IsQuiet u v w i.quiet c.try_get.ensures.quiet;
      tried = tried_more (IsHalted z call key Get) call c.loop.counter u v w i.tried h h.refused e.alone;
    }

pub loop-init : goal.loop-init
loop-init c = record {
  stays = record { table = refl; seat = refl; call = refl; scratch = refl; sorting = refl };
  few = omega arith;
  quiet = only_none IsQuiet (state c.args.pass.now) (state c.args.pass.now) refl;
  tried = tried_first (IsHalted (sizes c.args.table.now) (call_of c.args.pass.now) c.args.key.now Get) (call_of c.args.pass.now) (state c.args.pass.now);
}

pub returns-clause-busy : goal.returns-clause-busy
returns-clause-busy c = tried_all (IsHalted (sizes c.args.table.now) (call_of c.args.pass.now) c.args.key.now Get) (call_of c.args.pass.now) c.loop.counter c.args.looks (state c.args.pass.now) (state c.loop.pass) c.requires.some c.loop.invariant.few c.loop-test.false c.loop.invariant.tried

pub returns-clause-alone : goal.returns-clause-alone
returns-clause-alone c = runs_as Never StayAll (state c.args.pass.now) (state c.loop.pass) (λ a b f. absurd f) (c.loop.invariant.tried.never (let some = c.requires.some in let done = c.loop-test.false in omega arith))

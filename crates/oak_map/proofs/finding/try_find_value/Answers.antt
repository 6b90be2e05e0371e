use Rattle.std.proofs.Common.{ℕ, refl, subst, arith}
use Rattle.oak_model.specs.declared.cells.CellCall.TheVariants.{Get}
use Rattle.oak_core.specs.Passes.{call_of, key as sizes, state}
use Rattle.oak_core.specs.QuietSteps.{IsQuiet}
use Rattle.oak_core.proofs.calls.QuietCalls.{only_both, only_none}
use Rattle.oak_core.proofs.seats.SamePass.{stays_both}
use Rattle.oak_map.specs.Finding.{FindsValue}
use Rattle.oak_map.specs.GivingUp.{IsHalted}
use Rattle.oak_map.proofs.FoundValues.{value_found, value_since}
use Rattle.oak_map.proofs.RepeatedTries.{halted_as, tried_all, tried_first, tried_more}
use Rattle.oak_map.proofs.finding.try_find_value.Goals as goal

pub returns-in-Ok-clause-found : goal.returns-in-Ok-clause-found
returns-in-Ok-clause-found c = let z = sizes c.args.table.now in let call = call_of c.args.pass.now in let key = c.args.key.now in let v = state c.loop.pass in let w = state c.try_pin.new.pass in let i = c.loop.invariant in let y = c.in-Ok.found in
    value_since call (state c.args.pass.now) v w record { refused = i.tried.refused; quiet = i.quiet; waits = i.tried.waits } y z key
    (subst (λ (k : ℕ). FindsValue y z k key v w) i.stays.call (value_found y z (call_of c.loop.pass) key v w c.in-Ok.ensures.found c.try_pin.ensures.quiet c.in-Ok.ensures.alone))

pub loop-init : goal.loop-init
loop-init c = record {
  stays = record { table = refl; seat = refl; call = refl; scratch = refl; sorting = refl };
  few = omega arith;
  quiet = only_none IsQuiet (state c.args.pass.now) (state c.args.pass.now) refl;
  tried = tried_first (IsHalted (sizes c.args.table.now) (call_of c.args.pass.now) c.args.key.now Get) (call_of c.args.pass.now) (state c.args.pass.now);
}

pub loop-preserved : goal.loop-preserved
loop-preserved c = let z = sizes c.args.table.now in let call = call_of c.args.pass.now in let key = c.args.key.now in let u = state c.args.pass.now in let v = state c.loop.pass in let w = state c.try_pin.new.pass in let i = c.loop.invariant in
    let e = c.in_default.ensures in let h = halted_as z (call_of c.loop.pass) call key Get Get c.in_default.field-0 v w i.stays.call refl e.halted e.either e.refused in record {
      stays = stays_both i.stays c.try_pin.ensures.own;
      few = let l = c.loop-test.true in omega arith;
      quiet = only_both IsQuiet u v w i.quiet c.try_pin.ensures.quiet;
      tried = tried_more (IsHalted z call key Get) call c.loop.counter u v w i.tried h h.refused e.alone;
    }

pub returns-clause-busy : goal.returns-clause-busy
returns-clause-busy c = tried_all (IsHalted (sizes c.args.table.now) (call_of c.args.pass.now) c.args.key.now Get) (call_of c.args.pass.now) c.loop.counter c.args.looks (state c.args.pass.now) (state c.loop.pass) c.requires.some c.loop.invariant.few c.loop-test.false c.loop.invariant.tried

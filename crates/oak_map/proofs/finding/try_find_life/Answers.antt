use Rattle.std.proofs.Common.{ℕ, refl, subst, arith}
use Rattle.oak_core.specs.Passes.{call_of, key as sizes, state}
use Rattle.oak_core.proofs.seats.SamePass.{stays_both}
use Rattle.value_ops.specs.declared.views.NoRead.{NoRead}
use Rattle.value_ops.specs.declared.views.NoRead.TheVariants.{Busy, Gone}
use Rattle.value_ops.specs.Pinning.{PinsLive}
use Rattle.value_ops.specs.Views.{NotRead, Viewed}
use Rattle.oak_map.specs.GivingUp.{IsLocked}
use Rattle.oak_map.proofs.FoundLives.{begun_first, life_first, life_on, life_over, life_pinned, lives_tried, locked_begun, locked_never, pin_view, read_over}
use Rattle.oak_map.proofs.FoundValues.{idle_still, unread_refuses}
use Rattle.oak_map.proofs.RepeatedTries.{tried_first, tried_more}
use Rattle.oak_map.proofs.finding.try_find_life.Goals as goal

pub returns-in-Ok-clause-pinned : goal.returns-in-Ok-clause-pinned
returns-in-Ok-clause-pinned c = let z = sizes c.args.table.now in let call = call_of c.args.pass.now in let x : Viewed = c.args.view.now in let v = state c.loop.pass in let w = state c.pin.new.pass in let good = c.in-Ok.ensures.good in
    (good.0, good.1, life_pinned z call x (state c.args.pass.now) v w c.loop.invariant.searches (pin_view z call x v w (subst (λ (k : ℕ). PinsLive z k x.header x.generation v w) c.loop.invariant.stays.call good.2)))

pub returns-in-Err-Gone-clause-gone : goal.returns-in-Err-Gone-clause-gone
returns-in-Err-Gone-clause-gone c = let z = sizes c.args.table.now in let call = call_of c.args.pass.now in let x : Viewed = c.args.view.now in let v = state c.loop.pass in let w = state c.pin.new.pass in
    let n : NotRead z call x Gone v w = subst (λ (i : ℕ × NoRead). NotRead z i.0 x i.1 v w) (λ i. (c.loop.invariant.stays.call i, c.in-Err-Gone.field-0-is i)) c.in-Err-Gone.ensures.bad in
    life_over z call x (state c.args.pass.now) v w c.loop.invariant.searches (read_over z call x v w n)

pub loop-init : goal.loop-init
loop-init c = let z = sizes c.args.table.now in let call = call_of c.args.pass.now in let x : Viewed = c.args.view.now in record {
  stays = record { table = refl; seat = refl; call = refl; scratch = refl; sorting = refl };
  few = omega arith;
  known = c.requires.known;
  begun = λ l. absurd (omega arith);
  searches = life_first z call (state c.args.pass.now);
  tried = tried_first (IsLocked z call x) call (state c.args.pass.now);
}

pub loop-preserved : goal.loop-preserved
loop-preserved c = let z = sizes c.args.table.now in let call = call_of c.args.pass.now in let x : Viewed = c.args.view.now in let u = state c.args.pass.now in let v = state c.loop.pass in let w = state c.pin.new.pass in let i = c.loop.invariant in
    let n : NotRead z call x Busy v w = subst (λ (i : ℕ × NoRead). NotRead z i.0 x i.1 v w) (λ i. (c.loop.invariant.stays.call i, c.in-Err-Busy.field-0-is i)) c.in-Err-Busy.ensures.bad in
    let never = locked_never z call x v w (idle_still u v i.tried.refused.holds c.requires.idle) n in record {
      stays = stays_both i.stays c.pin.ensures.own;
      few = let l = c.loop-test.true in omega arith;
      known = n.knows;
      begun = λ _. begun_first z call u v w i.searches (locked_begun z call x v w n);
      searches = life_on z call u v w i.searches n.learned n.dud.quiet (locked_begun z call x v w n) never;
      tried = tried_more (IsLocked z call x) call c.loop.counter u v w i.tried n (unread_refuses z call x Busy v w n) never;
    }

pub returns-clause-busy : goal.returns-clause-busy
returns-clause-busy c = let i = c.loop.invariant in
    lives_tried (sizes c.args.table.now) (call_of c.args.pass.now) c.args.view.now c.loop.counter c.args.looks (state c.args.pass.now) (state c.loop.pass) c.requires.some i.few c.loop-test.false i.searches i.begun i.tried i.known

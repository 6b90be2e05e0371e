use Rattle.std.proofs.Common.{ℕ, Result, Ok, Err, IfErr, ap, refl, ◌∙◌, subst}
use Rattle.oak_model.specs.Limits.{Sizes}
use Rattle.oak_core.specs.Passes.{state, call_of, key as sizes}
use Rattle.rebalance.specs.declared.chunks.TheConstants.{LOOKS}
use Rattle.rebalance.specs.Busy.{GivesUpRewriting}
use Rattle.rebalance.specs.Calls.{FindsNoRoom, Halves, Loosens}
use Rattle.rebalance.proofs.GivenUp.{halves_since, loosens_since, none_since, waits_more, waits_none}
use Rattle.rebalance.proofs.SettledKeys.{idle_still}
use Rattle.rebalance.proofs.splitting.split.Goals as goal

pub loop-init : goal.loop-init
loop-init g c = record { next = tt; stays = record { table = refl; seat = refl; call = refl; scratch = refl; sorting = refl }; waits = waits_none (call_of c.args.pass.now) (state c.args.pass.now) }

pub try_split-requires-clause-idle : goal.try_split-requires-clause-idle
try_split-requires-clause-idle g c = idle_still (call_of c.args.pass.now) (state c.args.pass.now) (state c.loop.pass) c.requires.idle c.loop.invariant.waits.leaves

pub returns-in-Ok-clause-loosened : goal.returns-in-Ok-clause-loosened
returns-in-Ok-clause-loosened g c is = let z : Sizes = sizes c.args.table.now in let i = c.loop.invariant in let v = state c.loop.pass in let w = state c.try_split.new.pass in
    loosens_since z (call_of c.args.pass.now) (state c.args.pass.now) v w i.waits c.args.key.now (subst (λ (k : ℕ). Loosens z k c.args.key.now v w) i.stays.call (c.try_split.ensures.loosened (c.in-Ok.is ∙ ap Ok is)))

pub returns-in-Ok-clause-halved : goal.returns-in-Ok-clause-halved
returns-in-Ok-clause-halved g c room is = let z : Sizes = sizes c.args.table.now in let i = c.loop.invariant in let v = state c.loop.pass in let w = state c.try_split.new.pass in
    halves_since z (call_of c.args.pass.now) (state c.args.pass.now) v w i.waits c.args.key.now room (subst (λ (k : ℕ). Halves z k c.args.key.now room v w) i.stays.call (c.try_split.ensures.halved room (c.in-Ok.is ∙ ap Ok is)))

-- what an error says
err_as : {A E : Type 0} (P Q : Type 0) → (P → Q) → (r : Result A E) → IfErr r (λ _. P) → IfErr r (λ _. Q)
err_as P Q f (Ok a) h = h
err_as P Q f (Err e) h = f h

pub returns-in-Ok-clause-none : goal.returns-in-Ok-clause-none
returns-in-Ok-clause-none g c = let z : Sizes = sizes c.args.table.now in let i = c.loop.invariant in let v = state c.loop.pass in let w = state c.try_split.new.pass in
    err_as (FindsNoRoom z (call_of c.loop.pass) c.args.key.now v w) (FindsNoRoom z (call_of c.args.pass.now) c.args.key.now (state c.args.pass.now) w)
    (λ f. none_since z (call_of c.args.pass.now) (state c.args.pass.now) v w i.waits c.args.key.now (subst (λ (k : ℕ). FindsNoRoom z k c.args.key.now v w) i.stays.call f)) c.in-Ok.answer c.in-Ok.ensures.none

pub loop-preserved : goal.loop-preserved
loop-preserved g c = let z : Sizes = sizes c.args.table.now in let call = call_of c.args.pass.now in let i = c.loop.invariant in let s = c.try_split.ensures.own in let v = state c.loop.pass in let w = state c.try_split.new.pass in
    let gave = subst (λ (k : ℕ). GivesUpRewriting z k LOOKS c.args.key.now v w) i.stays.call c.in_default.ensures.busy in record {
      next = tt;
      stays = record { table = s.table ∙ i.stays.table; seat = s.seat ∙ i.stays.seat; call = s.call ∙ i.stays.call; scratch = s.scratch ∙ i.stays.scratch; sorting = refl };
      waits = waits_more call (state c.args.pass.now) v w i.waits gave.leaves gave.unclaimed gave.alone;
    }

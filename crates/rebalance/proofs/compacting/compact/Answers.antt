use Rattle.std.proofs.Common.{ℕ, refl, ◌∙◌, subst}
use Rattle.oak_model.specs.Limits.{Sizes}
use Rattle.oak_core.specs.Passes.{state, call_of, key as sizes}
use Rattle.rebalance.specs.declared.chunks.TheConstants.{LOOKS}
use Rattle.rebalance.specs.Busy.{GivesUpRewriting}
use Rattle.rebalance.specs.Calls.{Compacts}
use Rattle.rebalance.proofs.GivenUp.{compacts_since, waits_more, waits_none}
use Rattle.rebalance.proofs.SettledKeys.{idle_still}
use Rattle.rebalance.proofs.compacting.compact.Goals as goal

pub loop-init : goal.loop-init
loop-init g c = record { next = tt; stays = record { table = refl; seat = refl; call = refl; scratch = refl; sorting = refl }; waits = waits_none (call_of c.args.pass.now) (state c.args.pass.now) }

pub try_compact-requires-clause-idle : goal.try_compact-requires-clause-idle
try_compact-requires-clause-idle g c = idle_still (call_of c.args.pass.now) (state c.args.pass.now) (state c.loop.pass) c.requires.idle c.loop.invariant.waits.leaves

pub returns-in-Ok-clause-compacted : goal.returns-in-Ok-clause-compacted
returns-in-Ok-clause-compacted g c = let z : Sizes = sizes c.args.table.now in let i = c.loop.invariant in let v = state c.loop.pass in let w = state c.try_compact.new.pass in
    compacts_since z (call_of c.args.pass.now) (state c.args.pass.now) v w i.waits c.args.key.now c.in-Ok.dropped (subst (λ (k : ℕ). Compacts z k c.args.key.now c.in-Ok.dropped v w) i.stays.call c.in-Ok.ensures.compacted)

pub returns-in-Ok-clause-unclaimed : goal.returns-in-Ok-clause-unclaimed
returns-in-Ok-clause-unclaimed g c = c.try_compact.ensures.unclaimed ∙ c.loop.invariant.waits.unclaimed

pub loop-preserved : goal.loop-preserved
loop-preserved g c = let z : Sizes = sizes c.args.table.now in let call = call_of c.args.pass.now in let i = c.loop.invariant in let s = c.try_compact.ensures.own in let v = state c.loop.pass in let w = state c.try_compact.new.pass in
    let gave = subst (λ (k : ℕ). GivesUpRewriting z k LOOKS c.args.key.now v w) i.stays.call c.in_default.ensures.busy in record {
      next = tt;
      stays = record { table = s.table ∙ i.stays.table; seat = s.seat ∙ i.stays.seat; call = s.call ∙ i.stays.call; scratch = s.scratch ∙ i.stays.scratch; sorting = refl };
      waits = waits_more call (state c.args.pass.now) v w i.waits gave.leaves gave.unclaimed gave.alone;
    }

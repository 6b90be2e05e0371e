use Rattle.std.proofs.Common.{ℕ, Bool, true, false, MatchBool, refl, ◌∙◌, subst}
use Rattle.oak_model.specs.Limits.{Sizes}
use Rattle.oak_core.specs.Passes.{state, call_of, key as sizes}
use Rattle.rebalance.specs.declared.chunks.TheConstants.{LOOKS}
use Rattle.rebalance.specs.Busy.{GivesUpMerging}
use Rattle.rebalance.specs.Calls.{Merges, StaysApart}
use Rattle.rebalance.proofs.GivenUp.{merges_since, stays_since, waits_more, waits_none}
use Rattle.rebalance.proofs.SettledKeys.{idle_still}
use Rattle.rebalance.proofs.merging.merge.Goals as goal

pub loop-init : goal.loop-init
loop-init g c = record { next = tt; stays = record { table = refl; seat = refl; call = refl; scratch = refl; sorting = refl }; waits = waits_none (call_of c.args.pass.now) (state c.args.pass.now) }

pub try_merge-requires-clause-idle : goal.try_merge-requires-clause-idle
try_merge-requires-clause-idle g c = idle_still (call_of c.args.pass.now) (state c.args.pass.now) (state c.loop.pass) c.requires.idle c.loop.invariant.waits.leaves

-- what a test says
test_as : (P Q R S : Type 0) → (P → R) → (Q → S) → (b : Bool) → MatchBool b P Q → MatchBool b R S
test_as P Q R S f g true h = f h
test_as P Q R S f g false h = g h

pub returns-in-Ok-clause-merged : goal.returns-in-Ok-clause-merged
returns-in-Ok-clause-merged g c = let z : Sizes = sizes c.args.table.now in let call = call_of c.args.pass.now in let key = c.args.key.now in let i = c.loop.invariant in let u = state c.args.pass.now in let v = state c.loop.pass in let w = state c.try_merge.new.pass in
    test_as (Merges z (call_of c.loop.pass) key v w) (StaysApart z (call_of c.loop.pass) key v w) (Merges z call key u w) (StaysApart z call key u w)
    (λ m. merges_since z call u v w i.waits key (subst (λ (k : ℕ). Merges z k key v w) i.stays.call m)) (λ s. stays_since z call u v w i.waits key (subst (λ (k : ℕ). StaysApart z k key v w) i.stays.call s)) c.in-Ok.merged c.in-Ok.ensures.merged

pub loop-preserved : goal.loop-preserved
loop-preserved g c = let z : Sizes = sizes c.args.table.now in let call = call_of c.args.pass.now in let i = c.loop.invariant in let s = c.try_merge.ensures.own in let v = state c.loop.pass in let w = state c.try_merge.new.pass in
    let gave = subst (λ (k : ℕ). GivesUpMerging z k LOOKS c.args.key.now v w) i.stays.call c.in_default.ensures.busy in record {
      next = tt;
      stays = record { table = s.table ∙ i.stays.table; seat = s.seat ∙ i.stays.seat; call = s.call ∙ i.stays.call; scratch = s.scratch ∙ i.stays.scratch; sorting = refl };
      waits = waits_more call (state c.args.pass.now) v w i.waits gave.leaves gave.unclaimed gave.alone;
    }

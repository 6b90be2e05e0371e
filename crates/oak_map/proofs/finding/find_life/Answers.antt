use Rattle.std.proofs.Common.{ℕ, subst}
use Rattle.oak_core.specs.Passes.{call_of, key as sizes, state}
use Rattle.oak_core.proofs.seats.SamePass.{stays_both}
use Rattle.value_ops.specs.Views.{Viewed}
use Rattle.oak_map.specs.Finding.{PinsView}
use Rattle.oak_map.specs.GivingUp.{GivesUpLife}
use Rattle.oak_map.specs.Lending.{FindsOver}
use Rattle.oak_map.specs.declared.waiting.TheConstants.{LOOKS}
use Rattle.oak_map.proofs.FoundLives.{life_on, life_over, life_pinned, none_map, some_map}
use Rattle.oak_map.proofs.finding.find_life.Goals as goal

pub returns-in-Ok-clause-pinned : goal.returns-in-Ok-clause-pinned
returns-in-Ok-clause-pinned g c = let z = sizes c.args.table.now in let call = call_of c.args.pass.now in let x : Viewed = c.args.view.now in let v = state c.loop.pass in let w = state c.try_find_life.new.pass in let i = c.loop.invariant in
    some_map _ _ c.in-Ok.found (λ p f. (f.0, f.1, life_pinned z call x (state c.args.pass.now) v w i.searches (subst (λ (k : ℕ). PinsView z k x v w) i.stays.call f.2))) c.in-Ok.ensures.pinned

pub returns-in-Ok-clause-gone : goal.returns-in-Ok-clause-gone
returns-in-Ok-clause-gone g c = let z = sizes c.args.table.now in let call = call_of c.args.pass.now in let x : Viewed = c.args.view.now in let v = state c.loop.pass in let w = state c.try_find_life.new.pass in let i = c.loop.invariant in
    none_map _ _ c.in-Ok.found (λ f. life_over z call x (state c.args.pass.now) v w i.searches (subst (λ (k : ℕ). FindsOver z k x v w) i.stays.call f)) c.in-Ok.ensures.gone

pub loop-preserved : goal.loop-preserved
loop-preserved g c = let z = sizes c.args.table.now in let call = call_of c.args.pass.now in let x : Viewed = c.args.view.now in let v = state c.loop.pass in let w = state c.try_find_life.new.pass in let i = c.loop.invariant in
    let b : GivesUpLife z call x LOOKS v w = subst (λ (k : ℕ). GivesUpLife z k x LOOKS v w) i.stays.call c.in_default.ensures.busy in record {
      next = tt;
      stays = stays_both i.stays c.try_find_life.ensures.own;
      known = b.knows;
      searches = life_on z call (state c.args.pass.now) v w i.searches b.meets b.quiet b.begun b.alone;
    }

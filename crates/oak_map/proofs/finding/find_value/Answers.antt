use Rattle.std.proofs.Common.{ℕ, subst}
use Rattle.oak_core.specs.Passes.{call_of, key as sizes, state}
use Rattle.oak_core.proofs.seats.SamePass.{stays_both}
use Rattle.point_ops.specs.Replies.{Refuses}
use Rattle.oak_map.specs.Finding.{FindsValue}
use Rattle.oak_map.proofs.FoundValues.{search_on, value_since}
use Rattle.oak_map.proofs.finding.find_value.Goals as goal

pub returns-in-Ok-clause-found : goal.returns-in-Ok-clause-found
returns-in-Ok-clause-found g c = let z = sizes c.args.table.now in let call = call_of c.args.pass.now in let v = state c.loop.pass in let w = state c.try_find_value.new.pass in let i = c.loop.invariant in let y = c.in-Ok.found in
    value_since call (state c.args.pass.now) v w i.searches y z c.args.key.now (subst (λ (k : ℕ). FindsValue y z k c.args.key.now v w) i.stays.call c.in-Ok.ensures.found)

pub loop-preserved : goal.loop-preserved
loop-preserved g c = let call = call_of c.args.pass.now in let v = state c.loop.pass in let w = state c.try_find_value.new.pass in let i = c.loop.invariant in let e = c.in_default.ensures in record {
  next = tt;
  stays = stays_both i.stays c.try_find_value.ensures.own;
  searches = search_on call (state c.args.pass.now) v w i.searches (subst (λ (k : ℕ). Refuses k v w) i.stays.call e.busy.refused) e.quiet e.busy.alone;
}

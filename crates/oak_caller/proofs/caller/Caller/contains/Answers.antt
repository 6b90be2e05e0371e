use Rattle.std.proofs.Common.{subst}
use Rattle.oak_caller.specs.Callers.{Called, KeepsViews, last_of, sizes_of, state_of}
use Rattle.oak_caller.specs.Looks.{HasFits}
use Rattle.oak_map.specs.Maps.{call_of, sizes, state, table_of}
use Rattle.oak_caller.proofs.LookedKeys.{got_has, got_loaded, views_kept}
use Rattle.oak_caller.proofs.caller.Caller.contains.Goals as goal

pub returns-clause-views : goal.returns-clause-views
returns-clause-views g c = let i = c.self.inside in let z = sizes i.map.now in let v = state i.pass in let w = state c.view-got.new.pass in let e = c.view-got.ensures in let y = c.view-got.result in
    subst (λ (q : Called). KeepsViews q (record { table = table_of i.map.now; pass = c.view-got.new.pass })) c.self.view_is (views_kept z v w (got_loaded y z (call_of i.pass) c.args.key.now v w (record { got = e.got; quiet = e.quiet; alone_reply = e.alone_reply; alone = e.alone })))

pub returns-clause-has : goal.returns-clause-has
returns-clause-has g c = let i = c.self.inside in let z = sizes i.map.now in let v = state i.pass in let w = state c.view-got.new.pass in let e = c.view-got.ensures in let y = c.view-got.result in
    subst (λ (q : Called). HasFits c.is_view.result (sizes_of q) (last_of q) c.args.key.now (state_of q) w) c.self.view_is (got_has y c.is_view.result z (call_of i.pass) c.args.key.now v w c.is_view.ensures (record { got = e.got; quiet = e.quiet; alone_reply = e.alone_reply; alone = e.alone }))

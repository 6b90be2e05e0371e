use Rattle.std.proofs.Common.{subst}
use Rattle.oak_caller.specs.Callers.{Called, KeepsViews, last_of, sizes_of, state_of}
use Rattle.oak_caller.specs.Looks.{ViewAnswer}
use Rattle.oak_map.specs.Maps.{call_of, sizes, state, table_of}
use Rattle.oak_caller.proofs.LookedKeys.{got_known, got_loaded, got_view, views_kept}
use Rattle.oak_caller.proofs.caller.Caller.view.Goals as goal

pub returns-clause-views : goal.returns-clause-views
returns-clause-views g c = let i = c.self.inside in let z = sizes i.map.now in let v = state i.pass in let w = state c.view-got.new.pass in let e = c.view-got.ensures in let y = c.view-got.result in
    subst (λ (q : Called). KeepsViews q (record { table = table_of i.map.now; pass = c.view-got.new.pass })) c.self.view_is (views_kept z v w (got_loaded y z (call_of i.pass) c.args.key.now v w (record { got = e.got; quiet = e.quiet; alone_reply = e.alone_reply; alone = e.alone })))

pub returns-clause-view : goal.returns-clause-view
returns-clause-view g c = let i = c.self.inside in let z = sizes i.map.now in let v = state i.pass in let w = state c.view-got.new.pass in let e = c.view-got.ensures in let y = c.view-got.result in
    subst (λ (q : Called). ViewAnswer c.view_in.result (sizes_of q) (last_of q) c.args.key.now (state_of q) w) c.self.view_is (got_view y c.view_in.result z (call_of i.pass) c.args.key.now v w c.view_in.ensures (record { got = e.got; quiet = e.quiet; alone_reply = e.alone_reply; alone = e.alone }))

pub returns-clause-known : goal.returns-clause-known
returns-clause-known g c = let i = c.self.inside in let z = sizes i.map.now in let v = state i.pass in let w = state c.view-got.new.pass in let e = c.view-got.ensures in let y = c.view-got.result in
    got_known y c.view_in.result z (call_of i.pass) c.args.key.now v w c.view_in.ensures (record { got = e.got; quiet = e.quiet; alone_reply = e.alone_reply; alone = e.alone })

use Rattle.std.proofs.Common.{IfOk, sym, subst}
use Rattle.oak_core.specs.declared.table.Pass.{Pass}
use Rattle.oak_core.specs.Passes.{call_of as table_call, state as table_state}
use Rattle.oak_map.specs.Maps.{call_of, sizes, state}
use Rattle.value_ops.specs.Views.{KnowsView}
use Rattle.value_ops.proofs.LoadedViews.{view_known}
use Rattle.oak_run.specs.HeldNames.{LookDid}
use Rattle.oak_run.proofs.HeldLaws.{name_held}
use Rattle.oak_run.proofs.LookCalls.{name_did, unheld_did}
use Rattle.oak_run.proofs.OkLaws.{if_ok-map}
use Rattle.oak_run.proofs.looks.look.Goals as goal

pub returns-in-None-clause-looked : goal.returns-in-None-clause-looked
returns-in-None-clause-looked g c = unheld_did (sizes c.args.map.now) (call_of c.args.pass.now) (state c.args.pass.now) c.args.holds.now c.args.name.now (sym (rw c.in-None.is at c.get.ensures.value))

pub look_at-requires-clause-known : goal.look_at-requires-clause-known
look_at-requires-clause-known g c κs within = let z = sizes c.args.map.now in let l = (name_held z (state c.args.pass.now) c.args.holds.now c.requires.known.0 c.args.name.now c.in-Some.held.now (sym (rw c.in-Some.is at c.get.ensures.value)) c.requires.known.1).2.life in
    subst (λ (p : Pass). KnowsView z c.in-Some.held.now.view (table_state p)) (sym c.pass_mut.ensures.pass) (view_known z c.in-Some.held.now.view (state c.args.pass.now) l.inside l.loaded)

pub returns-in-Some-clause-looked : goal.returns-in-Some-clause-looked
returns-in-Some-clause-looked g c = let z = sizes c.args.map.now in let v = state c.args.pass.now in let w = table_state c.look_at.new.pass in let h = c.in-Some.held.now in
    let did : IfOk c.look_at.result (λ y. LookDid z (call_of c.args.pass.now) h y v w) = subst (λ (p : Pass). IfOk c.look_at.result (λ y. LookDid z (table_call p) h y (table_state p) w)) c.pass_mut.ensures.pass c.look_at.ensures.looked in
    if_ok-map (λ y. LookDid z (call_of c.args.pass.now) h y v w) _ c.look_at.result (λ y l. name_did z (call_of c.args.pass.now) v w c.args.holds.now c.args.name.now h y (sym (rw c.in-Some.is at c.get.ensures.value)) l) did

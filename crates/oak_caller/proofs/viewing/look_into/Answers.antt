use Rattle.std.proofs.Common.{rules, ◌≡◌, ℕ, sym, ap, ◌∙◌, subst}
use Rattle.oak_core.specs.declared.table.Pass.{Pass}
use Rattle.oak_core.specs.Passes.{call_of as table_call, key as table_sizes, state as table_state}
use Rattle.value_ops.specs.Reading.{value}
use Rattle.oak_map.specs.Maps.{sizes}
use Rattle.oak_map.specs.Rests.{RestsOver}
use Rattle.oak_map.proofs.LentEnds.{life_refuses}
use Rattle.oak_caller.specs.Looks.{CopyLooks, ShowsLife}
use Rattle.oak_caller.proofs.PresentPairs.{read_value}
use Rattle.oak_caller.proofs.ReadLives.{life_shows, looks_fit}
use Rattle.oak_core.specs.PassState.{HoldsNothing}
use Rattle.value_ops.proofs.LoadedViews.{view_known}
use Rattle.oak_caller.specs.Callers.{PassKeepsViews}
use Rattle.oak_caller.proofs.LookedKeys.{views_kept}
use Rattle.oak_caller.proofs.ReadLives.{idle_then, over_loaded}
use Rattle.oak_caller.proofs.viewing.look_into.Goals as goal

pub look_of-requires-clause-known : goal.look_of-requires-clause-known
look_of-requires-clause-known g c κs within = view_known (sizes c.args.map.now) c.args.view.now (table_state c.args.pass.now) c.requires.known.inside c.requires.known.loaded

pub returns-in-Gone-clause-looked : goal.returns-in-Gone-clause-looked
returns-in-Gone-clause-looked g c =
    let rest : RestsOver (sizes c.args.map.now) c.args.view.now c.args.pass.now c.look_of.follows.lender-at-none = search rules in
    rest.finds

pub returns-in-Present-clause-mine : goal.returns-in-Present-clause-mine
returns-in-Present-clause-mine g c = let z = sizes c.args.map.now in let call = table_call c.args.pass.now in let v = table_state c.args.pass.now in
    let r = c.in-Present.reading in let q = c.copy_reading-len.new.reading in let w = table_state c.done.new.self.1.0 in let f = c.in-Present.ensures.present in
    let first : table_sizes r.table.now ≡ z = ap table_sizes f.2 in
    let all : w.knowledge.mine ≡ v.knowledge.mine = (life_refuses z call c.args.view.now v w r q c.requires.idle f.4 first f.3.call c.copy_reading-len.ensures.reads c.done.ensures.undone).learns.all.mine in
    subst (λ (x : Pass). (table_state x).knowledge.mine ≡ v.knowledge.mine) (sym (c.pass-in-Present-1.given.1 (sym (c.copy_reading-len.ensures.same_reference ∙ f.0)))) all

pub returns-in-Present-clause-looked : goal.returns-in-Present-clause-looked
returns-in-Present-clause-looked g c = let z = sizes c.args.map.now in let call = table_call c.args.pass.now in let v = table_state c.args.pass.now in let x = c.args.view.now in
    let r = c.in-Present.reading in let q = c.copy_reading-len.new.reading in let w = table_state c.done.new.self.1.0 in let f = c.in-Present.ensures.present in let e = c.copy_reading-len.ensures in
    let old = c.args.out.now in let new = c.copy_reading-len.new.out in let y = c.told_copy.result in
    let first : table_sizes r.table.now ≡ z = ap table_sizes f.2 in
    let shows : ShowsLife z call x (value r) c.at-at.result v w = subst (λ (n : ℕ). ShowsLife z call x (value r) n v w) (sym c.at-at.ensures) (life_shows z call x v w r q c.requires.idle f.4 first f.3.call e.reads c.done.ensures.undone (read_value r f.1)) in
    let all : CopyLooks y z call x old new v w = looks_fit y z call x old new v w (value r) c.copy_reading-len.result c.at-at.result (search rules) e.len c.told_copy.ensures.whole c.told_copy.ensures.long shows e.fits in
    subst (λ (p : Pass). CopyLooks y z call x old new v (table_state p)) (sym (c.pass-in-Present-1.given.1 (sym (e.same_reference ∙ f.0)))) all

pub returns-in-Gone-clause-views : goal.returns-in-Gone-clause-views
returns-in-Gone-clause-views g c = let z = sizes c.args.map.now in let v = table_state c.args.pass.now in
    let rest : RestsOver z c.args.view.now c.args.pass.now c.look_of.follows.lender-at-none = search rules in
    views_kept z v (table_state c.look_of.follows.lender-at-none) (over_loaded z (table_call c.args.pass.now) c.args.view.now v (table_state c.look_of.follows.lender-at-none) rest.finds)

pub returns-in-Present-clause-views : goal.returns-in-Present-clause-views
returns-in-Present-clause-views g c = let z = sizes c.args.map.now in let call = table_call c.args.pass.now in let v = table_state c.args.pass.now in
    let r = c.in-Present.reading in let q = c.copy_reading-len.new.reading in let x = c.done.new.self.1.0 in let f = c.in-Present.ensures.present in
    let first : table_sizes r.table.now ≡ z = ap table_sizes f.2 in
    let all : PassKeepsViews z c.args.pass.now x = views_kept z v (table_state x) (life_refuses z call c.args.view.now v (table_state x) r q c.requires.idle f.4 first f.3.call c.copy_reading-len.ensures.reads c.done.ensures.undone).learns.all.loaded in
    subst (λ (p : Pass). PassKeepsViews z c.args.pass.now p) (sym (c.pass-in-Present-1.given.1 (sym (c.copy_reading-len.ensures.same_reference ∙ f.0)))) all

pub returns-in-Present-clause-idle : goal.returns-in-Present-clause-idle
returns-in-Present-clause-idle g c = let z = sizes c.args.map.now in let call = table_call c.args.pass.now in let v = table_state c.args.pass.now in
    let r = c.in-Present.reading in let q = c.copy_reading-len.new.reading in let x = c.done.new.self.1.0 in let f = c.in-Present.ensures.present in
    let first : table_sizes r.table.now ≡ z = ap table_sizes f.2 in
    let all : HoldsNothing (table_state x) = idle_then v (table_state x) (life_refuses z call c.args.view.now v (table_state x) r q c.requires.idle f.4 first f.3.call c.copy_reading-len.ensures.reads c.done.ensures.undone).holds c.requires.idle in
    subst (λ (p : Pass). HoldsNothing (table_state p)) (sym (c.pass-in-Present-1.given.1 (sym (c.copy_reading-len.ensures.same_reference ∙ f.0)))) all

use Rattle.std.proofs.Common.{rules, ◌≡◌, ℕ, IfOk, sym, ap, ◌∙◌, subst}
use Rattle.oak_core.specs.declared.table.Pass.{Pass}
use Rattle.oak_core.specs.Passes.{Stays, call_of as table_call, key as table_sizes, state as table_state}
use Rattle.oak_core.specs.PassState.{HoldsNothing}
use Rattle.oak_core.proofs.seats.SamePass.{stays_both}
use Rattle.value_ops.specs.Reading.{stamp, value}
use Rattle.oak_map.specs.Maps.{sizes}
use Rattle.oak_map.specs.Rests.{RestsOver}
use Rattle.oak_map.proofs.LentEnds.{life_refuses}
use Rattle.oak_run.specs.CallTurns.{TellsCopy}
use Rattle.oak_run.specs.HeldNames.{LookDid}
use Rattle.oak_run.proofs.LentTurns.{lent_turned}
use Rattle.oak_run.proofs.LookCalls.{copy_did, gone_did, idle_then}
use Rattle.oak_run.proofs.looks.look_at.Goals as goal

pub returns-in-Gone-clause-numbers : goal.returns-in-Gone-clause-numbers
returns-in-Gone-clause-numbers g c =
    let rest : RestsOver (sizes c.args.map.now) c.args.held.now.view c.args.pass.now c.look_of.follows.lender-at-none = search rules in
    rest.finds.holds.numbers

pub returns-in-Gone-clause-looked : goal.returns-in-Gone-clause-looked
returns-in-Gone-clause-looked g c =
    let rest : RestsOver (sizes c.args.map.now) c.args.held.now.view c.args.pass.now c.look_of.follows.lender-at-none = search rules in
    gone_did (sizes c.args.map.now) (table_call c.args.pass.now) (table_state c.args.pass.now) (table_state c.look_of.follows.lender-at-none) c.args.held.now rest.finds

pub returns-in-Present-clause-own : goal.returns-in-Present-clause-own
returns-in-Present-clause-own g c =
    let f = c.in-Present.ensures.present in let x = c.done.new.self.1.0 in
    let ends : c.pass-in-Present-1.given.0 ≡ x = c.pass-in-Present-1.given.1 (sym (c.copy_value-copy.ensures.same_reference ∙ f.0)) in
    let all : Stays c.args.pass.now x = stays_both (stays_both f.3 c.copy_value-copy.ensures.reads.stays) c.done.ensures.own in
    subst (λ (p : Pass). Stays c.args.pass.now p) (sym ends) all

pub returns-in-Present-clause-idle : goal.returns-in-Present-clause-idle
returns-in-Present-clause-idle g c = let z = sizes c.args.map.now in let v = table_state c.args.pass.now in
    let r = c.in-Present.reading in let q = c.copy_value-copy.new.reading in let x = c.done.new.self.1.0 in let f = c.in-Present.ensures.present in
    let ends : c.pass-in-Present-1.given.0 ≡ x = c.pass-in-Present-1.given.1 (sym (c.copy_value-copy.ensures.same_reference ∙ f.0)) in
    let all : HoldsNothing (table_state x) = idle_then v (table_state x) (life_refuses z (table_call c.args.pass.now) c.args.held.now.view v (table_state x) r q c.requires.idle f.4 (ap table_sizes f.2) f.3.call c.copy_value-copy.ensures.reads c.done.ensures.undone).holds c.requires.idle in
    subst (λ (p : Pass). HoldsNothing (table_state p)) (sym ends) all

pub returns-in-Present-clause-numbers : goal.returns-in-Present-clause-numbers
returns-in-Present-clause-numbers g c = let z = sizes c.args.map.now in let v = table_state c.args.pass.now in
    let r = c.in-Present.reading in let q = c.copy_value-copy.new.reading in let x = c.done.new.self.1.0 in let f = c.in-Present.ensures.present in
    let ends : c.pass-in-Present-1.given.0 ≡ x = c.pass-in-Present-1.given.1 (sym (c.copy_value-copy.ensures.same_reference ∙ f.0)) in
    let all : (table_state x).numbers ≡ v.numbers = (life_refuses z (table_call c.args.pass.now) c.args.held.now.view v (table_state x) r q c.requires.idle f.4 (ap table_sizes f.2) f.3.call c.copy_value-copy.ensures.reads c.done.ensures.undone).learns.all.numbers in
    subst (λ (p : Pass). (table_state p).numbers ≡ v.numbers) (sym ends) all

pub returns-in-Present-clause-looked : goal.returns-in-Present-clause-looked
returns-in-Present-clause-looked g c = let z = sizes c.args.map.now in let call = table_call c.args.pass.now in let v = table_state c.args.pass.now in let h = c.args.held.now in
    let r = c.in-Present.reading in let q = c.copy_value-copy.new.reading in let x = c.done.new.self.1.0 in let f = c.in-Present.ensures.present in
    let ends : c.pass-in-Present-1.given.0 ≡ x = c.pass-in-Present-1.given.1 (sym (c.copy_value-copy.ensures.same_reference ∙ f.0)) in
    let tells : TellsCopy h.key c.copy_value-copy.result (stamp r) c.told.result = subst (λ (m : ℕ). TellsCopy h.key c.copy_value-copy.result m c.told.result) c.at-at.ensures c.told.ensures in
    let all : IfOk c.told.result (λ y. LookDid z call h y v (table_state x)) = copy_did z call v (table_state x) h (value r) (stamp r) c.told.result c.copy_value-copy.result
    (lent_turned z call h.view v (table_state x) r q c.requires.idle f.4 (ap table_sizes f.2) f.3.call c.copy_value-copy.ensures.reads c.done.ensures.undone) tells c.copy_value-copy.ensures.value in
    subst (λ (p : Pass). IfOk c.told.result (λ y. LookDid z call h y v (table_state p))) (sym ends) all

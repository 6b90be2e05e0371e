use Rattle.std.proofs.Common.{◌≡◌, sym, ap, ◌∙◌, subst}
use Rattle.oak_core.specs.declared.table.Pass.{Pass}
use Rattle.oak_core.specs.Passes.{Stays, call_of, key as table_sizes, state as table_state}
use Rattle.oak_core.specs.QuietSteps.{Quiet}
use Rattle.oak_core.proofs.seats.SamePass.{stays_both}
use Rattle.point_ops.specs.TestStates.{IsReadyAgain}
use Rattle.oak_map.specs.Maps.{sizes}
use Rattle.oak_map.proofs.LentEnds.{value_quiet, value_refuses}
use Rattle.map_tests.proofs.LendingTests.{refused_ready}
use Rattle.map_tests.proofs.map.lending_tests.copies_of.Goals as goal

pub returns-in-Present-clause-own : goal.returns-in-Present-clause-own
returns-in-Present-clause-own g c =
    let f = c.in-Present.ensures.present in let x = c.done.new.self.1.0 in
    let ends : c.pass-in-Present-1.given.0 ≡ x = c.pass-in-Present-1.given.1 (sym (c.copy_if-len.ensures.same_reference ∙ f.0)) in
    let all : Stays c.args.pass.now x = stays_both (stays_both f.3 c.copy_if-len.ensures.reads.stays) c.done.ensures.own in
    subst (λ (p : Pass). Stays c.args.pass.now p) (sym ends) all

pub returns-in-Present-clause-ready : goal.returns-in-Present-clause-ready
returns-in-Present-clause-ready g c = let z = sizes c.args.map.now in let call = call_of c.args.pass.now in let v = table_state c.args.pass.now in
    let r = c.in-Present.reading in let q = c.copy_if-len.new.reading in let x = c.done.new.self.1.0 in let f = c.in-Present.ensures.present in
    let ends : c.pass-in-Present-1.given.0 ≡ x = c.pass-in-Present-1.given.1 (sym (c.copy_if-len.ensures.same_reference ∙ f.0)) in
    let all : IsReadyAgain call v (table_state x) = refused_ready call v (table_state x) (value_refuses z call c.args.key.now v (table_state x) r q c.requires.ready.idle f.4 (ap table_sizes f.2) f.3.call c.copy_if-len.ensures.reads c.done.ensures.undone) c.requires.ready in
    subst (λ (p : Pass). IsReadyAgain call v (table_state p)) (sym ends) all

-- from its begin until the pin was undone the call was quiet
pub returns-in-Present-clause-quiet : goal.returns-in-Present-clause-quiet
returns-in-Present-clause-quiet g c = let z = sizes c.args.map.now in let v = table_state c.args.pass.now in
    let r = c.in-Present.reading in let q = c.copy_if-len.new.reading in let x = c.done.new.self.1.0 in let f = c.in-Present.ensures.present in
    let ends : c.pass-in-Present-1.given.0 ≡ x = c.pass-in-Present-1.given.1 (sym (c.copy_if-len.ensures.same_reference ∙ f.0)) in
    let all : Quiet v (table_state x) = value_quiet z (call_of c.args.pass.now) c.args.key.now v (table_state x) r q c.requires.ready.idle f.4 (ap table_sizes f.2) f.3.call c.copy_if-len.ensures.reads c.done.ensures.undone in
    subst (λ (p : Pass). Quiet v (table_state p)) (sym ends) all

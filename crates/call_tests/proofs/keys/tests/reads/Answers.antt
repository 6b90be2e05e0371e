use Rattle.std.proofs.Common.{rules, ◌≡◌, ℕ, None, ap, ◌∙◌, subst}
use Rattle.oak_model.specs.Limits.{Sizes}
use Rattle.oak_core.specs.declared.states.PassState.{PassState}
use Rattle.oak_core.specs.declared.table.Pass.{Pass}
use Rattle.oak_core.specs.Passes.{Stays, state, key as sizes, call_of}
use Rattle.oak_core.proofs.seats.SamePass.{stays_both}
use Rattle.value_ops.specs.Pinning.{with_pin, MeetsMore, OnlyLearns}
use Rattle.value_ops.specs.PinnedValues.{OnlyLoads}
use Rattle.point_ops.specs.Pins.{PinnedFits}
use Rattle.point_ops.specs.TestStates.{IsReadyAgain}
use Rattle.point_ops.specs.declared.lives.Pinned.{Pinned}
use Rattle.point_ops.proofs.TestLaws.{absent_again, pinned_again, refused_again}
use Rattle.call_tests.proofs.keys.tests.reads.Goals as goal

pub returns-in-Ok-Absent-clause-ready : goal.returns-in-Ok-Absent-clause-ready
returns-in-Ok-Absent-clause-ready g c = let z : Sizes = sizes c.args.table.now in let call = call_of c.args.pass.now in let v = state c.args.pass.now in let w = state c.try_pin.new.pass in
    absent_again z call c.args.key.now c.in-Ok-Absent.at v w (subst (λ (y : Pinned). PinnedFits y z call c.args.key.now v w) c.in-Ok-Absent.field-0-is c.in-Ok-Absent.ensures.found) c.requires.ready

pub returns-in-Ok-Value-clause-ready : goal.returns-in-Ok-Value-clause-ready
returns-in-Ok-Value-clause-ready g c = let z : Sizes = sizes c.args.table.now in let call = call_of c.args.pass.now in let v = state c.args.pass.now in let w = state c.try_pin.new.pass in let p = c.in-Ok-Value.pin in
    let first = c.reading-reading.result in let whole = c.same-same.new.self in let q = state first.pass.now in let x = state whole.pass.now in let u = state c.done.new.self.1.0 in
    let table : sizes first.table.now ≡ z = ap (λ t. sizes t.now) c.reading-reading.ensures.table in
    let now : call_of first.pass.now ≡ call = c.reading-reading.ensures.own.call ∙ c.try_pin.ensures.own.call in
    let only : OnlyLearns z call w q = subst (λ (i : ℕ). OnlyLearns z i w q) c.try_pin.ensures.own.call c.reading-reading.ensures.only.only in
    let loads : OnlyLoads z call q x = subst (λ (i : Sizes × ℕ). OnlyLoads i.0 i.1 q x) (λ i. (table i, now i)) c.same-same.ensures.reads.only in
    let undone : MeetsMore z call (with_pin None x) u = subst (λ (i : Sizes × ℕ). MeetsMore i.0 i.1 (with_pin None x) u) (λ i. ((ap (λ t. sizes t.now) c.same-same.ensures.reads.table ∙ table) i, (c.same-same.ensures.reads.stays.call ∙ now) i)) c.done.ensures.undone.meets in
    subst (λ (y : PassState). IsReadyAgain call v y) (search rules)
    (pinned_again z call c.args.key.now p.header p.generation v w q x u (subst (λ (y : Pinned). PinnedFits y z call c.args.key.now v w) c.in-Ok-Value.field-0-is c.in-Ok-Value.ensures.found) only loads undone c.requires.ready)

pub returns-in-Ok-Value-clause-own : goal.returns-in-Ok-Value-clause-own
returns-in-Ok-Value-clause-own g c = let whole : Stays c.args.pass.now c.done.new.self.1.0 = stays_both (stays_both (stays_both c.try_pin.ensures.own c.reading-reading.ensures.own) c.same-same.ensures.reads.stays) c.done.ensures.own in
    subst (λ (q : Pass). Stays c.args.pass.now q) (search rules) whole

pub returns-in-Err-clause-ready : goal.returns-in-Err-clause-ready
returns-in-Err-clause-ready g c = refused_again (call_of c.args.pass.now) (state c.args.pass.now) (state c.try_pin.new.pass) c.in-Err.ensures.refused c.requires.ready

use Rattle.std.proofs.Common.{rules, ◌≡◌, ℕ, ap, ◌∙◌, subst, None}
use Rattle.oak_model.specs.Limits.{Sizes}
use Rattle.oak_core.specs.declared.states.PassState.{PassState}
use Rattle.oak_core.specs.declared.table.Pass.{Pass}
use Rattle.oak_core.specs.Passes.{Stays, state, key as sizes, call_of}
use Rattle.oak_core.proofs.seats.SamePass.{stays_both}
use Rattle.value_ops.specs.Pinning.{with_pin, MeetsMore, OnlyLearns}
use Rattle.value_ops.specs.PinnedValues.{OnlyLoads}
use Rattle.value_ops.proofs.ReadRounds.{read_round}
use Rattle.point_ops.specs.TestStates.{IsReadyAgain}
use Rattle.point_ops.proofs.TestLaws.{learned_again}
use Rattle.call_tests.proofs.keys.reader_tests.reads_beside.Goals as goal

-- the pin, the reading and the unpin leave what the pass holds
pub returns-clause-ready : goal.returns-clause-ready
returns-clause-ready g c = let z : Sizes = sizes c.args.table.now in let call = call_of c.args.pass.now in let v = state c.args.pass.now in let w = state c.pin.new.pass in
    let first = c.reading-reading.result in let whole = c.stands.new.reading in let q = state first.pass.now in let x = state whole.pass.now in let u = state c.done.new.self.1.0 in
    let table : sizes first.table.now ≡ z = ap (λ t. sizes t.now) c.reading-reading.ensures.table in
    let now : call_of first.pass.now ≡ call = c.reading-reading.ensures.own.call ∙ c.pin.ensures.own.call in
    let only : OnlyLearns z call w q = subst (λ (i : ℕ). OnlyLearns z i w q) c.pin.ensures.own.call c.reading-reading.ensures.only.only in
    let loads : OnlyLoads z call q x = subst (λ (i : Sizes × ℕ). OnlyLoads i.0 i.1 q x) (λ i. (table i, now i)) c.stands.ensures.reads.only in
    let undone : MeetsMore z call (with_pin None x) u = subst (λ (i : Sizes × ℕ). MeetsMore i.0 i.1 (with_pin None x) u) (λ i. ((ap (λ t. sizes t.now) c.stands.ensures.reads.table ∙ table) i, (c.stands.ensures.reads.stays.call ∙ now) i)) c.done.ensures.undone.meets in
    let all : OnlyLearns z call v u = read_round z call c.args.view.now.header c.args.view.now.generation v w q x u (search rules) c.in-Ok.ensures.good.2 only loads undone in
    subst (λ (y : PassState). IsReadyAgain call v y) (search rules) (learned_again z call v u all c.requires.ready)

pub returns-clause-own : goal.returns-clause-own
returns-clause-own g c = let whole : Stays c.args.pass.now c.done.new.self.1.0 = stays_both (stays_both (stays_both c.pin.ensures.own c.reading-reading.ensures.own) c.stands.ensures.reads.stays) c.done.ensures.own in
    (subst (λ (q : Pass). Stays c.args.pass.now q) (search rules) whole, c.stands.ensures.own)

use Rattle.std.proofs.Common.{rules, ◌≡◌, ℕ, None, ap, ◌∙◌, subst}
use Rattle.oak_model.specs.Limits.{Sizes}
use Rattle.oak_core.specs.declared.states.PassState.{PassState}
use Rattle.oak_core.specs.declared.table.Pass.{Pass}
use Rattle.oak_core.specs.Passes.{Stays, state, key, call_of}
use Rattle.oak_core.proofs.seats.SamePass.{stays_both}
use Rattle.value_ops.specs.Pinning.{with_pin, MeetsMore, OnlyLearns}
use Rattle.value_ops.specs.PinnedValues.{OnlyLoads}
use Rattle.value_ops.specs.Reading.{ReadsOn}
use Rattle.value_ops.proofs.ReadRounds.{read_round}
use Rattle.value_ops.proofs.ValueFacts.{reads_both}
use Rattle.table_tests.proofs.values.reading_tests.value_is.Goals as goal

-- the pin, the reading and the unpin leave what the pass holds
pub returns-clause-learns : goal.returns-clause-learns
returns-clause-learns g c = let z : Sizes = key c.args.table.now in let call = call_of c.args.pass.now in let v = state c.args.pass.now in let w = state c.pin_at.new.pass in
    let first = c.reading-reading.result in let third = c.third_is.new.reading in let whole = c.whole_is.new.reading in let q = state first.pass.now in let x = state whole.pass.now in let u = state c.done.new.self.1.0 in
    let reads : ReadsOn first whole = reads_both first third whole c.third_is.ensures.reads c.whole_is.ensures.reads in
    let table : key first.table.now ≡ z = ap (λ t. key t.now) c.reading-reading.ensures.table in
    let now : call_of first.pass.now ≡ call = c.reading-reading.ensures.own.call ∙ c.pin_at.ensures.own.call in
    let only : OnlyLearns z call w q = subst (λ (i : ℕ). OnlyLearns z i w q) c.pin_at.ensures.own.call c.reading-reading.ensures.only.only in
    let loads : OnlyLoads z call q x = subst (λ (i : Sizes × ℕ). OnlyLoads i.0 i.1 q x) (λ i. (table i, now i)) reads.only in
    let undone : MeetsMore z call (with_pin None x) u = subst (λ (i : Sizes × ℕ). MeetsMore i.0 i.1 (with_pin None x) u) (λ i. ((ap (λ t. key t.now) reads.table ∙ table) i, (reads.stays.call ∙ now) i)) c.done.ensures.undone.meets in
    let all : OnlyLearns z call v u = read_round z call c.args.at.0 c.args.at.1 v w q x u c.requires.unpinned c.in-Ok.ensures.good.2 only loads undone in
    subst (λ (y : PassState). OnlyLearns z call v y) (search rules) all

pub returns-clause-own : goal.returns-clause-own
returns-clause-own g c = let whole : Stays c.args.pass.now c.done.new.self.1.0 = stays_both (stays_both (stays_both (stays_both c.pin_at.ensures.own c.reading-reading.ensures.own) c.third_is.ensures.reads.stays) c.whole_is.ensures.reads.stays) c.done.ensures.own in
    subst (λ (q : Pass). Stays c.args.pass.now q) (search rules) whole

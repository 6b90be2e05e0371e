use Rattle.std.proofs.Common.{rules, ◌≡◌, ℕ, None, ap, ◌∙◌, subst}
use Rattle.oak_model.specs.Limits.{Sizes}
use Rattle.oak_core.specs.Passes.{state, key, call_of}
use Rattle.value_ops.specs.Pinning.{with_pin, MeetsMore}
use Rattle.value_ops.specs.PinnedValues.{OnlyLoads}
use Rattle.value_ops.specs.Reading.{ReadsOn}
use Rattle.rounds.proofs.value.rounds.read_pinned.Goals as goal

pub returns-clause-undone : goal.returns-clause-undone
returns-clause-undone c = let z : Sizes = key c.args.table.now in let call = call_of c.args.pass.now in let first = c.reading-reading.result in let last = c.read_eight-read.new.reading in
    let q = state first.pass.now in let x = state last.pass.now in let u = state c.done.new.self.1.0 in
    let reads : ReadsOn first last = c.read_eight-read.ensures.reads in
    let table : key first.table.now ≡ z = ap (λ t. key t.now) c.reading-reading.ensures.table in
    let now : call_of first.pass.now ≡ call = c.reading-reading.ensures.own.call in
    let loads : OnlyLoads z call q x = subst (λ (i : Sizes × ℕ). OnlyLoads i.0 i.1 q x) (λ i. (table i, now i)) reads.only in
    let undone : MeetsMore z call (with_pin None x) u = subst (λ (i : Sizes × ℕ). MeetsMore i.0 i.1 (with_pin None x) u) (λ i. ((ap (λ t. key t.now) reads.table ∙ table) i, (reads.stays.call ∙ now) i)) c.done.ensures.undone.meets in
    (q, x, c.reading-reading.ensures.only.only, loads, search rules)

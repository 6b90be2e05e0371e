use Rattle.std.proofs.Common.{◌≡◌, ℕ, sym, refl, ap, subst}
use mathlib.Core.Option.{some}
use Rattle.oak_core.specs.Passes.{state, key, call_of}
use Rattle.oak_core.proofs.seats.SamePass.{stays_both}
use Rattle.value_ops.specs.Pinning.{KnowsLife}
use Rattle.value_ops.specs.PinnedValues.{FindsStamp, LearnsByLoads, ReadsLife}
use Rattle.value_ops.specs.Reading.{stamp, value}
use Rattle.value_ops.specs.Views.{Viewed}
use Rattle.value_ops.proofs.ViewFacts.{pinned_life, pinned_reads}
use Rattle.value_ops.proofs.views.read_view.Goals as goal

pub returns-in-Ok : goal.returns-in-Ok
returns-in-Ok c = let z = key c.args.table.now in let call = call_of c.args.pass.now in let x : Viewed = c.args.view.now in let v = state c.args.pass.now in let w = state c.pin.new.pass in let r = c.reading.result in let u = state r.pass.now in
    let good = c.in-Ok.ensures.good in let same : call_of c.pin.new.pass ≡ call = c.pin.ensures.own.call in
    let loads : LearnsByLoads z call w u = subst (λ (i : ℕ). LearnsByLoads z i w u) same c.reading.ensures.only in
    let found : FindsStamp z call x.header (stamp r) w u = subst (λ (i : ℕ × ℕ). FindsStamp z i.0 i.1 (stamp r) w u) (λ i. (same i, good.0 i)) c.reading.ensures.found in
    let life : ReadsLife x.header x.generation x.key (stamp r) (value r) w u = subst (λ (i : ℕ × ℕ). ReadsLife i.0 i.1 x.key (stamp r) (value r) w u) (λ i. (good.0 i, good.1 i))
    (c.reading.ensures.reads x.key (subst (λ (i : ℕ × ℕ). KnowsLife i.0 i.1 x.key w.knowledge) (λ i. (sym good.0 i, sym good.1 i)) (pinned_life z call x v w c.requires.1 good.2))) in (
      (ap some (sym c.reading.ensures.same_reference), (λ w. refl), tt),
      record {
        rests = tt;
        same_reference = c.reading.ensures.same_reference;
        table = c.reading.ensures.table;
        own = stays_both c.pin.ensures.own c.reading.ensures.own;
        reads = pinned_reads z call x v w c.requires.1 good.2 r loads found c.reading.ensures.reading life;
      },
    )

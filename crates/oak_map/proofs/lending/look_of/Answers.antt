use Rattle.std.proofs.Common.{◌≡◌, ℕ, List, sym, refl, ap, subst, Bor}
use mathlib.Core.Option.{some}
use Rattle.oak_core.specs.declared.table.OakTable.{OakTable}
use Rattle.oak_core.specs.Passes.{call_of, key as table_sizes, state as table_state}
use Rattle.oak_core.proofs.seats.SamePass.{stays_both}
use Rattle.value_ops.specs.Pinning.{KnowsLife}
use Rattle.value_ops.specs.PinnedValues.{FindsStamp, LearnsByLoads, ReadsLife}
use Rattle.value_ops.specs.Reading.{stamp, value}
use Rattle.value_ops.specs.Views.{Viewed}
use Rattle.oak_map.specs.Maps.{table_of}
use Rattle.oak_map.proofs.LentLives.{lends_life}
use Rattle.oak_map.proofs.lending.look_of.Goals as goal

pub returns-in-Some : goal.returns-in-Some
returns-in-Some g c = let z = table_sizes (table_of c.args.map.now) in let call = call_of c.args.pass.now in let x : Viewed = c.args.view.now in let v = table_state c.args.pass.now in let w = table_state c.find_life.new.pass in let r = c.reading.result in let u = table_state r.pass.now in
    let good = c.in-Some.ensures.pinned in let same : call_of c.find_life.new.pass ≡ call = c.find_life.ensures.own.call in (
      (ap some (sym c.reading.ensures.same_reference), (λ w. refl), tt),
      record {
        rests = tt;
        present = (
          c.reading.ensures.same_reference,
          c.reading.ensures.reading,
          ap (λ (t : Bor OakTable). t.now) c.reading.ensures.table,
          stays_both c.find_life.ensures.own c.reading.ensures.own,
          lends_life z call x v w r c.requires.idle good.2 c.requires.known c.reading.ensures.reading (ap (λ (t : Bor OakTable). table_sizes t.now) c.reading.ensures.table)
              (subst (λ (i : ℕ). LearnsByLoads z i w u) same c.reading.ensures.only) (subst (λ (i : ℕ × ℕ). FindsStamp z i.0 i.1 (stamp r) w u) (λ i. (same i, good.0 i)) c.reading.ensures.found)
              (subst (λ (i : ℕ × ℕ). (of : List ℕ) → KnowsLife i.0 i.1 of w.knowledge → ReadsLife i.0 i.1 of (stamp r) (value r) w u) (λ i. (good.0 i, good.1 i)) c.reading.ensures.reads),
        );
      },
    )

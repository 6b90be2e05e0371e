use Rattle.std.proofs.Common.{◌≡◌, ℕ, sym, refl, ap, subst, Bor}
use mathlib.Core.Option.{some}
use Rattle.oak_core.specs.declared.table.OakTable.{OakTable}
use Rattle.oak_core.specs.Passes.{call_of, key as table_sizes, state as table_state}
use Rattle.oak_core.proofs.seats.SamePass.{stays_both}
use Rattle.value_ops.specs.PinnedValues.{FindsStamp, LearnsByLoads}
use Rattle.value_ops.specs.Reading.{stamp}
use Rattle.oak_map.specs.Maps.{table_of}
use Rattle.oak_map.proofs.LentValues.{lends_value}
use Rattle.oak_map.proofs.lending.get_of.Goals as goal

pub returns-in-Value : goal.returns-in-Value
returns-in-Value g c = let z = table_sizes (table_of c.args.map.now) in let call = call_of c.args.pass.now in let v = table_state c.args.pass.now in let w = table_state c.find_value.new.pass in let r = c.reading.result in let u = table_state r.pass.now in
    let p = c.in-Value.pin in let same : call_of c.find_value.new.pass ≡ call = c.find_value.ensures.own.call in (
      (ap some (sym c.reading.ensures.same_reference), (λ w. refl), tt),
      record {
        rests = tt;
        present = (
          c.reading.ensures.same_reference,
          c.reading.ensures.reading,
          ap (λ (t : Bor OakTable). t.now) c.reading.ensures.table,
          stays_both c.find_value.ensures.own c.reading.ensures.own,
          lends_value z call c.args.key.now p.header p.generation v w r c.requires.idle c.in-Value.ensures.found c.reading.ensures.reading (ap (λ (t : Bor OakTable). table_sizes t.now) c.reading.ensures.table)
              (subst (λ (i : ℕ). LearnsByLoads z i w u) same c.reading.ensures.only) (subst (λ (i : ℕ). FindsStamp z i p.header (stamp r) w u) same c.reading.ensures.found) c.reading.ensures.reads,
        );
      },
    )

use Rattle.std.proofs.Common.{◌≡◌, ℕ, sym, refl, ap, subst, Bor}
use mathlib.Core.Option.{some}
use Rattle.oak_core.specs.declared.table.OakTable.{OakTable}
use Rattle.oak_core.specs.Passes.{call_of, key as sizes, state}
use Rattle.oak_core.proofs.seats.SamePass.{stays_both}
use Rattle.value_ops.specs.declared.pinning.HeaderPin.{HeaderPin}
use Rattle.value_ops.specs.PinnedValues.{FindsStamp, LearnsByLoads}
use Rattle.value_ops.specs.Reading.{stamp}
use Rattle.point_ops.specs.declared.lives.Pinned.{Pinned}
use Rattle.point_ops.specs.Pins.{PinsKey}
use Rattle.oak_map.specs.Finding.{FindsValue}
use Rattle.oak_map.proofs.LentValues.{lends_value}
use Rattle.oak_map.proofs.bare.get.try_get.Goals as goal

pub returns-in-Ok-Value : goal.returns-in-Ok-Value
returns-in-Ok-Value c = let z = sizes c.args.table.now in let call = call_of c.args.pass.now in let v = state c.args.pass.now in let w = state c.try_find_value.new.pass in let r = c.reading.result in let u = state r.pass.now in
    let p : HeaderPin = c.in-Ok-Value.pin in let pinned : PinsKey z call c.args.key.now p.header p.generation v w = subst (λ (y : Pinned). FindsValue y z call c.args.key.now v w) c.in-Ok-Value.field-0-is c.in-Ok-Value.ensures.found in
    let same : call_of c.try_find_value.new.pass ≡ call = c.try_find_value.ensures.own.call in (
      (ap some (sym c.reading.ensures.same_reference), (λ w. refl), tt),
      record {
        rests = tt;
        same_reference = c.reading.ensures.same_reference;
        lends = record {
          reading = c.reading.ensures.reading;
          table = ap (λ (t : Bor OakTable). t.now) c.reading.ensures.table;
          own = stays_both c.try_find_value.ensures.own c.reading.ensures.own;
          lends = lends_value z call c.args.key.now p.header p.generation v w r c.requires.idle pinned c.reading.ensures.reading (ap (λ (t : Bor OakTable). sizes t.now) c.reading.ensures.table)
              (subst (λ (i : ℕ). LearnsByLoads z i w u) same c.reading.ensures.only) (subst (λ (i : ℕ). FindsStamp z i p.header (stamp r) w u) same c.reading.ensures.found) c.reading.ensures.reads;
        };
      },
    )

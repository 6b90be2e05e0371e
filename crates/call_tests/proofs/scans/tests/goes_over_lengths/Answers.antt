use Rattle.std.proofs.Common.{◌∙◌}
use Rattle.call_tests.proofs.scans.tests.goes_over_lengths.Goals as goal

pub loop-i-preserved : goal.loop-i-preserved
loop-i-preserved g c = let s = c.loop-i.invariant in let e = c.goes_to_key.ensures in record {
  same_reference = e.same_reference ∙ s.same_reference;
  table = e.table ∙ s.table;
  own = record { table = e.own.table ∙ s.own.table; seat = e.own.seat ∙ s.own.seat; call = e.own.call ∙ s.own.call; scratch = e.own.scratch ∙ s.own.scratch; sorting = e.own.sorting };
  cursor = e.cursor;
  numbers = e.numbers ∙ s.numbers;
}

use Rattle.std.proofs.Common.{◌∙◌}
use Rattle.oak_core.specs.Passes.{state}
use Rattle.oak_core.proofs.seats.Alone.{numbers_alone}
use Rattle.call_tests.proofs.scans.tests.seven_pairs_in_four_rooms.Goals as goal

pub close-requires-clause-alone : goal.close-requires-clause-alone
close-requires-clause-alone g c = numbers_alone (state c.scan_all.new.pass) (c.scan_all.ensures.numbers ∙ (c.write_all.ensures.ready.numbers ∙ (λ i. (c.in_ok-table.ensures.first.0 i).numbers)))

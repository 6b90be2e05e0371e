use Rattle.std.proofs.Common.{◌∙◌}
use Rattle.oak_core.specs.Passes.{state}
use Rattle.oak_core.proofs.seats.Alone.{numbers_alone}
use Rattle.call_tests.proofs.rebalancing.linked_tests.keys_are_found_in_a_compacted_room.Goals as goal

pub close-requires-clause-alone : goal.close-requires-clause-alone
close-requires-clause-alone g c = numbers_alone (state c.still_are_found.new.pass) (c.still_are_found.ensures.ready.numbers ∙ (c.are_found.ensures.ready.numbers ∙ (λ i. (c.in_ok-table.ensures.first.0 i).numbers)))

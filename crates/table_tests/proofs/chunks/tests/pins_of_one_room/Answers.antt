use Rattle.std.proofs.Common.{◌∙◌}
use Rattle.oak_core.specs.Passes.{state}
use Rattle.oak_core.proofs.seats.Alone.{numbers_alone}
use Rattle.table_tests.proofs.chunks.tests.pins_of_one_room.Goals as goal

pub close-requires-clause-alone : goal.close-requires-clause-alone
close-requires-clause-alone g c = numbers_alone (state c.no_pin_left.new.pass) (c.no_pin_left.ensures.idle.numbers ∙ (c.keys_room-3.ensures.idle.numbers ∙ (c.keys_room-2.ensures.idle.numbers ∙ (c.keys_room.ensures.idle.numbers ∙ (c.last_keys.ensures.idle.numbers
    ∙ (λ i. (c.in_ok-table.ensures.first.0 i).numbers))))))

use Rattle.std.proofs.Common.{◌∙◌}
use Rattle.oak_core.specs.Passes.{state}
use Rattle.oak_core.proofs.seats.Alone.{numbers_alone}
use Rattle.table_tests.proofs.chunks.adding_tests.a_room_of_four.Goals as goal

pub close-requires-clause-alone : goal.close-requires-clause-alone
close-requires-clause-alone g c = numbers_alone (state c.no_pin_left.new.pass) (c.no_pin_left.ensures.idle.numbers ∙ (c.add_key-crowded.ensures.idle.numbers ∙ (c.adds_at-5.ensures.idle.numbers ∙ (c.adds_at-4.ensures.idle.numbers ∙ (c.neighbours.ensures.idle.numbers
    ∙ (c.adds_at-3.ensures.idle.numbers ∙ (c.adds_at-2.ensures.idle.numbers ∙ (c.adds_at.ensures.idle.numbers ∙ (λ i. (c.in_ok-table.ensures.first.0 i).numbers)))))))))

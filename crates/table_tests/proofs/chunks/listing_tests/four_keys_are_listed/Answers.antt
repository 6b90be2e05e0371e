use Rattle.std.proofs.Common.{◌∙◌}
use Rattle.oak_core.specs.Passes.{state}
use Rattle.oak_core.proofs.seats.Alone.{numbers_alone}
use Rattle.table_tests.proofs.chunks.listing_tests.four_keys_are_listed.Goals as goal

pub close-requires-clause-alone : goal.close-requires-clause-alone
close-requires-clause-alone g c = numbers_alone (state c.room_has-2.new.pass) (c.room_has-2.ensures.idle.numbers ∙ (c.adds_at-4.ensures.idle.numbers ∙ (c.adds_at-3.ensures.idle.numbers ∙ (c.adds_at-2.ensures.idle.numbers ∙ (c.adds_at.ensures.idle.numbers
    ∙ (c.room_has.ensures.idle.numbers ∙ (λ i. (c.in_ok-table.ensures.first.0 i).numbers)))))))

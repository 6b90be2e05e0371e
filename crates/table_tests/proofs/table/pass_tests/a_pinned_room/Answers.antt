use Rattle.oak_core.proofs.seats.Alone.{numbers_alone}
use Rattle.table_tests.proofs.table.pass_tests.a_pinned_room.Goals as goal

pub pin_and_unpin-requires-clause-alone : goal.pin_and_unpin-requires-clause-alone
pin_and_unpin-requires-clause-alone g c = numbers_alone _ (λ i. (c.in_ok-table.ensures.first.0 i).numbers)

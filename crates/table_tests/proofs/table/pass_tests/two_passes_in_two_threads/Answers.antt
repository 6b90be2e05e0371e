use Rattle.std.proofs.Common.{◌∙◌, ◌≡◌}
use Rattle.oak_core.specs.Passes.{state}
use Rattle.oak_core.proofs.seats.Alone.{numbers_alone}
use Rattle.table_tests.proofs.table.pass_tests.two_passes_in_two_threads.Goals as goal

pub split_and_join-requires-clause-alone : goal.split_and_join-requires-clause-alone
split_and_join-requires-clause-alone g c _ = let same : state c.turn.new.self ≡ state c.in_ok-table.pass = (λ i. (c.turn.ensures.state i).0) in numbers_alone _ ((λ i. (same i).numbers) ∙ (λ i. (c.in_ok-table.ensures.first.0 i).numbers))

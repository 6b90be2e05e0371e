use Rattle.std.proofs.Common.{◌∙◌}
use Rattle.oak_core.specs.Passes.{state}
use Rattle.oak_core.proofs.seats.Alone.{numbers_alone}
use Rattle.call_tests.proofs.rebalancing.random_tests.run_calls.Goals as goal

pub ends_as-requires-clause-alone : goal.ends_as-requires-clause-alone
ends_as-requires-clause-alone g c = numbers_alone (state c.call_all-called.new.pass) (c.call_all-called.ensures.ready.numbers ∙ (λ i. (c.in_ok-table.ensures.first.0 i).numbers))

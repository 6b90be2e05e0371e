use Rattle.std.proofs.Common.{◌∙◌}
use Rattle.oak_core.specs.Passes.{state}
use Rattle.value_ops.proofs.OneHeaderLaws.{alone_else}
use Rattle.table_tests.proofs.values.claiming_tests.one_header.Goals as goal

pub close-requires-clause-alone : goal.close-requires-clause-alone
close-requires-clause-alone g c = alone_else (state c.in_ok-table.pass) (state c.fill_and_withdraw.new.pass) (λ i. (c.in_ok-table.ensures.first.0 i).numbers) (c.fill_and_withdraw.ensures.rest.numbers ∙ c.claim_and_release.ensures.rest.numbers)

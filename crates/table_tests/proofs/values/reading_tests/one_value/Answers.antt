use Rattle.oak_core.specs.Passes.{state}
use Rattle.value_ops.proofs.OneHeaderLaws.{alone_else}
use Rattle.table_tests.proofs.values.reading_tests.one_value.Goals as goal

pub close-requires-clause-alone : goal.close-requires-clause-alone
close-requires-clause-alone g c = alone_else (state c.in_ok-table.pass) (state c.three_bytes.new.pass) (λ i. (c.in_ok-table.ensures.first.0 i).numbers) c.three_bytes.ensures.rest.numbers

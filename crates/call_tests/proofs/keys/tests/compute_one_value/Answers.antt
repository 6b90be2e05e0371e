use Rattle.std.proofs.Common.{◌∙◌}
use Rattle.oak_core.specs.Passes.{state}
use Rattle.oak_core.proofs.seats.Alone.{numbers_alone}
use Rattle.call_tests.proofs.keys.tests.compute_one_value.Goals as goal

pub split_and_flip-requires-clause-alone : goal.split_and_flip-requires-clause-alone
split_and_flip-requires-clause-alone g c _ _ = numbers_alone (state c.put_byte-new.new.pass) (c.put_byte-new.ensures.ready.numbers ∙ (λ i. (c.in_ok-table.ensures.first.0 i).numbers))

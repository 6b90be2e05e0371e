use Rattle.std.proofs.Common.{◌∙◌}
use Rattle.oak_map.specs.Maps.{state}
use Rattle.map_tests.proofs.TestLaws.{alone_still}
use Rattle.map_tests.proofs.map.index_tests.settling_names_the_open_chunks.Goals as goal

pub close-requires-clause-alone : goal.close-requires-clause-alone
close-requires-clause-alone g c κs = alone_still (state c.in_ok-map.pass) (state c.all_are_hinted-2.new.pass)
    (c.all_are_hinted-2.ensures.ready.numbers ∙ (c.settle.ensures.ready.numbers ∙ (c.remove_most.ensures.ready.numbers ∙ (c.all_are_hinted.ensures.ready.numbers ∙ c.put_all.ensures.ready.numbers)))) c.in_ok-map.ensures.alone

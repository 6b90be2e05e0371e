use Rattle.value_ops.proofs.ValueFacts.{reads_both}
use Rattle.table_tests.proofs.values.reading_tests.whole_is.Goals as goal

pub returns-clause-reads : goal.returns-clause-reads
returns-clause-reads g c = let q = c.args.reading.now in let r = c.same_is.new.reading in let s = c.front_is.new.reading in let t = c.copy_is.new.reading in let u = c.prefix_is.new.reading in
    reads_both q u c.vector_is.new.reading (reads_both q t u (reads_both q s t (reads_both q r s c.same_is.ensures.reads c.front_is.ensures.reads) c.copy_is.ensures.reads) c.prefix_is.ensures.reads) c.vector_is.ensures.reads

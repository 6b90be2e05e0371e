use Rattle.value_ops.specs.declared.reading.Reading.{Reading}
use Rattle.value_ops.specs.Reading.{ReadsOn}
use Rattle.value_ops.proofs.ValueFacts.{reads_both}
use Rattle.rounds.proofs.value.rounds.read_parts.Goals as goal

pub returns-clause-reads : goal.returns-clause-reads
returns-clause-reads c = let first : Reading = c.args.reading.now in let byte : Reading = c.byte.new.self in let same : Reading = c.same.new.self in let eight : Reading = c.eight-eight.new.self in let last : Reading = c.copy_into.new.self in
    let two : ReadsOn first same = reads_both first byte same c.byte.ensures.reads c.same.ensures.reads in
    reads_both first eight last (reads_both first same eight two c.eight-eight.ensures.reads) c.copy_into.ensures.reads

-- What contracts see of a writer: the pairs that are published, and those that are not yet.
use Rattle.std.specs.Prelude.{List}
use Rattle.left_right.specs.Handles.{published, pending}
use Rattle.chunk_index.specs.Lows.{Low}
use Rattle.chunk_index.specs.declared.writers.IndexWriter.{IndexWriter}

abbrev pub minima : {R : Type 0} → IndexWriter R → List Low
minima w = published w.writer

abbrev pub waiting : {R : Type 0} → IndexWriter R → List Low
waiting w = pending w.writer

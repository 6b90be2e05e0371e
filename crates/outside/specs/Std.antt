-- What contracts see of the sources and sinks over std's readers and writers.
use Rattle.std.specs.Prelude.{ℕ}
use Rattle.outside.specs.declared.std_sink.StdSink.{StdSink}
use Rattle.outside.specs.declared.std_source.StdSource.{StdSource}

-- the reader below a source
abbrev pub reader_of : {R : Type 0} → StdSource R → R
reader_of s = s.inner

-- how many of its reads failed
abbrev pub read_faults : {R : Type 0} → StdSource R → ℕ
read_faults s = s.faults

-- the writer below a sink
abbrev pub writer_of : {W : Type 0} → StdSink W → W
writer_of s = s.inner

-- how many of its writes failed
abbrev pub write_faults : {W : Type 0} → StdSink W → ℕ
write_faults s = s.faults

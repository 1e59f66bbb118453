-- What is seen of the adapters: what they read from or write to, and how often a call failed.
use Rattle.std.specs.Prelude.{ℕ, List}
use Rattle.real_outside.specs.declared.reader_source.ReaderSource.{ReaderSource}
use Rattle.real_outside.specs.declared.writer_sink.WriterSink.{WriterSink}

-- the reader of a source
abbrev pub reader_of : {R : Type 0} → ReaderSource R → R
reader_of s = s.reader

abbrev pub source_faults : {R : Type 0} → ReaderSource R → ℕ
source_faults s = s.faults

-- the writer of a sink
abbrev pub writer_of : {W : Type 0} → WriterSink W → W
writer_of s = s.writer

abbrev pub sink_faults : {W : Type 0} → WriterSink W → ℕ
sink_faults s = s.faults

abbrev pub written_by : {W : Type 0} → WriterSink W → List ℕ
written_by s = s.log.bytes

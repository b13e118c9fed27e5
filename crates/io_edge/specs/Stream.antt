-- What a sink over a writer is seen as.
use Rattle.io_edge.specs.declared.std_sink.StdSink.{StdSink}

-- the writer that it writes to
abbrev pub sink_writer : {C W : Type 0} → StdSink C W → W
sink_writer s = s.writer

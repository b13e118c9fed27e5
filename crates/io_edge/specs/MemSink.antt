-- What a sink in memory is seen as.
use Rattle.std.specs.Prelude.{ℕ, List, Option}
use Rattle.io_edge.specs.declared.mem_sink.MemSink.{MemSink}

-- what it took so far
abbrev pub sink_bytes : MemSink → List ℕ
sink_bytes m = m.bytes.items

-- how many bytes it may take in all, if there is a limit
abbrev pub sink_room : MemSink → Option ℕ
sink_room m = m.room

-- how often it failed
abbrev pub sink_faults : MemSink → ℕ
sink_faults m = m.faults

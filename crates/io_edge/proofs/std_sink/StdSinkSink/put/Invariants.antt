use Rattle.std.proofs.Common.{length, ◌-◌, ◌≡◌, ◌≤◌, take}
use Rattle.std.specs.Io.KnownBytes.{Appends}
use Rattle.io_edge.proofs.std_sink.StdSinkSink.put.Given as goal

-- the front up to `at` is written
abbrev pub invariant-loop-at : goal.invariant-loop-at
invariant-loop-at g l = (l.at ≤ length l.bytes)
    × (Appends (g.W.Write.contents l.initial.self.writer) (g.W.Write.contents l.self.writer) (take l.at l.bytes))
    × (l.self.faults ≡ l.initial.self.faults)

-- what is left
abbrev pub decreases-loop-at : goal.decreases-loop-at
decreases-loop-at g l = length l.bytes - l.at

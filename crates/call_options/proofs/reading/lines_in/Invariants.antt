use Rattle.std.proofs.Common.{◌≡◌, ◌≤◌, ◌+◌, drop}
use Rattle.call_options.specs.Outcome.{line_feeds}
use Rattle.call_options.proofs.reading.lines_in.Given as goal

-- the line feeds so far and those that are left
abbrev pub invariant-loop-byte : goal.invariant-loop-byte
invariant-loop-byte l = (l.lines + line_feeds (drop l.byte-index l.bytes) ≡ 1 + line_feeds l.bytes) × (l.lines ≤ 1 + l.byte-index)

use Rattle.std.proofs.Common.{◌≤◌, vec_len}
use Rattle.text_base.specs.declared.limits.TheConstants.{FILE_LIMIT}
use Rattle.std.specs.Io.KnownBytes.{Consumes}
use Rattle.io_edge.proofs.disk_files.read_bytes.Given as goal

-- what was read is gone from the reader, and is no more than a file may have
abbrev pub invariant-loop : goal.invariant-loop
invariant-loop g l = (vec_len l.bytes ≤ FILE_LIMIT)
    × Consumes (g.R.Read.remaining l.initial.reader) (g.R.Read.remaining l.reader) l.bytes.items

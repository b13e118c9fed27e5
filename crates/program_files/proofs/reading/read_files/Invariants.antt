use Rattle.std.proofs.Common.{◌+◌, ◌-◌, ◌≤◌, length}
use Rattle.io_edge.specs.Told.{Stays}
use Rattle.program_rules.specs.declared.limits.TheConstants.{PLACE_LIMIT}
use Rattle.program_files.specs.View.{files_of}
use Rattle.program_files.specs.Source.{source_call}
use Rattle.program_files.specs.Steps.{state}
use Rattle.program_files.proofs.HasRead.{HasRead}
use Rattle.program_files.proofs.reading.read_files.Given as goal

-- the files are read in order so far, and what the source told stays told
abbrev pub invariant-loop-known : goal.invariant-loop-known
invariant-loop-known g l =
    HasRead (source_call (g.F.Files.content l.source) (g.F.Files.faults l.fn.source) (g.F.Files.faults l.source) (g.F.Files.misses l.fn.source) (g.F.Files.misses l.source) (g.F.Files.reads l.fn.source) (g.F.Files.reads l.source)) l.root l.name
    (state (files_of l.known.files) l.known.missed.keys l.includes)
    × (length l.known.missed.keys ≤ PLACE_LIMIT) × Stays (g.F.Files.content l.fn.source) (g.F.Files.content l.source)

abbrev pub decreases-loop-known : goal.decreases-loop-known
decreases-loop-known g l = (PLACE_LIMIT + 2 - length (files_of l.known.files)) + (PLACE_LIMIT + 1 - length l.known.missed.keys)

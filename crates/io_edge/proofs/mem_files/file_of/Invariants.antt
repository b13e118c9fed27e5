use Rattle.std.proofs.Common.{◌≡◌, length}
use Rattle.io_edge.specs.Planned.{file_named}
use Rattle.io_edge.proofs.mem_files.file_of.Given as goal

-- the file is found in what is left, or nowhere
abbrev pub invariant-loop-rest : goal.invariant-loop-rest
invariant-loop-rest l = file_named l.name l.rest ≡ file_named l.name l.files

abbrev pub decreases-loop-rest : goal.decreases-loop-rest
decreases-loop-rest l = length l.rest

use Rattle.std.proofs.Common.{◌≡◌, ◌++◌, drop}
use Rattle.program_files.specs.View.{files_of}
use Rattle.include_expansion.specs.FileEdges.{places_of}
use Rattle.include_expansion.proofs.edges.places.Given as goal

-- what is found, before what is left to find
abbrev pub invariant-loop-path : goal.invariant-loop-path
invariant-loop-path l = l.found.items ++ places_of (files_of l.files) (drop l.path-index l.paths) ≡ places_of (files_of l.files) l.paths

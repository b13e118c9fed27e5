use Rattle.program_files.specs.View.{files_of}
use Rattle.include_expansion.proofs.EdgeLemmas.{AreFirstEdges}
use Rattle.include_expansion.proofs.edges.edges_of.Given as goal

abbrev pub invariant-loop-place : goal.invariant-loop-place
invariant-loop-place l = AreFirstEdges (files_of l.files) l.edges.items l.place

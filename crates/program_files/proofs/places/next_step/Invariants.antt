use Rattle.std.proofs.Common.{length}
use Rattle.program_files.specs.View.{files_of}
use Rattle.program_files.specs.Steps.{Passes, AreTexts}
use Rattle.program_files.proofs.places.next_step.Given as goal

-- the includes before were passed over
abbrev pub invariant-loop-file : goal.invariant-loop-file
invariant-loop-file l = Passes l.home.root.now l.home.main.now (files_of l.known.files) l.known.missed.keys l.initial.includes l.includes × AreTexts l.includes

abbrev pub decreases-loop-file : goal.decreases-loop-file
decreases-loop-file l = length l.includes

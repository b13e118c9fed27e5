use Rattle.std.proofs.Common.{length, map, string_bytes}
use Rattle.several_files.specs.Calls.{HasAnswered}
use Rattle.several_files.specs.Endings.{moment_of}
use Rattle.several_files.specs.Views.{answer_as, file_as}
use Rattle.several_files.proofs.calls.answers_for.Given as goal

-- the first files have their answers
abbrev pub invariant-loop-file : goal.invariant-loop-file
invariant-loop-file g l =
    HasAnswered (map string_bytes l.options) (moment_of g.F.Files.content g.F.Files.faults g.F.Files.misses l.initial.files)
    (moment_of g.F.Files.content g.F.Files.faults g.F.Files.misses l.files) (map file_as l.asked) (map file_as l.rest) (map answer_as l.answers.items)

abbrev pub decreases-loop-file : goal.decreases-loop-file
decreases-loop-file g l = length l.rest

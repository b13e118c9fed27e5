use Rattle.std.proofs.Common.{take, map}
use Rattle.std.specs.Prelude.{string_bytes}
use Rattle.site_check.specs.Site.{moment, AreAnswered}
use Rattle.site_check.proofs.sites.site.Given as goal

-- the lines so far are answers for the names so far
abbrev pub invariant-loop-name : goal.invariant-loop-name
invariant-loop-name g l =
    AreAnswered (g.A.Answers.may l.answers)
    (moment (g.F.Files.content l.initial.files) (g.F.Files.faults l.initial.files) (g.F.Files.misses l.initial.files))
    (moment (g.F.Files.content l.files) (g.F.Files.faults l.files) (g.F.Files.misses l.files))
    (map string_bytes (take l.name-index l.names)) l.lines.items

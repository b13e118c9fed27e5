use Rattle.std.proofs.Common.{◌≡◌, ◌++◌, length, map}
use Rattle.std.specs.Prelude.{string_bytes}
use Rattle.site_check.specs.Report as spec
use Rattle.site_check.proofs.reporting.report.Given as goal

-- what is written, and what is left to write
abbrev pub invariant-loop-name : goal.invariant-loop-name
invariant-loop-name l = l.text ++ spec.report (map string_bytes l.rest) l.left ≡ spec.report (map string_bytes l.names) l.lines

abbrev pub decreases-loop-name : goal.decreases-loop-name
decreases-loop-name l = length l.rest

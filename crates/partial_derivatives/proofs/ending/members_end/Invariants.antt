use Rattle.std.proofs.Common.{◌≡◌, drop}
use Rattle.derivatives.specs.Derivatives.{all_may_end}
use Rattle.partial_derivatives.specs.Parts.{members_from}
use Rattle.partial_derivatives.proofs.ending.members_end.Given as goal

-- what is left decides
abbrev pub invariant-loop-member : goal.invariant-loop-member
invariant-loop-member l = all_may_end (members_from l.arena (drop l.member-index l.members)) ≡ all_may_end (members_from l.arena l.members)

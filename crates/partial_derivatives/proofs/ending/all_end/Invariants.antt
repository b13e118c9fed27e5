use Rattle.std.proofs.Common.{◌≡◌, drop}
use Rattle.partial_derivatives.specs.Parts.{all_end}
use Rattle.partial_derivatives.proofs.ending.all_end.Given as goal

-- what is left decides
abbrev pub invariant-loop-part : goal.invariant-loop-part
invariant-loop-part l = all_end l.arena (drop l.part-index l.parts) ≡ all_end l.arena l.parts

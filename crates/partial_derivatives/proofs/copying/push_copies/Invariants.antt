use Rattle.std.proofs.Common.{◌≡◌, ◌++◌, drop}
use Rattle.partial_derivatives.proofs.copying.push_copies.Given as goal

-- what is copied, before what is left to copy
abbrev pub invariant-loop-part : goal.invariant-loop-part
invariant-loop-part l = l.row ++ drop l.part-index l.parts ≡ l.fn.row ++ l.parts

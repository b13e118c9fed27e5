use Rattle.std.proofs.Common.{◌≡◌, length}
use Rattle.piece_reasons.specs.Openers.{from_first}
use Rattle.piece_reasons.proofs.finding.from_first.Given as goal

abbrev pub invariant-loop-rest : goal.invariant-loop-rest
invariant-loop-rest l = from_first l.word l.left ≡ from_first l.word l.cs

abbrev pub decreases-loop-rest : goal.decreases-loop-rest
decreases-loop-rest l = length l.left

use Rattle.std.proofs.Common.{length}
use Rattle.form_maker.specs.Making.{making_of}
use Rattle.form_maker.specs.Words.{word_before}
use Rattle.form_maker.proofs.Before.{Goes}
use Rattle.form_maker.proofs.maker.Maker.word_before.Given as goal

-- what puts the bytes that are left before the last expression puts all of them before the one of the beginning
abbrev pub invariant-loop-last : goal.invariant-loop-last
invariant-loop-last l = Goes (word_before l.left) (word_before l.fn.word) (making_of l.fn.self) (making_of l.self)

abbrev pub decreases-loop-last : goal.decreases-loop-last
decreases-loop-last l = length l.left

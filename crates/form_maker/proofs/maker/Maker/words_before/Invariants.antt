use Rattle.std.proofs.Common.{length}
use Rattle.form_maker.specs.Making.{making_of}
use Rattle.form_maker.specs.Words.{word_test, words_before}
use Rattle.form_maker.proofs.Before.{Goes}
use Rattle.form_maker.proofs.maker.Maker.words_before.Given as goal

-- what puts the words that are left before the last expression puts all of them before the one of the beginning
abbrev pub invariant-loop-last : goal.invariant-loop-last
invariant-loop-last l = Goes (words_before (word_test l.fn.test) l.left) (words_before (word_test l.fn.test) l.fn.words) (making_of l.fn.self) (making_of l.self)

abbrev pub decreases-loop-last : goal.decreases-loop-last
decreases-loop-last l = length l.left

use Rattle.string_functions.proofs.FailureLemmas.{falling_first, falling_more, falling_found, falling_none}
use Rattle.std.proofs.Common.{arith, length}
use Rattle.string_functions.proofs.failure.next_part.Goals as goal
use Rattle.string_functions.proofs.failure.next_part.Goals.{then-loop-part-test+else-pattern-part, else-loop-part-test}

pub loop-part-init : goal.loop-part-init
loop-part-init c = falling_first c.args.pattern.now c.args.at c.args.byte

pub loop-part-preserved : goal.loop-part-preserved
loop-part-preserved c =
    falling_more c.args.pattern.now c.args.failures.now c.args.at c.args.byte c.loop-part.part (length c.args.pattern.now) c.requires.failures (omega (arith, c.requires.at)) c.loop-part.invariant c.loop-part-test.true c.if-pattern-part.true

pub returns-then-pattern-part-2 : goal.returns-then-pattern-part-2
returns-then-pattern-part-2 c = falling_found c.args.pattern.now c.args.at c.args.byte c.loop-part.part c.requires.at c.loop-part.invariant c.if-pattern-part-2.true

pub returns-else-pattern-part-2 : goal.returns-else-pattern-part-2
returns-else-pattern-part-2 c = elim c.loop-part-test.branch [
  | then-loop-part-test+else-pattern-part w ↦ absurd (c.if-pattern-part-2.false w.if-pattern-part.false)
  | else-loop-part-test w ↦
      falling_none c.args.pattern.now c.args.at c.args.byte c.loop-part.part c.requires.at c.loop-part.invariant w.loop-part-test.false c.if-pattern-part-2.false
]

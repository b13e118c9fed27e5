use Rattle.std.proofs.Common.{arith, ◌≤◌}
use Rattle.string_functions.proofs.FailureLemmas.{shortened_first, shortened_more, failure_found, failure_none}
use Rattle.string_functions.proofs.failure.next_failure.Goals as goal
use Rattle.string_functions.proofs.failure.next_failure.Goals.{then-loop-part-test+else-pattern-part, else-loop-part-test}

pub loop-part-init : goal.loop-part-init
loop-part-init c = shortened_first c.args.pattern.now c.args.failures.now c.args.at c.if-at-eq0.false c.requires.before

pub loop-part-preserved : goal.loop-part-preserved
loop-part-preserved c =
    shortened_more c.args.pattern.now c.args.failures.now c.args.at c.loop-part.part c.requires.before c.loop-part.invariant c.loop-part-test.true c.if-pattern-part.true

pub returns-then-pattern-part-2 : goal.returns-then-pattern-part-2
returns-then-pattern-part-2 c =
    failure_found c.args.pattern.now c.args.at c.loop-part.part c.requires.at c.loop-part.invariant c.if-pattern-part-2.true

pub returns-else-pattern-part-2 : goal.returns-else-pattern-part-2
returns-else-pattern-part-2 c = elim c.loop-part-test.branch [
  | then-loop-part-test+else-pattern-part w ↦ absurd (c.if-pattern-part-2.false w.if-pattern-part.false)
  | else-loop-part-test w ↦
      failure_none c.args.pattern.now c.args.at c.loop-part.part c.requires.at c.loop-part.invariant w.loop-part-test.false c.if-pattern-part-2.false
]

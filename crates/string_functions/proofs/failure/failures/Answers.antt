use Rattle.std.proofs.Common.{List, ℕ, [], subst, sym}
use Rattle.string_functions.specs.Failure.{AreFailures}
use Rattle.string_functions.proofs.FailureLemmas.{failures_none, failures_more}
use Rattle.string_functions.proofs.failure.failures.Goals as goal

pub loop-at-init : goal.loop-at-init
loop-at-init c = subst (λ (x : List ℕ). AreFailures c.args.pattern.now x 0) (sym c.new-failures.ensures.items) (failures_none c.args.pattern.now)

pub loop-at-preserved : goal.loop-at-preserved
loop-at-preserved c =
    failures_more c.args.pattern.now c.loop-at.failures.items c.push.new.self.items c.loop-at.at c.next_failure-next.result c.loop-at.invariant c.in_ok-push.ensures.items c.next_failure-next.ensures

pub next_failure-next-requires-clause-before : goal.next_failure-next-requires-clause-before
next_failure-next-requires-clause-before c = rw c.as_slice.ensures.value c.loop-at.invariant

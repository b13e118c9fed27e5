use Rattle.std.proofs.Common.{ℕ, sym, subst}
use Rattle.policy_matching.specs.Outside.{HasDerivatives}
use Rattle.policy_matching.proofs.RowLemmas.{has_derivatives}
use Rattle.policy_matching.proofs.exploring.within_limit.Goals as goal

pub returns-then-count-gt-STATE_LIMIT : goal.returns-then-count-gt-STATE_LIMIT
returns-then-count-gt-STATE_LIMIT c e are = (
  c.if-count-gt-STATE_LIMIT.true,
  subst (λ (n : ℕ). HasDerivatives e n) (sym c.count-count.ensures.length)
      (has_derivatives e c.args.arena.now c.args.places.now.keys are c.count-count.ensures.different c.len-each_once.ensures.once),
)

use Rattle.summary_decision.proofs.KnownLemmas.{not_absent}
use Rattle.summary_decision.proofs.joining.sum_at.Goals as goal

pub unreachable-requires : goal.unreachable-requires
unreachable-requires g c = not_absent c.args.sums.now.keys c.args.number c.requires c.in_default.ensures.key

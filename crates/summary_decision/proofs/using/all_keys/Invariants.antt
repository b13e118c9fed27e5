use Rattle.std.proofs.Common.{◌≡◌, ◌++◌, drop, false, get_or, map}
use Rattle.summary_decision.specs.Joints.{number_by}
use Rattle.summary_decision.specs.Using.{key_of}
use Rattle.summary_decision.proofs.using.all_keys.Given as goal

abbrev pub invariant-loop-production : goal.invariant-loop-production
invariant-loop-production l =
    l.keys.items ++ map (λ p. key_of l.count (get_or l.useful p.left.0 false) (number_by l.side p.right)) (drop l.production-index l.productions) ≡ map (λ p. key_of l.count (get_or l.useful p.left.0 false) (number_by l.side p.right)) l.productions

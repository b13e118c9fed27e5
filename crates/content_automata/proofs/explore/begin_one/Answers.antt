use Rattle.std.proofs.Common.{subst, ◌⊎◌, ◌≡◌, Contains}
use Rattle.content_automata.specs.Tables.{Key}
use Rattle.content_automata.proofs.ReachLemmas.{one_reached}
use Rattle.content_automata.proofs.explore.begin_one.Goals as goal

pub returns-clause-reached : goal.returns-clause-reached
returns-clause-reached c = λ all.
    one_reached _ c.args.keys.now.keys c.number.new.keys.keys c.args.element _ c.model_at.ensures all
    (subst (λ f. (k : Key) → Contains c.number.new.keys.keys k → Contains c.args.keys.now.keys k ⊎ (k ≡ (c.args.element, f))) c.in_ok-first.ensures c.number.ensures.only)

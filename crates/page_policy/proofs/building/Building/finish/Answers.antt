use Rattle.page_policy.proofs.PutLemmas.{none_last, built}
use Rattle.page_policy.proofs.building.Building.finish.Goals as goal

pub returns : goal.returns
returns c = λ s h.
    built c.args.self c.joined.new.self.arena c.in_ok-root.root s (none_last c.args.self.outer c.last.result c.if-is_some.ensures c.last.ensures) h c.in_ok-root.ensures.made

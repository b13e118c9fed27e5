use Rattle.page_policy.proofs.PutLemmas.{joined_made, joined_keeps}
use Rattle.page_policy.proofs.building.Building.joined.Goals as goal

pub returns-in-Some-clause-made : goal.returns-in-Some-clause-made
returns-in-Some-clause-made c =
    joined_made c.args.self.now.arena c.either.new.self c.args.self.now.row c.in-Some.others c.args.self.now.others c.args.self.now.outer c.either.result c.in-Some.is c.either.ensures.made

pub returns-in-Some-clause-keeps : goal.returns-in-Some-clause-keeps
returns-in-Some-clause-keeps c =
    joined_keeps c.args.self.now.arena c.either.new.self c.args.self.now.row c.args.self.now.others c.args.self.now.outer c.either.result c.either.ensures.keeps

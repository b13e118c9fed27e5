use Rattle.std.proofs.Common.{rules}
use Rattle.derivatives.proofs.NodeLemmas.{parts_of_node, expr_shown, members_shown}
use Rattle.derivatives.proofs.arena.Arena.node.Goals as goal

pub returns-clause-parts : goal.returns-clause-parts
returns-clause-parts c = (parts_of_node c.args.self.now c.args.place c.in-Some.node.now (search rules)).1

pub returns-clause-expression : goal.returns-clause-expression
returns-clause-expression c = expr_shown c.args.self.now c.args.place c.in-Some.node.now (search rules)

pub returns-clause-members : goal.returns-clause-members
returns-clause-members c = members_shown c.args.self.now c.args.place c.in-Some.node.now (search rules)

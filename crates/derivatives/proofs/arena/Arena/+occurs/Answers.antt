use Rattle.derivatives.proofs.Choices.{occurs_not, occurs_first, occurs_behind, occurs_last}
use Rattle.derivatives.proofs.arena.Arena.+occurs.Goals as goal

pub returns-then-y-x : goal.returns-then-y-x
returns-then-y-x t c = occurs_not c.args.self.now c.len-count.ensures.once c.args.x c.args.y c.requires.first c.requires.second c.if-y-x.true

pub returns-then-first-x : goal.returns-then-first-x
returns-then-first-x t c = occurs_first c.args.self.now c.args.x c.args.y c.in-Some.first c.in-Some.second c.in-Some.ensures.some c.if-first-x.true

pub returns-else-first-x : goal.returns-else-first-x
returns-else-first-x t c = occurs_behind c.args.self.now c.len-count.ensures.once c.args.x c.args.y c.in-Some.first c.in-Some.second c.occurs.result c.requires.first c.in-Some.ensures.some c.if-first-x.false c.occurs.ensures

pub returns-in-None : goal.returns-in-None
returns-in-None t c = occurs_last c.args.self.now c.len-count.ensures.once c.args.x c.args.y c.requires.first c.requires.second c.in-None.ensures.none

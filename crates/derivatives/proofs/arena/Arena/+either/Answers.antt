use Rattle.derivatives.proofs.Choices.{if_ok, either_step}
use Rattle.derivatives.proofs.arena.Arena.+either.Goals as goal

pub returns-in_ok-rest-in-Some-clause-made : goal.returns-in_ok-rest-in-Some-clause-made
returns-in_ok-rest-in-Some-clause-made t c = if_ok c.either-in-Some.result
    (λ r two. either_step c.args.self.now c.either.new.self c.either-in-Some.new.self c.args.x c.args.y c.in-Some.first c.in-Some.second c.in_ok-rest-in-Some.rest r c.in-Some.ensures.some c.in_ok-rest-in-Some.ensures.keeps c.in_ok-rest-in-Some.ensures.made two) c.either-in-Some.ensures.made

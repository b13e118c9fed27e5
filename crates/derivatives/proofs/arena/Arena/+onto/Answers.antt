use Rattle.derivatives.proofs.Choices.{if_ok}
use Rattle.derivatives.proofs.BehindLemmas.{grows_on, onto_step}
use Rattle.derivatives.proofs.arena.Arena.+onto.Goals as goal

pub returns-in_ok-next-in-Some-clause-made : goal.returns-in_ok-next-in-Some-clause-made
returns-in_ok-next-in-Some-clause-made t c = if_ok c.onto.result
    (λ r two. onto_step c.args.self.now c.member.new.self c.onto.new.self c.args.front c.args.list c.in-Some.x c.in-Some.rest c.in_ok-next-in-Some.next r c.in-Some.required
    c.in-Some.ensures.some c.requires.list c.in_ok-next-in-Some.ensures.keeps c.in_ok-next-in-Some.ensures.made two) c.onto.ensures.made

pub returns-in_ok-next-in-Some-clause-keeps : goal.returns-in_ok-next-in-Some-clause-keeps
returns-in_ok-next-in-Some-clause-keeps t c = grows_on c.args.self.now c.member.new.self c.onto.new.self c.in_ok-next-in-Some.ensures.keeps c.onto.ensures.keeps

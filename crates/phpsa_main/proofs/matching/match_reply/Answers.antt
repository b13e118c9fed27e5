use Rattle.phpsa_main.proofs.matching.match_reply.Goals as goal

pub returns-in-Ok-match_message : goal.returns-in-Ok-match_message
returns-in-Ok-match_message c p form = (c.in-Ok.answer, (c.in-Ok.ensures.answer p form, c.in-Ok.ensures.sound p form), c.in-Ok-match_message.ensures)

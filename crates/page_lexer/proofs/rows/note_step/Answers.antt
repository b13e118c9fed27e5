use Rattle.page_lexer.proofs.rows.note_step.Goals as goal

pub set_step-requires-clause-new : goal.set_step-requires-clause-new
set_step-requires-clause-new c = λ s k. c.requires s (c.reach.ensures.known c.args.state.0 c.args.byte s k)

use Rattle.script_decision.proofs.shortest_searching.steps_below.Goals as goal

pub returns-in-Ok-Bad : goal.returns-in-Ok-Bad
returns-in-Ok-Bad c program is_grammar = rw c.in-Ok-Bad.field-0-is at (c.in-Ok-Bad.ensures program is_grammar)

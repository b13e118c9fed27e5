use Rattle.grammar_image.specs.Lasts.{AreLastsBelow}
use Rattle.grammar_image.proofs.ends.lasts_of.Given as goal

abbrev pub invariant-loop-number : goal.invariant-loop-number
invariant-loop-number g l = AreLastsBelow (g.M.Machine.ends l.machine) l.states.keys l.number l.lasts.items

use Rattle.std.proofs.Common.{ap, sym, ◌∙◌}
use Rattle.expr_machine.specs.Machine as machine
use Rattle.expr_machine.specs.Machine.{Move, moves}
use Rattle.expr_parser.proofs.NextLemmas as nl
use Rattle.expr_parser.proofs.operands.operator_next.Goals as goal

pub returns-in-None : goal.returns-in-None
returns-in-None c = sym (nl.operator_next_other _ _ c.in-None.ensures)

pub returns-in-Some : goal.returns-in-Some
returns-in-Some c = c.operator_of.ensures ∙ sym (ap (machine.operator_next c.args.level) c.in-Some.ensures)

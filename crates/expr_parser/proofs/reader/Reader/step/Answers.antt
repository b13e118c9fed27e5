use Rattle.std.proofs.Common.{[], ◌∷◌, ap, sym, ◌∙◌, true}
use Rattle.expr_machine.specs.declared.frame.Focus.TheVariants as focus
use Rattle.expr_machine.specs.Machine as machine
use Rattle.expr_machine.specs.Machine.{Move, moves}
use Rattle.expr_machine.specs.Actions.{step_action}
use Rattle.expr_parser.specs.Heads.{terminals_of}
use Rattle.expr_parser.proofs.NextLemmas as nl
use Rattle.expr_parser.proofs.reader.Reader.step.Goals as goal

pub returns-in_default : goal.returns-in_default
returns-in_default c = nl.step_other _ _ _ c.in_default.ensures

pub returns : goal.returns
returns c = ap (machine.step_move c.args.up c.args.self.now) c.in-Some.ensures ∙ ap (λ x. moves focus.Unary c.args.self.now (terminals_of c.in-Some.behind.now) (step_action x c.args.up true ∷ [])) (sym c.in_ok-name.ensures)

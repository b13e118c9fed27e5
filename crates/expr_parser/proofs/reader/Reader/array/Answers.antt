use Rattle.std.proofs.Common.{[], ◌∷◌, ap, sym, ◌∙◌}
use Rattle.expr_machine.specs.declared.frame.Focus.TheVariants as focus
use Rattle.expr_machine.specs.Machine.{moves}
use Rattle.expr_machine.specs.Actions.{array_action}
use Rattle.expr_parser.specs.Heads.{terminals_of}
use Rattle.expr_parser.proofs.MovedLemmas.{moved}
use Rattle.expr_parser.proofs.ItemLemmas as il
use Rattle.expr_parser.proofs.reader.Reader.array.Goals as goal

pub returns-then-closed_next : goal.returns-then-closed_next
returns-then-closed_next c = il.array_closed c.args.brackets c.args.self.now (terminals_of c.args.rest.now) (sym c.closed_next.ensures ∙ c.if-closed_next.true) ∙ ap (λ r. moves focus.Unary c.args.self.now r (array_action 0 ∷ [])) (sym c.behind_first.ensures)

pub returns : goal.returns
returns c = moved c.open.result _ _ _ (il.array_open c.args.brackets c.args.self.now (terminals_of c.args.rest.now) (sym c.closed_next.ensures ∙ c.if-closed_next.false)) c.open.ensures

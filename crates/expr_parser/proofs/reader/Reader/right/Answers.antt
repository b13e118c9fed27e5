use Rattle.std.proofs.Common.{[], ◌∷◌, ap, sym, ◌∙◌}
use Rattle.expr_machine.specs.Machine as machine
use Rattle.expr_machine.specs.Machine.{Move, moves}
use Rattle.expr_machine.specs.Actions.{binary_action}
use Rattle.expr_parser.specs.Heads.{terminals_of}
use Rattle.expr_parser.specs.Frames as fr
use Rattle.expr_parser.proofs.MovedLemmas.{moved}
use Rattle.expr_parser.proofs.FrameLemmas as fl
use Rattle.expr_parser.proofs.reader.Reader.right.Goals as goal

pub returns-in-Operator : goal.returns-in-Operator
returns-in-Operator c = fl.right_operator c.args.level c.args.self.now c.in-Operator.before c.in-Operator.operator _ (sym c.waiting.ensures ∙ c.in-Operator.is) ∙ ap (λ f. moves f (fr.behind_top c.args.self.now) (terminals_of c.args.rest.now) (binary_action c.in-Operator.operator ∷ [])) (sym c.behind_right.ensures) ∙ ap (λ fs. moves c.behind_right.result fs (terminals_of c.args.rest.now) (binary_action c.in-Operator.operator ∷ [])) (sym c.drop_top.ensures)

pub returns-in-Join : goal.returns-in-Join
returns-in-Join c = moved c.join.result _ _ _ (fl.right_join c.args.level c.args.self.now c.in-Join.count _ (sym c.waiting.ensures ∙ c.in-Join.is) ∙ ap (λ o. machine.join_move o c.in-Join.count (fr.behind_top c.args.self.now) (terminals_of c.args.rest.now)) (sym c.operator_next.ensures) ∙ ap (λ fs. machine.join_move c.operator_next.result c.in-Join.count fs (terminals_of c.args.rest.now)) (sym c.drop_top-in-Join.ensures)) c.join.ensures

pub returns-in_default : goal.returns-in_default
returns-in_default c = fl.right_other c.args.level c.args.self.now _ (λ m o e. c.in_default.not-Operator m o (c.waiting.ensures ∙ e)) (λ n e. c.in_default.not-Join n (c.waiting.ensures ∙ e))

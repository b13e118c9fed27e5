use Rattle.std.proofs.Common.{ap, sym, ◌∙◌}
use Rattle.std.specs.Prelude.{None}
use Rattle.script_grammar.specs.Operators as operator
use Rattle.expr_machine.specs.Machine as machine
use Rattle.expr_machine.specs.Machine.{Move, moves}
use Rattle.expr_parser.specs.Heads.{terminals_of}
use Rattle.expr_parser.proofs.MovedLemmas.{moved}
use Rattle.expr_parser.proofs.reader.Reader.sign.Goals as goal

pub returns-in-Some : goal.returns-in-Some
returns-in-Some c = moved c.open.result _ _ _ (ap (λ p. machine.sign_move p (operator.step_sign c.args.sign) c.args.sign c.args.self.now (terminals_of c.args.rest.now)) (sym c.prefix_of.ensures ∙ c.in-Some.is)) c.open.ensures

pub returns-in-Some-step_of : goal.returns-in-Some-step_of
returns-in-Some-step_of c = moved c.step.result _ _ _ (ap (λ p. machine.sign_move p (operator.step_sign c.args.sign) c.args.sign c.args.self.now (terminals_of c.args.rest.now)) (sym c.prefix_of.ensures ∙ c.in-None.is) ∙ ap (λ up. machine.sign_move None up c.args.sign c.args.self.now (terminals_of c.args.rest.now)) (sym c.step_of.ensures ∙ c.in-Some-step_of.is)) c.step.ensures

pub returns-in-None-step_of : goal.returns-in-None-step_of
returns-in-None-step_of c = moved c.bracket.result _ _ _ (ap (λ p. machine.sign_move p (operator.step_sign c.args.sign) c.args.sign c.args.self.now (terminals_of c.args.rest.now)) (sym c.prefix_of.ensures ∙ c.in-None.is) ∙ ap (λ up. machine.sign_move None up c.args.sign c.args.self.now (terminals_of c.args.rest.now)) (sym c.step_of.ensures ∙ c.in-None-step_of.is)) c.bracket.ensures

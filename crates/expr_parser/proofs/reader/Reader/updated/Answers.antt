use Rattle.std.proofs.Common.{ap, sym, ◌∙◌}
use Rattle.std.specs.Prelude.{None}
use Rattle.script_grammar.specs.Operators as operator
use Rattle.expr_machine.specs.Machine as machine
use Rattle.expr_machine.specs.Machine.{Move, moves}
use Rattle.expr_parser.specs.Heads.{terminals_of}
use Rattle.expr_parser.proofs.MovedLemmas.{moved}
use Rattle.expr_parser.proofs.reader.Reader.updated.Goals as goal

pub returns-in-Some : goal.returns-in-Some
returns-in-Some c = moved c.update.result _ _ _ (ap (λ u. machine.updated_move u (operator.step_sign c.args.sign) c.args.place.name c.args.place.keys c.args.place.gap c.args.self.now c.args.sign (terminals_of c.args.behind.now)) (sym c.update_of.ensures ∙ c.in-Some.is)) c.update.ensures

pub returns-in-Some-step_of : goal.returns-in-Some-step_of
returns-in-Some-step_of c = moved c.step_behind.result _ _ _ (ap (λ u. machine.updated_move u (operator.step_sign c.args.sign) c.args.place.name c.args.place.keys c.args.place.gap c.args.self.now c.args.sign (terminals_of c.args.behind.now)) (sym c.update_of.ensures ∙ c.in-None.is) ∙ ap (λ up. machine.updated_move None up c.args.place.name c.args.place.keys c.args.place.gap c.args.self.now c.args.sign (terminals_of c.args.behind.now)) (sym c.step_of.ensures ∙ c.in-Some-step_of.is)) c.step_behind.ensures

pub returns-in-None-step_of : goal.returns-in-None-step_of
returns-in-None-step_of c = moved c.operand.result _ _ _ (ap (λ u. machine.updated_move u (operator.step_sign c.args.sign) c.args.place.name c.args.place.keys c.args.place.gap c.args.self.now c.args.sign (terminals_of c.args.behind.now)) (sym c.update_of.ensures ∙ c.in-None.is) ∙ ap (λ up. machine.updated_move None up c.args.place.name c.args.place.keys c.args.place.gap c.args.self.now c.args.sign (terminals_of c.args.behind.now)) (sym c.step_of.ensures ∙ c.in-None-step_of.is) ∙ ap (machine.operand_move c.args.place.name c.args.place.keys c.args.place.gap c.args.self.now) (sym c.requires)) c.operand.ensures

use Rattle.std.proofs.Common.{◌+◌, [], ◌∷◌, ap, sym, ◌∙◌}
use Rattle.script_grammar.specs.declared.operator.Level.TheVariants as level
use Rattle.expr_machine.specs.declared.frame.Focus.TheVariants as focus
use Rattle.expr_machine.specs.declared.frame.Frame.TheVariants as frame
use Rattle.expr_machine.specs.Machine as machine
use Rattle.expr_machine.specs.Machine.{Move, moves}
use Rattle.expr_machine.specs.Actions.{join_action}
use Rattle.expr_parser.specs.Heads.{terminals_of}
use Rattle.expr_parser.proofs.MovedLemmas.{moved}
use Rattle.expr_parser.proofs.reader.Reader.join.Goals as goal

pub returns-in-Some : goal.returns-in-Some
returns-in-Some c = moved c.open.result _ _ _ (ap (λ o. machine.join_move o c.args.count c.args.self.now (terminals_of c.args.rest.now)) c.in-Some.is ∙ ap (λ r. moves focus.Begin (frame.Join (c.args.count + 1) ∷ c.args.self.now) r []) (sym c.behind_first.ensures) ∙ ap (λ n. moves focus.Begin (frame.Join n ∷ c.args.self.now) (terminals_of c.behind_first.result.now) []) (sym c.in_ok-count.ensures)) c.open.ensures

pub returns-in-None : goal.returns-in-None
returns-in-None c = ap (λ o. machine.join_move o c.args.count c.args.self.now (terminals_of c.args.rest.now)) c.in-None.is ∙ ap (λ n. moves (machine.looser level.Join) c.args.self.now (terminals_of c.args.rest.now) (join_action n ∷ [])) (sym c.in_ok-count.ensures) ∙ ap (λ f. moves f c.args.self.now (terminals_of c.args.rest.now) (join_action c.in_ok-count.count ∷ [])) (sym c.looser.ensures)

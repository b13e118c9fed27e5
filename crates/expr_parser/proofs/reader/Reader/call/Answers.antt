use Rattle.std.proofs.Common.{[], ◌∷◌, ap, sym, ◌∙◌}
use Rattle.php_syntax.specs.declared.token.Sign.TheVariants as sign
use Rattle.script_grammar.specs.Terminals.{sign_terminal}
use Rattle.expr_machine.specs.declared.frame.Focus.TheVariants as focus
use Rattle.expr_machine.specs.declared.frame.Frame.TheVariants as frame
use Rattle.expr_machine.specs.Machine as machine
use Rattle.expr_machine.specs.Machine.{Move, moves}
use Rattle.expr_machine.specs.Actions.{call_action}
use Rattle.expr_parser.specs.Heads.{terminals_of}
use Rattle.expr_parser.proofs.MovedLemmas.{moved}
use Rattle.expr_parser.proofs.NextLemmas as nl
use Rattle.expr_parser.proofs.reader.Reader.call.Goals as goal

pub returns-in-None : goal.returns-in-None
returns-in-None c = nl.call_other _ _ _ c.in-None.ensures

pub returns-in-Some-behind_sign : goal.returns-in-Some-behind_sign
returns-in-Some-behind_sign c = ap (machine.call_move c.args.name.now c.args.self.now) (c.in-Some.ensures ∙ ap (λ ts. sign_terminal sign.OpenParen ∷ ts) c.in-Some-behind_sign.ensures) ∙ ap (λ x. moves focus.Subscripted c.args.self.now (terminals_of c.in-Some-behind_sign.last.now) (call_action x 0 ∷ [])) (sym c.in_ok-name.ensures)

pub returns-in-None-behind_sign : goal.returns-in-None-behind_sign
returns-in-None-behind_sign c = moved c.open.result _ _ _ (ap (machine.call_move c.args.name.now c.args.self.now) c.in-Some.ensures ∙ nl.call_open _ _ _ c.in-None-behind_sign.ensures ∙ ap (λ x. moves focus.Begin (frame.Argument x 0 ∷ c.args.self.now) (terminals_of c.in-Some.behind.now) []) (sym c.in_ok-name.ensures)) c.open.ensures

use Rattle.std.proofs.Common.{◌∷◌, ap, ◌∙◌}
use Rattle.php_syntax.specs.declared.token.Sign.TheVariants as sign
use Rattle.script_grammar.specs.Terminals.{sign_terminal}
use Rattle.expr_machine.specs.Machine as machine
use Rattle.expr_machine.specs.Machine.{Move, moves}
use Rattle.expr_parser.proofs.MovedLemmas.{moved}
use Rattle.expr_parser.proofs.NextLemmas as nl
use Rattle.expr_parser.proofs.reader.Reader.question.Goals as goal

pub returns-in-None : goal.returns-in-None
returns-in-None c = nl.question_other _ _ c.in-None.ensures

pub returns-in-Some-behind_sign : goal.returns-in-Some-behind_sign
returns-in-Some-behind_sign c = moved c.open.result _ _ _ (ap (machine.question_move c.args.self.now) (c.in-Some.ensures ∙ ap (λ ts. sign_terminal sign.Question ∷ ts) c.in-Some-behind_sign.ensures)) c.open.ensures

pub returns-in-None-behind_sign : goal.returns-in-None-behind_sign
returns-in-None-behind_sign c = moved c.open-in-None-behind_sign.result _ _ _ (ap (machine.question_move c.args.self.now) c.in-Some.ensures ∙ nl.question_middle _ _ c.in-None-behind_sign.ensures) c.open-in-None-behind_sign.ensures

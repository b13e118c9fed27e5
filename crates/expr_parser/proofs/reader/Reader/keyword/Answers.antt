use Rattle.std.proofs.Common.{◌∷◌, ap, ◌∙◌}
use Rattle.php_syntax.specs.declared.token.Sign.TheVariants as sign
use Rattle.script_grammar.specs.Terminals.{sign_terminal}
use Rattle.expr_machine.specs.Machine as machine
use Rattle.expr_machine.specs.Machine.{Move, moves}
use Rattle.expr_parser.specs.Heads.{terminals_of}
use Rattle.expr_parser.proofs.MovedLemmas.{moved}
use Rattle.expr_parser.proofs.NextLemmas as nl
use Rattle.expr_parser.proofs.reader.Reader.keyword.Goals as goal

pub returns-in-None : goal.returns-in-None
returns-in-None c = nl.keyword_other c.args.word _ _ c.in-None.ensures

pub returns-in-Isset : goal.returns-in-Isset
returns-in-Isset c = moved c.open.result _ _ _ (ap (machine.keyword_move c.args.word c.args.self.now) c.in-Some.ensures ∙ ap (λ k. machine.keyword_move k c.args.self.now (sign_terminal sign.OpenParen ∷ terminals_of c.in-Some.behind.now)) c.in-Isset.is) c.open.ensures

pub returns-in-Empty : goal.returns-in-Empty
returns-in-Empty c = moved c.open-in-Empty.result _ _ _ (ap (machine.keyword_move c.args.word c.args.self.now) c.in-Some.ensures ∙ ap (λ k. machine.keyword_move k c.args.self.now (sign_terminal sign.OpenParen ∷ terminals_of c.in-Some.behind.now)) c.in-Empty.is) c.open-in-Empty.ensures

pub returns-in-Array : goal.returns-in-Array
returns-in-Array c = moved c.array.result _ _ _ (ap (machine.keyword_move c.args.word c.args.self.now) c.in-Some.ensures ∙ ap (λ k. machine.keyword_move k c.args.self.now (sign_terminal sign.OpenParen ∷ terminals_of c.in-Some.behind.now)) c.in-Array.is) c.array.ensures

pub returns-in_default : goal.returns-in_default
returns-in_default c = nl.keyword_stuck c.args.word _ _ c.in_default.not-Isset c.in_default.not-Empty c.in_default.not-Array

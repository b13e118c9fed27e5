use Rattle.std.proofs.Common.{◌∷◌, ap, ◌∙◌}
use Rattle.php_syntax.specs.declared.token.Sign.TheVariants as sign
use Rattle.script_grammar.specs.Terminals.{sign_terminal}
use Rattle.expr_machine.specs.Machine as machine
use Rattle.expr_machine.specs.Machine.{Move, moves}
use Rattle.expr_parser.specs.Heads.{terminals_of}
use Rattle.expr_parser.proofs.NextLemmas as nl
use Rattle.expr_parser.proofs.ItemLemmas as il
use Rattle.expr_parser.proofs.quotes.behind_quotes.Goals as goal

pub returns-in-None : goal.returns-in-None
returns-in-None c = nl.quotes_other _ c.in-None.ensures

pub returns-in-None-name_at : goal.returns-in-None-name_at
returns-in-None-name_at c = ap machine.behind_quotes c.in-Some.ensures ∙ nl.quotes_name _ c.in-None-name_at.ensures

pub returns-in-Some-name_at : goal.returns-in-Some-name_at
returns-in-Some-name_at c = il.passed_rest (λ r. terminals_of r.now) c.behind_named.result _ _ (ap machine.behind_quotes (c.in-Some.ensures ∙ ap (λ ts. sign_terminal sign.Comma ∷ ts) c.in-Some-name_at.ensures) ∙ nl.quotes_by c.in-Some-name_at.name.now (terminals_of c.in-Some-name_at.third.now)) c.behind_named.ensures

use Rattle.std.proofs.Common.{◌∷◌, ap, ◌∙◌}
use Rattle.php_syntax.specs.declared.token.Sign.TheVariants as sign
use Rattle.script_grammar.specs.Terminals.{sign_terminal, text_terminal}
use Rattle.expr_parser.specs.Heads.{terminals_of, quotes_end}
use Rattle.expr_parser.proofs.NextLemmas as nl
use Rattle.expr_parser.proofs.ItemLemmas as il
use Rattle.expr_parser.proofs.quotes.behind_end.Goals as goal

pub returns-in-Some : goal.returns-in-Some
returns-in-Some c = ap quotes_end c.in-Some.ensures

pub returns-in-None : goal.returns-in-None
returns-in-None c = nl.quotes_end_other _ c.in_default.ensures c.in-None.ensures

pub returns-in-None-text_at : goal.returns-in-None-text_at
returns-in-None-text_at c = ap quotes_end c.in-Some-behind_sign.ensures ∙ nl.quotes_end_text _ c.in-None-text_at.ensures

pub returns-in-None-behind_sign : goal.returns-in-None-behind_sign
returns-in-None-behind_sign c = ap quotes_end (c.in-Some-behind_sign.ensures ∙ ap (λ ts. sign_terminal sign.Comma ∷ ts) c.in-Some-text_at.ensures) ∙ nl.quotes_end_close c.in-Some-text_at.text.now (terminals_of c.in-Some-text_at.third.now) c.in-None-behind_sign.ensures

pub returns-in-Some-behind_sign-2 : goal.returns-in-Some-behind_sign-2
returns-in-Some-behind_sign-2 c = il.passed_rest (λ r. terminals_of r.now) c.behind_charset.result _ _ (ap quotes_end (c.in-Some-behind_sign.ensures ∙ ap (λ ts. sign_terminal sign.Comma ∷ ts) (c.in-Some-text_at.ensures ∙ ap (λ ts. text_terminal c.in-Some-text_at.text.now ∷ ts) c.in-Some-behind_sign-2.ensures))) c.behind_charset.ensures

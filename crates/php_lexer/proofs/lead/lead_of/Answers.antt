use Rattle.std.proofs.Common.{◌∙◌, sym}
use Rattle.php_lexer.proofs.LeadLemmas.{led_by_name, led_by_blank, led_by_digit}
use Rattle.php_lexer.proofs.lead.lead_of.Goals as goal

pub returns-then-is_name_start : goal.returns-then-is_name_start
returns-then-is_name_start c = λ rest. led_by_name c.args.byte rest (sym c.is_name_start.ensures ∙ c.if-is_name_start.true)

pub returns-then-is_blank : goal.returns-then-is_blank
returns-then-is_blank c = λ rest. led_by_blank c.args.byte rest (sym c.is_blank.ensures ∙ c.if-is_blank.true)

pub returns-then-is_digit : goal.returns-then-is_digit
returns-then-is_digit c = λ rest. led_by_digit c.args.byte rest (sym c.is_digit.ensures ∙ c.if-is_digit.true)

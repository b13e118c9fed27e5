use Rattle.php_lexer.proofs.LeadLemmas.{led_by_dollar, led_by_quote, led_by_quotes, led_by_slash, led_by_sharp, led_by_question, led_by_less, led_by_bracket, led_by_point, led_by_other}
use Rattle.php_lexer.proofs.lead.lead_of_mark.Goals as goal

pub returns-in-36 : goal.returns-in-36
returns-in-36 c = rw c.in-36.is led_by_dollar

pub returns-in-39 : goal.returns-in-39
returns-in-39 c = rw c.in-39.is led_by_quote

pub returns-in-34 : goal.returns-in-34
returns-in-34 c = rw c.in-34.is led_by_quotes

pub returns-in-47 : goal.returns-in-47
returns-in-47 c = rw c.in-47.is led_by_slash

pub returns-in-35 : goal.returns-in-35
returns-in-35 c = rw c.in-35.is led_by_sharp

pub returns-in-63 : goal.returns-in-63
returns-in-63 c = rw c.in-63.is led_by_question

pub returns-in-60 : goal.returns-in-60
returns-in-60 c = rw c.in-60.is led_by_less

pub returns-in-40 : goal.returns-in-40
returns-in-40 c = rw c.in-40.is led_by_bracket

pub returns-in-46 : goal.returns-in-46
returns-in-46 c = rw c.in-46.is led_by_point

pub returns-in_default : goal.returns-in_default
returns-in_default c = λ rest. led_by_other c.args.byte rest c.requires.name c.requires.blank c.requires.digit (search) (search) (search) (search) (search) (search) (search) (search) (search)

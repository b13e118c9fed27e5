-- What stands at the head inside PHP, by what its first byte can begin.
use Rattle.std.specs.Prelude.{ℕ, List, Option}
use Rattle.lexical_grammar.specs.Steps.{Step, passes, or_else}
use Rattle.lexical_grammar.specs.Cuts.{line_comment_step, block_comment_step, leaving_step}
use Rattle.lexical_grammar.specs.Words.{name_step, variable_step, number_step}
use Rattle.lexical_grammar.specs.Texts.{single_step, double_step}
use Rattle.lexical_grammar.specs.Heredocs.{heredoc_step, nowdoc_step}
use Rattle.lexical_grammar.specs.Signs.{cast_step, sign_step}
use Rattle.php_lexer.specs.declared.lead.Lead.{Lead}
use Rattle.php_lexer.specs.declared.lead.Lead.TheVariants.{Blank, Name, Variable, Number, SingleQuote, DoubleQuote, Slash, Sharp, QuestionMark, LessThan, Bracket, Point, Other}

-- a comment, of one line or of several
abbrev pub comment : List ℕ → Option Step
comment bytes = or_else (line_comment_step bytes) (block_comment_step bytes)

-- the tag that leaves PHP, or a sign
abbrev pub leaving_or_sign : List ℕ → Option Step
leaving_or_sign bytes = or_else (leaving_step bytes) (sign_step bytes)

-- a heredoc, a nowdoc or a sign
abbrev pub heredoc_or_sign : List ℕ → Option Step
heredoc_or_sign bytes = or_else (heredoc_step bytes) (or_else (nowdoc_step bytes) (sign_step bytes))

-- a cast or a sign
abbrev pub cast_or_sign : List ℕ → Option Step
cast_or_sign bytes = or_else (cast_step bytes) (sign_step bytes)

-- a float, which is refused, or a sign
abbrev pub float_or_sign : List ℕ → Option Step
float_or_sign bytes = or_else (number_step bytes) (sign_step bytes)

-- what is read where the first byte can begin this alone
abbrev pub led_step : Lead → List ℕ → Option Step
led_step Blank bytes = passes 1
led_step Name bytes = name_step bytes
led_step Variable bytes = variable_step bytes
led_step Number bytes = number_step bytes
led_step SingleQuote bytes = single_step bytes
led_step DoubleQuote bytes = double_step bytes
led_step Slash bytes = comment bytes
led_step Sharp bytes = line_comment_step bytes
led_step QuestionMark bytes = leaving_or_sign bytes
led_step LessThan bytes = heredoc_or_sign bytes
led_step Bracket bytes = cast_or_sign bytes
led_step Point bytes = float_or_sign bytes
led_step Other bytes = sign_step bytes

-- Which terminal of PHP's grammar a token is (PHP manual, "List of Keywords", "Operator Precedence"). A name that spells a keyword in any
-- case is that keyword. `enum` and `readonly` are left out, since what follows tells what they are, and the language has neither; so are
-- `__halt_compiler` and the words with a space.
use Rattle.std.specs.Prelude.{ℕ, List, [], ◌∷◌, ◌++◌, codes, if◌then◌else◌}
use Rattle.std.specs.Str.{str_eq_ignore_ascii_case}
use Rattle.php_syntax.specs.declared.token.Sign.{Sign}
use Rattle.php_syntax.specs.declared.token.Sign.TheVariants as signs
use Rattle.php_syntax.specs.Tokens.{PlainKind, inline, variable, name, integer, text, template, sign}
use Rattle.php_grammar.specs.declared.rules.TheConstants as terminal

-- the terminal of a spelling, by the words of a table in lower case, and else a name
abbrev pub word_in : List (List ℕ × ℕ) → List ℕ → ℕ
word_in [] w = terminal.NAME
word_in (row ∷ rows) w = if str_eq_ignore_ascii_case w row.0 then row.1 else word_in rows w

-- the words of statements
abbrev pub statement_words : List (List ℕ × ℕ)
statement_words =
    (codes "echo", terminal.ECHO) ∷ (codes "print", terminal.PRINT) ∷ (codes "if", terminal.IF) ∷ (codes "elseif", terminal.ELSEIF)
    ∷ (codes "else", terminal.ELSE) ∷ (codes "endif", terminal.ENDIF) ∷ (codes "while", terminal.WHILE) ∷ (codes "endwhile", terminal.ENDWHILE)
    ∷ (codes "do", terminal.DO) ∷ (codes "for", terminal.FOR) ∷ (codes "endfor", terminal.ENDFOR) ∷ (codes "foreach", terminal.FOREACH)
    ∷ (codes "endforeach", terminal.ENDFOREACH) ∷ (codes "as", terminal.AS) ∷ (codes "switch", terminal.SWITCH)
    ∷ (codes "endswitch", terminal.ENDSWITCH) ∷ (codes "case", terminal.CASE) ∷ (codes "default", terminal.DEFAULT)
    ∷ (codes "break", terminal.BREAK) ∷ (codes "continue", terminal.CONTINUE) ∷ (codes "return", terminal.RETURN) ∷ (codes "goto", terminal.GOTO)
    ∷ (codes "declare", terminal.DECLARE) ∷ (codes "enddeclare", terminal.ENDDECLARE) ∷ (codes "try", terminal.TRY)
    ∷ (codes "catch", terminal.CATCH) ∷ (codes "finally", terminal.FINALLY) ∷ (codes "global", terminal.GLOBAL) ∷ (codes "unset", terminal.UNSET)
    ∷ []

-- the words of expressions
abbrev pub expression_words : List (List ℕ × ℕ)
expression_words =
    (codes "isset", terminal.ISSET) ∷ (codes "empty", terminal.EMPTY) ∷ (codes "eval", terminal.EVAL) ∷ (codes "exit", terminal.EXIT)
    ∷ (codes "die", terminal.EXIT) ∷ (codes "include", terminal.INCLUDE) ∷ (codes "include_once", terminal.INCLUDE)
    ∷ (codes "require", terminal.INCLUDE) ∷ (codes "require_once", terminal.INCLUDE) ∷ (codes "array", terminal.ARRAY)
    ∷ (codes "list", terminal.LIST) ∷ (codes "match", terminal.MATCH) ∷ (codes "throw", terminal.THROW) ∷ (codes "function", terminal.FUNCTION)
    ∷ (codes "fn", terminal.FN) ∷ (codes "yield", terminal.YIELD) ∷ (codes "new", terminal.NEW) ∷ (codes "clone", terminal.CLONE)
    ∷ (codes "instanceof", terminal.INSTANCEOF) ∷ (codes "and", terminal.AND) ∷ (codes "or", terminal.OR) ∷ (codes "xor", terminal.XOR) ∷ []

-- the words of classes and of names
abbrev pub class_words : List (List ℕ × ℕ)
class_words =
    (codes "class", terminal.CLASS) ∷ (codes "interface", terminal.INTERFACE) ∷ (codes "trait", terminal.TRAIT)
    ∷ (codes "extends", terminal.EXTENDS) ∷ (codes "implements", terminal.IMPLEMENTS) ∷ (codes "insteadof", terminal.INSTEADOF)
    ∷ (codes "callable", terminal.CALLABLE) ∷ (codes "const", terminal.CONST) ∷ (codes "var", terminal.VAR) ∷ (codes "static", terminal.STATIC)
    ∷ (codes "public", terminal.VISIBILITY) ∷ (codes "protected", terminal.VISIBILITY) ∷ (codes "private", terminal.VISIBILITY)
    ∷ (codes "abstract", terminal.ABSTRACT) ∷ (codes "final", terminal.ABSTRACT)
    ∷ (codes "namespace", terminal.NAMESPACE) ∷ (codes "use", terminal.USE) ∷ (codes "__line__", terminal.MAGIC) ∷ (codes "__file__", terminal.MAGIC)
    ∷ (codes "__dir__", terminal.MAGIC) ∷ (codes "__function__", terminal.MAGIC) ∷ (codes "__class__", terminal.MAGIC)
    ∷ (codes "__trait__", terminal.MAGIC) ∷ (codes "__method__", terminal.MAGIC) ∷ (codes "__namespace__", terminal.MAGIC) ∷ []

-- the terminal of a sign; operators of one precedence are one terminal
abbrev pub sign_kind : Sign → ℕ
sign_kind signs.Identical = terminal.EQUALITY
sign_kind signs.NotIdentical = terminal.EQUALITY
sign_kind signs.CoalesceAssign = terminal.UPDATE
sign_kind signs.Equal = terminal.EQUALITY
sign_kind signs.NotEqual = terminal.EQUALITY
sign_kind signs.LessGreater = terminal.EQUALITY
sign_kind signs.LessEqual = terminal.COMPARISON
sign_kind signs.GreaterEqual = terminal.COMPARISON
sign_kind signs.DoubleArrow = terminal.DOUBLE_ARROW
sign_kind signs.And = terminal.BOOL_AND
sign_kind signs.Or = terminal.BOOL_OR
sign_kind signs.Coalesce = terminal.COALESCE
sign_kind signs.JoinAssign = terminal.UPDATE
sign_kind signs.AddAssign = terminal.UPDATE
sign_kind signs.SubAssign = terminal.UPDATE
sign_kind signs.MulAssign = terminal.UPDATE
sign_kind signs.RemAssign = terminal.UPDATE
sign_kind signs.Increment = terminal.STEP
sign_kind signs.Decrement = terminal.STEP
sign_kind signs.Assign = terminal.ASSIGN
sign_kind signs.Less = terminal.COMPARISON
sign_kind signs.Greater = terminal.COMPARISON
sign_kind signs.Not = terminal.NOT
sign_kind signs.Dot = terminal.DOT
sign_kind signs.Plus = terminal.SUM
sign_kind signs.Minus = terminal.SUM
sign_kind signs.Star = terminal.PRODUCT
sign_kind signs.Percent = terminal.PRODUCT
sign_kind signs.Question = terminal.QUESTION
sign_kind signs.Colon = terminal.COLON
sign_kind signs.Comma = terminal.COMMA
sign_kind signs.Semicolon = terminal.SEMI
sign_kind signs.OpenParen = terminal.OPEN
sign_kind signs.CloseParen = terminal.CLOSE
sign_kind signs.OpenBracket = terminal.FROM
sign_kind signs.CloseBracket = terminal.TO
sign_kind signs.OpenBrace = terminal.BEGIN
sign_kind signs.CloseBrace = terminal.FINISH
sign_kind signs.CastInt = terminal.UNARY
sign_kind signs.CastString = terminal.UNARY

-- the terminal of what a token is
abbrev pub kind_of : PlainKind → ℕ
kind_of (inline t) = terminal.INLINE
kind_of (variable x) = terminal.VARIABLE
kind_of (name w) = word_in (statement_words ++ (expression_words ++ class_words)) w
kind_of (integer z) = terminal.NUMBER
kind_of (text t) = terminal.TEXT
kind_of (template ps) = terminal.TEMPLATE
kind_of (sign s) = sign_kind s

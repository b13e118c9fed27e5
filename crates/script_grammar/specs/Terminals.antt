-- The terminals of the grammar: what a token is to it. A name is a keyword where it spells one in any case; the three constants of PHP have
-- case.
use Rattle.std.specs.Prelude.{ℕ, ℤ, Bool, nat_eq, ◌||◌, List, [], ◌∷◌, Option, Some, None, map, codes, if◌then◌else◌}
use Rattle.std.specs.Cmp.Lexicographic.{pointwise}
use Rattle.std.specs.Str.{str_eq_ignore_ascii_case}
use Rattle.php_syntax.specs.declared.token.Sign.{Sign}
use Rattle.script_grammar.specs.declared.keyword.Keyword.{Keyword}
use Rattle.script_grammar.specs.declared.keyword.Keyword.TheVariants as word
use Rattle.script_grammar.specs.Reserved.{eol_name, int_max_name, int_min_name}
use Rattle.php_syntax.specs.Tokens.{PlainPart, PlainKind, inline, variable, name, integer, text, template, sign, PlainToken}

-- two lists of bytes are the same
abbrev pub same_bytes : List ℕ → List ℕ → Bool
same_bytes a b = pointwise nat_eq a b

-- the keyword of a spelling, if it is one of the words in a table of spellings in lower case
abbrev pub find_word : List (List ℕ × Keyword) → List ℕ → Option Keyword
find_word [] w = None
find_word (row ∷ rows) w = if str_eq_ignore_ascii_case w row.0 then Some row.1 else find_word rows w

-- the words of loops
abbrev pub loop_words : List (List ℕ × Keyword)
loop_words =
    (codes "while", word.While) ∷ (codes "endwhile", word.EndWhile) ∷ (codes "do", word.Do) ∷ (codes "for", word.For)
    ∷ (codes "endfor", word.EndFor) ∷ (codes "foreach", word.Foreach) ∷ (codes "as", word.As) ∷ (codes "endforeach", word.EndForeach)
    ∷ []

-- the words of branches, and those that print
abbrev pub branch_words : List (List ℕ × Keyword)
branch_words =
    (codes "if", word.If) ∷ (codes "elseif", word.ElseIf) ∷ (codes "else", word.Else) ∷ (codes "endif", word.EndIf)
    ∷ (codes "echo", word.Echo) ∷ (codes "print", word.Print) ∷ []

-- the words that leave a body, include a file, begin a function or end the run
abbrev pub jump_words : List (List ℕ × Keyword)
jump_words =
    (codes "break", word.Break) ∷ (codes "continue", word.Continue) ∷ (codes "return", word.Return) ∷ (codes "include", word.Include)
    ∷ (codes "require", word.Require) ∷ (codes "function", word.Function) ∷ (codes "exit", word.Exit) ∷ (codes "die", word.Exit) ∷ []

-- the words of expressions
abbrev pub value_words : List (List ℕ × Keyword)
value_words =
    (codes "true", word.True) ∷ (codes "false", word.False) ∷ (codes "null", word.Null) ∷ (codes "isset", word.Isset)
    ∷ (codes "empty", word.Empty) ∷ (codes "array", word.Array) ∷ []

-- the three constants, which have case
abbrev pub cased_word : List ℕ → Option Keyword
cased_word w =
    if same_bytes w eol_name then Some word.PhpEol
    else (if same_bytes w int_max_name then Some word.PhpIntMax
    else (if same_bytes w int_min_name then Some word.PhpIntMin
    else (if str_eq_ignore_ascii_case w eol_name
    || (str_eq_ignore_ascii_case w int_max_name || str_eq_ignore_ascii_case w int_min_name) then Some word.Miscased
    else None)))

-- the first keyword, if there is one, and else the second
abbrev pub first_of_two : Option Keyword → Option Keyword → Option Keyword
first_of_two None other = other
first_of_two (Some k) other = Some k

-- the keyword that a name spells, if it spells one
abbrev pub keyword_of : List ℕ → Option Keyword
keyword_of w = first_of_two (find_word loop_words w) (first_of_two (find_word branch_words w)
    (first_of_two (find_word jump_words w) (first_of_two (find_word value_words w) (cased_word w))))

-- what a token is to the grammar: keywords apart from other names, and no place
pub data Terminal : Type 0 where
  inline_terminal : List ℕ → Terminal
  variable_terminal : List ℕ → Terminal
  word_terminal : Keyword → Terminal
  name_terminal : List ℕ → Terminal
  int_terminal : ℤ → Terminal
  text_terminal : List ℕ → Terminal
  template_terminal : List PlainPart → Terminal
  sign_terminal : Sign → Terminal

-- a name as the keyword that it spells, if it spells one, and else as it stands
abbrev pub word_or_name : Option Keyword → List ℕ → Terminal
word_or_name (Some k) w = word_terminal k
word_or_name None w = name_terminal w

-- the terminal of a kind of token
abbrev pub terminal_of : PlainKind → Terminal
terminal_of (inline t) = inline_terminal t
terminal_of (variable x) = variable_terminal x
terminal_of (name w) = word_or_name (keyword_of w) w
terminal_of (integer z) = int_terminal z
terminal_of (text t) = text_terminal t
terminal_of (template ps) = template_terminal ps
terminal_of (sign s) = sign_terminal s

-- the terminals of a token list; where the tokens stand does not matter
abbrev pub terminals : List PlainToken → List Terminal
terminals ts = map (λ t. terminal_of t.kind) ts

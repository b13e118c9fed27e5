-- What a writer of scripts writes: marks, each of one token, or of bytes outside PHP with the tags round them; and their bytes, with a
-- space behind each token.
use Rattle.std.specs.Prelude.{◌≡◌, ℕ, ℤ, pos, List, [], ◌∷◌, ◌++◌, codes}
use Rattle.std.specs.Fmt.{decimal}
use Rattle.php_syntax.specs.declared.token.Sign.{Sign}
use Rattle.php_syntax.specs.declared.token.Sign.TheVariants as signs
use Rattle.script_grammar.specs.declared.keyword.Keyword.{Keyword}
use Rattle.script_grammar.specs.declared.keyword.Keyword.TheVariants as word
use Rattle.php_syntax.specs.Tokens.{PlainKey, text_key, int_key, var_key, read_part}
use Rattle.php_syntax.specs.Spelling.{spelling_of}
use Rattle.script_grammar.specs.Terminals.{Terminal, inline_terminal, variable_terminal, word_terminal, name_terminal, int_terminal, text_terminal, template_terminal, sign_terminal}
use Rattle.lexical_grammar.specs.Spelled.{quoted}

-- one thing that is written
pub data Mark : Type 0 where
  keyword : Keyword → Mark
  name : List ℕ → Mark
  variable : List ℕ → Mark
  integer : ℕ → Mark
  text : List ℕ → Mark
  -- a template that reads a variable by these keys
  read : List ℕ → List PlainKey → Mark
  sign : Sign → Mark
  -- bytes outside PHP, behind the tag that leaves it, which gives a semicolon
  outside : List ℕ → Mark

-- the terminals of marks
abbrev pub marked : List Mark → List Terminal
marked [] = []
marked (keyword k ∷ ms) = word_terminal k ∷ marked ms
marked (name w ∷ ms) = name_terminal w ∷ marked ms
marked (variable x ∷ ms) = variable_terminal x ∷ marked ms
marked (integer n ∷ ms) = int_terminal (pos n) ∷ marked ms
marked (text t ∷ ms) = text_terminal t ∷ marked ms
marked (read x ks ∷ ms) = template_terminal (read_part x ks ∷ []) ∷ marked ms
marked (sign s ∷ ms) = sign_terminal s ∷ marked ms
marked (outside t ∷ ms) = sign_terminal signs.Semicolon ∷ inline_terminal t ∷ marked ms

-- a keyword as it is written; a constant in the wrong case is none
abbrev pub keyword_spelling : Keyword → List ℕ
keyword_spelling word.Function = codes "function"
keyword_spelling word.True = codes "true"
keyword_spelling word.False = codes "false"
keyword_spelling word.Null = codes "null"
keyword_spelling word.Echo = codes "echo"
keyword_spelling word.Print = codes "print"
keyword_spelling word.If = codes "if"
keyword_spelling word.ElseIf = codes "elseif"
keyword_spelling word.Else = codes "else"
keyword_spelling word.EndIf = codes "endif"
keyword_spelling word.While = codes "while"
keyword_spelling word.EndWhile = codes "endwhile"
keyword_spelling word.Do = codes "do"
keyword_spelling word.For = codes "for"
keyword_spelling word.EndFor = codes "endfor"
keyword_spelling word.Foreach = codes "foreach"
keyword_spelling word.As = codes "as"
keyword_spelling word.EndForeach = codes "endforeach"
keyword_spelling word.Break = codes "break"
keyword_spelling word.Continue = codes "continue"
keyword_spelling word.Return = codes "return"
keyword_spelling word.Include = codes "include"
keyword_spelling word.Require = codes "require"
keyword_spelling word.Exit = codes "exit"
keyword_spelling word.Isset = codes "isset"
keyword_spelling word.Empty = codes "empty"
keyword_spelling word.Array = codes "array"
keyword_spelling word.PhpEol = codes "PHP_EOL"
keyword_spelling word.PhpIntMax = codes "PHP_INT_MAX"
keyword_spelling word.PhpIntMin = codes "PHP_INT_MIN"
keyword_spelling word.Miscased = codes "php_eol"

-- an integer that is no negative one
abbrev pub digits_of : ℤ → List ℕ
digits_of (pos n) = decimal n
digits_of _ = []

-- the keys of a template, and the brace that ends them
unfoldable pub keys_spelling : List PlainKey → List ℕ
keys_spelling [] = 125 ∷ []
keys_spelling (text_key t ∷ ks) = 91 ∷ 39 ∷ (quoted t ++ 93 ∷ keys_spelling ks)
keys_spelling (int_key z ∷ ks) = 91 ∷ (digits_of z ++ 93 ∷ keys_spelling ks)
keys_spelling (var_key x ∷ ks) = 91 ∷ 36 ∷ (x ++ 93 ∷ keys_spelling ks)

-- The bytes of a mark and a space, before the bytes behind it. The line end behind the tag that leaves PHP is no part of what stands
-- outside.
abbrev pub written : Mark → List ℕ → List ℕ
written (keyword k) rest = keyword_spelling k ++ 32 ∷ rest
written (name w) rest = w ++ 32 ∷ rest
written (variable x) rest = 36 ∷ (x ++ 32 ∷ rest)
written (integer n) rest = decimal n ++ 32 ∷ rest
written (text t) rest = 39 ∷ (quoted t ++ 32 ∷ rest)
written (read x ks) rest = 34 ∷ 123 ∷ 36 ∷ (x ++ (keys_spelling ks ++ 34 ∷ 32 ∷ rest))
written (sign s) rest = spelling_of s ++ 32 ∷ rest
written (outside t) rest = 63 ∷ 62 ∷ 10 ∷ (t ++ 60 ∷ 63 ∷ 112 ∷ 104 ∷ 112 ∷ 32 ∷ rest)

-- the bytes of marks
unfoldable pub all_written : List Mark → List ℕ
all_written [] = []
all_written (m ∷ ms) = written m (all_written ms)

-- the bytes of a file of marks
abbrev pub file_written : List Mark → List ℕ
file_written ms = 60 ∷ 63 ∷ 112 ∷ 104 ∷ 112 ∷ 32 ∷ all_written ms

-- bytes that gained those of marks, whatever marks are written behind them
abbrev pub Adds : List ℕ → List ℕ → (List Mark → List Mark) → Type 0
Adds old new marks = (behind : List Mark) → new ++ all_written behind ≡ old ++ all_written (marks behind)

-- The text of a declaration as tokens (XML 1.0, 2.3): white space, name tokens, literals and signs. Its references have
-- been replaced.
use Rattle.std.specs.Option.{option_and_then, unwrap_or}
use Rattle.std.specs.Prelude.{ℕ, zero, suc, pred, ◌+◌, Bool, true, false, not, ◌&&◌, ◌||◌, ◌==◌, if◌then◌else◌, List, [], ◌∷◌, take, drop, codes, Option, Some, None}
use Rattle.std.specs.List.{prefix_len}
use Rattle.std.specs.Str.{str_eq_ignore_ascii_case}
use Rattle.xml_text.specs.Characters.{is_blank}
use Rattle.xml_text.specs.Names.{in_name}
use Rattle.dtd_texts.specs.Heads.{is_quote, same, begins, blanks_length}

-- one token
pub data Token : Type 0 where
  -- white space (S)
  gap : Token
  -- a name token (Nmtoken)
  word : List ℕ → Token
  -- a text in quotes
  literal : List ℕ → Token
  -- ( ) | , ? * + # % =
  opening : Token
  closing : Token
  bar : Token
  comma : Token
  question : Token
  star : Token
  plus : Token
  hash : Token
  percent : Token
  equals : Token
  -- a byte that none of these begins with
  other : Token

-- the sign that a byte is
abbrev pub sign_of : ℕ → Token
sign_of b =
    if b == 40 then opening else if b == 41 then closing else if b == 124 then bar else if b == 44 then comma
    else if b == 63 then question else if b == 42 then star else if b == 43 then plus
    else if b == 35 then hash else if b == 37 then percent else if b == 61 then equals else other

-- how many bytes stand before this quote
abbrev pub quoted_length : ℕ → List ℕ → ℕ
quoted_length quote bytes = prefix_len (λ c. not (c == quote)) bytes

-- the token that begins with this byte, and how many bytes it has
unfoldable pub token_at : ℕ → List ℕ → Token
token_at b bytes =
    if is_blank b then gap
    else if in_name b then word (take (prefix_len in_name (b ∷ bytes)) (b ∷ bytes))
    else if is_quote b then literal (take (quoted_length b bytes) bytes)
    else sign_of b

-- how many bytes the token that begins with this byte takes, a literal with both its quotes
unfoldable pub token_length : ℕ → List ℕ → ℕ
token_length b bytes =
    if is_blank b then blanks_length (b ∷ bytes)
    else if in_name b then prefix_len in_name (b ∷ bytes)
    else if is_quote b then 2 + quoted_length b bytes
    else 1

-- the tokens behind so many bytes
unfoldable pub tokens_behind : ℕ → List ℕ → List Token
tokens_behind passed [] = []
tokens_behind zero (b ∷ bytes) = token_at b bytes ∷ tokens_behind (pred (token_length b bytes)) bytes
tokens_behind (suc passed) (b ∷ bytes) = tokens_behind passed bytes

-- the tokens of a text, from its first byte to its end
abbrev pub tokens : List ℕ → List Token
tokens text = tokens_behind 0 text

-- What stands at the head of a list of tokens, with what stands behind it.

-- the bytes of a name token, if it is one
abbrev pub word_of : Token → Option (List ℕ)
word_of (word w) = Some w
word_of _ = None

-- what stands between the quotes of a literal, if it is one
abbrev pub literal_of : Token → Option (List ℕ)
literal_of (literal text) = Some text
literal_of _ = None

-- it is white space
abbrev pub is_gap : Token → Bool
is_gap gap = true
is_gap _ = false

-- it is `%`
abbrev pub is_percent : Token → Bool
is_percent percent = true
is_percent _ = false

-- it is `=`
abbrev pub is_equals : Token → Bool
is_equals equals = true
is_equals _ = false

-- the tokens behind one of this class
abbrev pub behind : (Token → Bool) → List Token → Option (List Token)
behind class [] = None
behind class (t ∷ ts) = if class t then Some ts else None

-- the same, or all where none stands there
abbrev pub behind_maybe : (Token → Bool) → List Token → List Token
behind_maybe class ts = unwrap_or (behind class ts) ts

-- a text and the tokens behind it, if there is such a text
abbrev pub with_rest : Option (List ℕ) → List Token → Option (List ℕ × List Token)
with_rest None ts = None
with_rest (Some text) ts = Some (text, ts)

-- a word and a literal, with the tokens behind it
abbrev pub first_word : List Token → Option (List ℕ × List Token)
first_word [] = None
first_word (t ∷ ts) = with_rest (word_of t) ts

-- a literal at the head, with the tokens behind it
abbrev pub first_literal : List Token → Option (List ℕ × List Token)
first_literal [] = None
first_literal (t ∷ ts) = with_rest (literal_of t) ts

-- no token is left
abbrev pub are_none : List Token → Bool
are_none [] = true
are_none (t ∷ ts) = false

-- maybe white space, and the end
abbrev pub is_end : List Token → Bool
is_end ts = are_none (behind_maybe is_gap ts)

-- white space and a word
abbrev pub next_word : List Token → Option (List ℕ × List Token)
next_word ts = option_and_then first_word (behind is_gap ts)

-- white space and a literal
abbrev pub next_literal : List Token → Option (List ℕ × List Token)
next_literal ts = option_and_then first_literal (behind is_gap ts)

-- A text declaration at the head of a file (4.3.1, TextDecl): `<?xml`, maybe the version 1.0, maybe the encoding UTF-8, in any case.

-- an equals sign, with white space round it, and a literal (2.8, Eq)
abbrev pub set_to : List Token → Option (List ℕ × List Token)
set_to ts = option_and_then (λ rest. first_literal (behind_maybe is_gap rest)) (behind is_equals (behind_maybe is_gap ts))

-- the value that a name is set to, with the tokens behind it, where it is the name asked for
abbrev pub set_if : List ℕ → Option (List ℕ × List Token) → Option (List ℕ × List Token)
set_if name None = None
set_if name (Some found) = if same found.0 name then set_to found.1 else None

-- white space, this name, an equals sign and a literal
unfoldable pub setting : List ℕ → List Token → Option (List ℕ × List Token)
setting name ts = set_if name (next_word ts)

-- the encoding, and the end
abbrev pub is_encoding : Option (List ℕ × List Token) → Bool
is_encoding None = false
is_encoding (Some found) = str_eq_ignore_ascii_case found.0 (codes "UTF-8") && is_end found.1

-- behind `xml`: version 1.0 and maybe the encoding, or the encoding alone, up to the end (4.3.1 and 2.8, VersionInfo)
abbrev pub is_version : Option (List ℕ × List Token) → List Token → Bool
is_version None ts = is_encoding (setting (codes "encoding") ts)
is_version (Some found) ts = same found.0 (codes "1.0") && (is_end found.1 || is_encoding (setting (codes "encoding") found.1))

-- the tokens of a text declaration, by the first word and what stands behind it
abbrev pub is_declared : Option (List ℕ × List Token) → Bool
is_declared None = false
is_declared (Some found) = same found.0 (codes "xml") && is_version (setting (codes "version") found.1) found.1

-- the tokens between `<?` and `?>` are those of a text declaration
unfoldable pub is_declaration : List Token → Bool
is_declaration ts = is_declared (first_word ts)

-- how many bytes stand before the first `?>`; all of them where there is none
unfoldable pub before_end : List ℕ → ℕ
before_end [] = 0
before_end (b ∷ bytes) = if begins (codes "?>") (b ∷ bytes) then 0 else suc (before_end bytes)

-- how long the text declaration at the head is; 0 where none stands there
unfoldable pub declaration_length : List ℕ → ℕ
declaration_length bytes =
    if begins (codes "<?xml") bytes
    then (if begins (codes "?>") (drop (before_end bytes) bytes)
    && is_declaration (tokens (drop 2 (take (before_end bytes) bytes))) then before_end bytes + 2 else 0)
    else 0

-- the bytes behind a byte order mark and a text declaration (4.3.1 and 4.3.3)
abbrev pub behind_mark : List ℕ → List ℕ
behind_mark bytes = if begins (0xEF ∷ 0xBB ∷ 0xBF ∷ []) bytes then drop 3 bytes else bytes

-- the bytes of a file without a byte order mark and a text declaration at its head
abbrev pub behind_declaration : List ℕ → List ℕ
behind_declaration bytes = drop (declaration_length (behind_mark bytes)) (behind_mark bytes)

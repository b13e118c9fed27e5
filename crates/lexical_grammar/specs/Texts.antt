-- Quoted texts, and what stands in a template (PHP manual, "Types: Strings": single quoted, double quoted, variable interpolation).
use Rattle.std.specs.Prelude.{ℕ, ◌+◌, pos, Bool, true, false, ◌&&◌, ◌||◌, ◌==◌, nat_lt, if◌then◌else◌, List, [], ◌∷◌, take, drop, length, Option, Some, None, codes}
use Rattle.php_syntax.specs.Tokens.{PlainKind, PlainPart, PlainKey, text_key, int_key, var_key, plain_part, read_part, text, template}
use Rattle.lexical_grammar.specs.Characters.{begins, head_is, is_high, name_length, digits_length, value_of, largest}
use Rattle.lexical_grammar.specs.Words.{has_leading_zero}
use Rattle.lexical_grammar.specs.Steps.{Step, gives, faults}
use Rattle.lexical_grammar.specs.declared.fault.LexicalFault.TheVariants.{Unclosed, Escape}
use Rattle.lexical_grammar.specs.Rows.{Found, item, wrong, over, missing, Row, whole, broken, endless, row}

-- in a single-quoted text `\'` and `\\` are escapes, and every other byte stands for itself
abbrev pub single_at : List ℕ → Found ℕ
single_at [] = missing
single_at (b ∷ bytes) =
    if b == 39 then over 1
    else if b == 92 && head_is (λ c. c == 39 || c == 92) bytes then item (unquoted bytes) 2
    else item b 1
  where
    -- the escaped byte
    unquoted : List ℕ → ℕ
    unquoted [] = 0
    unquoted (c ∷ rest) = c

-- the bytes behind the first quote, up to the second
abbrev pub single_quoted : List ℕ → Row ℕ
single_quoted bytes = row single_at 0 bytes

-- the text of a row behind its first quote, which is counted with the bytes taken; a row without an end is refused at the quote
abbrev pub single_token : Row ℕ → Option Step
single_token (whole bytes n) = gives (text bytes) (1 + n)
single_token (broken n) = faults Unclosed 0
single_token endless = faults Unclosed 0

-- `'`..`'`
unfoldable pub single_step : List ℕ → Option Step
single_step bytes = if begins (codes "'") bytes then single_token (single_quoted (drop 1 bytes)) else None

-- what one place of a template gives: a byte, or a variable with its keys
pub data Unit_of : Type 0 where
  byte : ℕ → Unit_of
  reads : List ℕ → List PlainKey → Unit_of

-- a key, and how many bytes it takes
abbrev pub KeyAt : Type 0
KeyAt = Option (PlainKey × ℕ)

-- a canonical unsigned integer in range
abbrev pub integer_key : List ℕ → KeyAt
integer_key bytes =
    let digits = take (digits_length bytes) bytes
    in if digits_length bytes == 0 || has_leading_zero digits
    || nat_lt largest (value_of digits) then None else Some (int_key (pos (value_of digits)), digits_length bytes)

-- a variable
abbrev pub variable_key : List ℕ → KeyAt
variable_key bytes =
    let n = name_length (drop 1 bytes)
    in if begins (codes "$") bytes && nat_lt 0 n then Some (var_key (take n (drop 1 bytes)), 1 + n) else None

-- the first key where one was read, and else the second
abbrev pub or_key : KeyAt → KeyAt → KeyAt
or_key None second = second
or_key (Some key) second = Some key

-- `$x[key]`: a name, an integer or a variable
unfoldable pub simple_key : List ℕ → KeyAt
simple_key bytes =
    let n = name_length bytes
    in if nat_lt 0 n then Some (text_key (take n bytes), n) else or_key (integer_key bytes) (variable_key bytes)

-- a single-quoted text as a key, its first quote counted with its bytes; None where the row has no end
abbrev pub text_key_of : Row ℕ → KeyAt
text_key_of (whole bytes n) = Some (text_key bytes, 1 + n)
text_key_of (broken n) = None
text_key_of endless = None

-- `{$x[key]}`: a single-quoted text, an integer or a variable
unfoldable pub braced_key : List ℕ → KeyAt
braced_key bytes = if begins (codes "'") bytes then text_key_of (single_quoted (drop 1 bytes))
    else or_key (integer_key bytes) (variable_key bytes)

-- a key, and `]` behind it; the bytes are counted from the `[` on
abbrev pub closed_key : KeyAt → List ℕ → KeyAt
closed_key None inner = None
closed_key (Some key) inner = if begins (codes "]") (drop key.1 inner) then Some (key.0, key.1 + 2) else None

-- a key with its brackets, as an item of the row; where none could be read the row is broken here
abbrev pub subscript_found : KeyAt → Found PlainKey
subscript_found None = wrong 1
subscript_found (Some key) = item key.0 key.1

-- in braces: `[key]` again and again, and `}`
unfoldable pub subscript_at : List ℕ → Found PlainKey
subscript_at [] = missing
subscript_at (b ∷ bytes) =
    if b == 125 then over 1
    else if b == 91 then subscript_found (closed_key (braced_key bytes) bytes)
    else wrong 1

-- a text in double quotes, or the lines of a heredoc
pub data Enclosure : Type 0 where
  quotes : Enclosure
  lines : Enclosure

-- whether the template stands between double quotes, where `"` ends it and `\"` is an escape
abbrev pub in_quotes : Enclosure → Bool
in_quotes quotes = true
in_quotes lines = false

-- behind a backslash: `n r t \ $`, and in quotes `"`; every other escape is refused
unfoldable pub escape_at : Enclosure → List ℕ → Found Unit_of
escape_at enclosure [] = wrong 1
escape_at enclosure (c ∷ rest) =
    if c == 110 then item (byte 10) 2
    else if c == 114 then item (byte 13) 2
    else if c == 116 then item (byte 9) 2
    else if c == 92 then item (byte 92) 2
    else if c == 36 then item (byte 36) 2
    else if c == 34 && in_quotes enclosure then item (byte 34) 2
    else wrong 2

-- a name and the one key behind it, with so many bytes before the key
abbrev pub simple_read : List ℕ → ℕ → KeyAt → Found Unit_of
simple_read name n None = wrong 1
simple_read name n (Some key) = item (reads name (key.0 ∷ [])) (n + key.1)

-- a name behind `$`, and what follows it
abbrev pub named_at : List ℕ → List ℕ → Found Unit_of
named_at name rest =
    if begins (codes "[") rest then simple_read name (1 + length name) (closed_key (simple_key (drop 1 rest)) (drop 1 rest))
    else if begins (codes "->") rest || begins (codes "?->") rest || head_is is_high rest then wrong 1
    else item (reads name []) (1 + length name)

-- behind a `$`: a variable, perhaps with one key; else the `$` stands for itself, but before `{` or a byte beyond ASCII
unfoldable pub dollar_at : List ℕ → Found Unit_of
dollar_at bytes =
    let n = name_length bytes
    in if nat_lt 0 n then named_at (take n bytes) (drop n bytes)
    else if head_is (λ b. is_high b || b == 123) bytes then wrong 1
    else item (byte 36) 1

-- the items of a row and how many bytes it takes; None where it is broken or has no end
abbrev pub whole_of : {X : Type 0} → Row X → Option (List X × ℕ)
whole_of (whole xs n) = Some (xs, n)
whole_of (broken n) = None
whole_of endless = None

-- the keys in brackets up to `}`, in order, and how many bytes they and the `}` take; None where one is wrong or the `}` is missing
unfoldable pub subscripts : List ℕ → Option (List PlainKey × ℕ)
subscripts bytes = whole_of (row subscript_at 0 bytes)

-- a read of the variable at these keys, with so many bytes before the first; wrong at once where the keys could not be read
abbrev pub braced_read : List ℕ → ℕ → Option (List PlainKey × ℕ) → Found Unit_of
braced_read name n None = wrong 1
braced_read name n (Some keys) = item (reads name keys.0) (n + keys.1)

-- behind a `{` that stands before `$`: a variable, its keys and `}`
unfoldable pub brace_at : List ℕ → Found Unit_of
brace_at bytes =
    let n = name_length (drop 1 bytes)
    in if nat_lt 0 n then braced_read (take n (drop 1 bytes)) (2 + n) (subscripts (drop n (drop 1 bytes))) else wrong 1

-- the end of a text: of a heredoc's where its lines end
abbrev pub end_of : Enclosure → Found Unit_of
end_of quotes = missing
end_of lines = over 0

-- one place of a template
unfoldable pub unit_at : Enclosure → List ℕ → Found Unit_of
unit_at enclosure [] = end_of enclosure
unit_at enclosure (b ∷ bytes) =
    if b == 34 && in_quotes enclosure then over 1
    else if b == 92 then escape_at enclosure bytes
    else if b == 36 then dollar_at bytes
    else if b == 123 && begins (codes "$") bytes then brace_at bytes
    else item (byte b) 1

-- a byte before the parts
abbrev pub with_byte : ℕ → List PlainPart → List PlainPart
with_byte b (plain_part t ∷ parts) = plain_part (b ∷ t) ∷ parts
with_byte b [] = plain_part (b ∷ []) ∷ []
with_byte b (read_part x keys ∷ parts) = plain_part (b ∷ []) ∷ read_part x keys ∷ parts

-- the parts of a template: bytes side by side are one part
abbrev pub parts_of : List Unit_of → List PlainPart
parts_of [] = []
parts_of (byte b ∷ units) = with_byte b (parts_of units)
parts_of (reads x keys ∷ units) = read_part x keys ∷ parts_of units

-- a template in which no variable is read is a text
abbrev pub kind_of_parts : List PlainPart → PlainKind
kind_of_parts [] = text []
kind_of_parts (plain_part t ∷ []) = text t
kind_of_parts parts = template parts

-- the text or template of a row behind its first quote, which is counted; a wrong place is refused there, and no end at the quote
abbrev pub double_token : Row Unit_of → Option Step
double_token (whole units n) = gives (kind_of_parts (parts_of units)) (1 + n)
double_token (broken n) = faults Escape (1 + n)
double_token endless = faults Unclosed 0

-- `"`..`"`
unfoldable pub double_step : List ℕ → Option Step
double_step bytes = if begins (codes "\"") bytes then double_token (row (unit_at quotes) 0 (drop 1 bytes)) else None

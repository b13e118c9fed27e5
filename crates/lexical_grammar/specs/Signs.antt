-- The signs and the casts (PHP manual, "Operators", "Types: Type juggling").
use Rattle.std.specs.Prelude.{ℕ, ◌+◌, if◌then◌else◌, List, [], ◌∷◌, map, take, drop, length, Option, Some, None, codes, bytes_eq}
use Rattle.std.specs.List.{prefix_len}
use Rattle.php_syntax.specs.declared.token.Sign.{Sign}
use Rattle.php_syntax.specs.declared.token.Sign.TheVariants as s
use Rattle.php_syntax.specs.Spelling.{spelling_of}
use Rattle.php_syntax.specs.Tokens.{sign}
use Rattle.lexical_grammar.specs.Characters.{is_name_byte, is_gap, lower, begins}
use Rattle.lexical_grammar.specs.Steps.{Step, gives}

-- the signs, the longer ones first
abbrev pub all_signs : List Sign
all_signs =
    s.Identical ∷ s.NotIdentical ∷ s.CoalesceAssign ∷ s.Equal ∷ s.NotEqual ∷ s.LessGreater ∷ s.LessEqual ∷ s.GreaterEqual ∷ s.DoubleArrow
    ∷ s.And ∷ s.Or ∷ s.Coalesce
    ∷ s.JoinAssign ∷ s.AddAssign ∷ s.SubAssign ∷ s.MulAssign ∷ s.RemAssign ∷ s.Increment ∷ s.Decrement ∷ s.Assign ∷ s.Less ∷ s.Greater
    ∷ s.Not ∷ s.Dot ∷ s.Plus ∷ s.Minus ∷ s.Star ∷ s.Percent
    ∷ s.Question ∷ s.Colon ∷ s.Comma ∷ s.Semicolon ∷ s.OpenParen ∷ s.CloseParen ∷ s.OpenBracket ∷ s.CloseBracket ∷ s.OpenBrace
    ∷ s.CloseBrace ∷ []

-- the first sign of these that the bytes begin with
abbrev pub first_sign : List Sign → List ℕ → Option Step
first_sign [] bytes = None
first_sign (x ∷ xs) bytes = if begins (spelling_of x) bytes then gives (sign x) (length (spelling_of x)) else first_sign xs bytes

-- the longest sign that the bytes begin with
unfoldable pub sign_step : List ℕ → Option Step
sign_step bytes = first_sign all_signs bytes

-- which cast a word names, in any case
abbrev pub cast_of : List ℕ → Option Sign
cast_of word =
    if bytes_eq (map lower word) (codes "int") then Some s.CastInt
    else if bytes_eq (map lower word) (codes "string") then Some s.CastString
    else None

-- a word in round brackets, with spaces and tabs round it
abbrev pub cast_in : Option Sign → ℕ → List ℕ → Option Step
cast_in None n rest = None
cast_in (Some x) n rest = if begins (codes ")") rest then gives (sign x) (1 + n) else None

-- `(int)` or `(string)`
unfoldable pub cast_step : List ℕ → Option Step
cast_step bytes =
    let inner = drop 1 bytes
    in let gap = prefix_len is_gap inner
    in let word = prefix_len is_name_byte (drop gap inner)
    in let second = prefix_len is_gap (drop word (drop gap inner))
    in if begins (codes "(") bytes
    then cast_in (cast_of (take word (drop gap inner))) (1 + gap + word + second) (drop second (drop word (drop gap inner))) else None

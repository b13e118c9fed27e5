-- How a file is cut into its tokens (PHP manual, "Basic syntax": PHP tags, instruction separation, comments).
use Rattle.std.specs.Prelude.{◌≡◌, ℕ, ◌+◌, Bool, not, ◌&&◌, ◌||◌, nat_lt, if◌then◌else◌, List, [], ◌∷◌, map, take, drop, length, is_some, Option, Some, None, codes, bytes_eq}
use Rattle.php_syntax.specs.declared.token.Sign.TheVariants.{Semicolon}
use Rattle.php_syntax.specs.Tokens.{PlainToken, PlainKind, inline, name, sign}
use Rattle.lexical_grammar.specs.Characters.{begins, head_is, is_gap, is_line_end, is_blank, lower, before, newline_length}
use Rattle.lexical_grammar.specs.Steps.{Mode, outside, inside, Step, goes, refuses, gives, passes, faults, or_else}
use Rattle.lexical_grammar.specs.declared.fault.LexicalFault.{LexicalFault}
use Rattle.lexical_grammar.specs.declared.fault.LexicalFault.TheVariants.{BadByte, Unclosed}
use Rattle.lexical_grammar.specs.Words.{name_step, variable_step, number_step}
use Rattle.lexical_grammar.specs.Signs.{sign_step, cast_step}
use Rattle.lexical_grammar.specs.Texts.{single_step, double_step}
use Rattle.lexical_grammar.specs.Heredocs.{heredoc_step, nowdoc_step}

-- `<?=`, which gives the name echo
abbrev pub echo_opener : List ℕ → Option Step
echo_opener bytes = if begins (codes "<?=") bytes then gives (name (codes "echo")) 3 else None

-- one blank behind an opener, with CR LF as one; None where another byte stands there
abbrev pub blank_behind : List ℕ → Option ℕ
blank_behind [] = Some 0
blank_behind (b ∷ bytes) = if is_gap b then Some 1 else if is_line_end b then Some (newline_length (b ∷ bytes)) else None

-- `<?php` and so many bytes of blank behind it, 0 at the end of the file, are passed over; no step where another byte stands there
abbrev pub opened : Option ℕ → Option Step
opened None = None
opened (Some n) = passes (5 + n)

-- `<?php` in any case, with its blank
abbrev pub php_opener : List ℕ → Option Step
php_opener bytes = if bytes_eq (map lower (take 5 bytes)) (codes "<?php") then opened (blank_behind (drop 5 bytes)) else None

-- the tag that enters PHP: `<?=` or `<?php`
unfoldable pub opener_step : List ℕ → Option Step
opener_step bytes = or_else (echo_opener bytes) (php_opener bytes)

-- whether a tag that enters PHP stands at the head
abbrev pub is_opener : List ℕ → Bool
is_opener bytes = is_some (opener_step bytes)

-- outside PHP: an opener, or the bytes up to the next one
abbrev pub or_inline : Option Step → List ℕ → Step
or_inline None bytes = goes (Some (inline (take (before is_opener bytes) bytes))) (before is_opener bytes) outside
or_inline (Some step) bytes = step

-- a blank
unfoldable pub blank_step : List ℕ → Option Step
blank_step bytes = if head_is is_blank bytes then passes 1 else None

-- where a comment of one line ends
abbrev pub ends_line : List ℕ → Bool
ends_line bytes = head_is is_line_end bytes || begins (codes "?>") bytes

-- `//`, or `#` with no `[` behind it, up to the end of the line or of PHP
unfoldable pub line_comment_step : List ℕ → Option Step
line_comment_step bytes =
    if begins (codes "//") bytes || (begins (codes "#") bytes && not (begins (codes "#[") bytes)) then passes (before ends_line bytes)
    else None

-- `/*` up to the first `*/` behind it
unfoldable pub block_comment_step : List ℕ → Option Step
block_comment_step bytes =
    let n = before (begins (codes "*/")) (drop 2 bytes)
    in if begins (codes "/*") bytes then (if nat_lt n (length (drop 2 bytes)) then passes (4 + n) else faults Unclosed 0) else None

-- `?>`, which gives the semicolon, with the line end behind it
unfoldable pub leaving_step : List ℕ → Option Step
leaving_step bytes =
    if begins (codes "?>") bytes then Some (goes (Some (sign Semicolon)) (2 + newline_length (drop 2 bytes)) outside) else None

-- what gives no token of its own: blanks, comments and the tag that leaves PHP
unfoldable pub between_step : List ℕ → Option Step
between_step bytes = or_else (blank_step bytes) (or_else (line_comment_step bytes)
    (or_else (block_comment_step bytes) (leaving_step bytes)))

-- names, variables and numbers
unfoldable pub word_step : List ℕ → Option Step
word_step bytes = or_else (name_step bytes) (or_else (variable_step bytes) (number_step bytes))

-- texts
unfoldable pub text_step : List ℕ → Option Step
text_step bytes = or_else (single_step bytes) (or_else (double_step bytes) (or_else (heredoc_step bytes) (nowdoc_step bytes)))

-- casts and signs
unfoldable pub mark_step : List ℕ → Option Step
mark_step bytes = or_else (cast_step bytes) (sign_step bytes)

-- inside PHP
unfoldable pub lexeme_step : List ℕ → Option Step
lexeme_step bytes = or_else (between_step bytes) (or_else (word_step bytes) (or_else (text_step bytes) (mark_step bytes)))

-- the step that was found; where there is none, the byte at the head is refused
abbrev pub or_bad_byte : Option Step → Step
or_bad_byte None = refuses BadByte 0
or_bad_byte (Some step) = step

-- what stands at the head
unfoldable pub step : Mode → List ℕ → Step
step outside bytes = or_inline (opener_step bytes) bytes
step inside bytes = or_bad_byte (lexeme_step bytes)

-- the bytes, from this place of the file on and in this mode, are cut into these tokens
pub data CutsFrom : Mode → ℕ → List ℕ → List PlainToken → Type 0 where
  at_end : {mode : Mode} {at : ℕ} → CutsFrom mode at [] []
  after_token : {mode next : Mode} {at n b : ℕ} {bytes : List ℕ} {kind : PlainKind} {tokens : List PlainToken} →
      step mode (b ∷ bytes) ≡ goes (Some kind) n next → CutsFrom next (at + n) (drop n (b ∷ bytes)) tokens
      → CutsFrom mode at (b ∷ bytes) (record { kind = kind; at = at } ∷ tokens)
  after_blank : {mode next : Mode} {at n b : ℕ} {bytes : List ℕ} {tokens : List PlainToken} →
      step mode (b ∷ bytes) ≡ goes None n next → CutsFrom next (at + n) (drop n (b ∷ bytes)) tokens → CutsFrom mode at (b ∷ bytes) tokens

-- from this place on, the lexical grammar is first broken in this way at that place
pub data BreaksFrom : Mode → ℕ → List ℕ → LexicalFault → ℕ → Type 0 where
  broken_here : {mode : Mode} {at n b : ℕ} {bytes : List ℕ} {fault : LexicalFault} →
      step mode (b ∷ bytes) ≡ refuses fault n → BreaksFrom mode at (b ∷ bytes) fault (at + n)
  broken_later : {mode next : Mode} {at n b place : ℕ} {bytes : List ℕ} {token : Option PlainKind} {fault : LexicalFault} →
      step mode (b ∷ bytes) ≡ goes token n next → BreaksFrom next (at + n) (drop n (b ∷ bytes)) fault place
      → BreaksFrom mode at (b ∷ bytes) fault place

-- the file is cut into these tokens
abbrev pub Cuts : List ℕ → List PlainToken → Type 0
Cuts file tokens = CutsFrom outside 0 file tokens

-- the lexical grammar is broken in the file: in this way at this place, and nowhere before it
abbrev pub Breaks : List ℕ → LexicalFault → ℕ → Type 0
Breaks file fault at = BreaksFrom outside 0 file fault at

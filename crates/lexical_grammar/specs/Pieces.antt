-- A file as its pieces: the bytes that spell a token, and those that are passed over between two tokens.
use Rattle.std.specs.Prelude.{◌≡◌, ◌⊎◌, ℕ, ◌+◌, ◌<◌, pos, Bool, false, ◌++◌, List, [], ◌∷◌, drop, length, Option, Some, None, codes}
use Rattle.php_syntax.specs.Tokens.{PlainToken, PlainKind, inline, variable, name, integer, text, template, sign}
use Rattle.lexical_grammar.specs.Characters.{value_of}
use Rattle.lexical_grammar.specs.Cuts.{is_opener}
use Rattle.lexical_grammar.specs.Spelled.{IsName, IsInteger, EndsName, EndsInteger}

-- bytes side by side, and the token that they spell, if they spell one
pub record Piece : Type 0 where
  pub bytes : List ℕ
  pub token : Option PlainKind

-- the pieces side by side
abbrev pub joined : List Piece → List ℕ
joined [] = []
joined (piece ∷ pieces) = piece.bytes ++ joined pieces

-- the token of a piece at a place, and behind it those of the pieces that follow
abbrev pub token_before : Option PlainKind → ℕ → List PlainToken → List PlainToken
token_before None at tokens = tokens
token_before (Some kind) at tokens = record { kind = kind; at = at } ∷ tokens

-- the tokens of pieces that begin at this place: each is where its first byte is
abbrev pub placed : ℕ → List Piece → List PlainToken
placed at [] = []
placed at (piece ∷ pieces) = token_before piece.token at (placed (at + length piece.bytes) pieces)

-- at no place of these bytes, with these others behind them, does the test hold
abbrev pub BeginsNot : (List ℕ → Bool) → List ℕ → List ℕ → Type 0
BeginsNot test bytes rest = (n : ℕ) → n < length bytes → test (drop n (bytes ++ rest)) ≡ false

-- the bytes of a token, with these bytes behind them, are how such a token is spelled: no opener begins in a piece outside PHP;
-- a name is a longest run of name bytes, as is a variable behind its `$`, and `<?=` is the name echo; an integer is a longest run of digits
-- and stands for their number
abbrev pub IsSpelledBy : PlainKind → List ℕ → List ℕ → Type 0
IsSpelledBy (inline t) bytes rest = (bytes ≡ t) × BeginsNot is_opener bytes rest
IsSpelledBy (variable x) bytes rest = (bytes ≡ 36 ∷ x) × IsName x × EndsName rest
IsSpelledBy (name x) bytes rest = ((bytes ≡ x) × IsName x × EndsName rest) ⊎ ((bytes ≡ codes "<?=") × (x ≡ codes "echo"))
IsSpelledBy (integer z) bytes rest = (z ≡ pos (value_of bytes)) × IsInteger bytes × EndsInteger rest
IsSpelledBy (text t) bytes rest = Unit {0}
IsSpelledBy (template parts) bytes rest = Unit {0}
IsSpelledBy (sign x) bytes rest = Unit {0}

-- a piece that spells a token is how that token is spelled
abbrev pub IsPiece : Option PlainKind → List ℕ → List ℕ → Type 0
IsPiece None bytes rest = Unit {0}
IsPiece (Some kind) bytes rest = IsSpelledBy kind bytes rest

-- no piece is empty, and each spells its token
abbrev pub ArePieces : List Piece → Type 0
ArePieces [] = Unit {0}
ArePieces (piece ∷ pieces) = (0 < length piece.bytes) × IsPiece piece.token piece.bytes (joined pieces) × ArePieces pieces

-- the tokens stand from this place on, each behind the one before it
abbrev pub Rise : ℕ → List PlainToken → Type 0
Rise at [] = Unit {0}
Rise at (token ∷ tokens) = (at < token.at + 1) × Rise (token.at + 1) tokens

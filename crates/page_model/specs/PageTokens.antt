-- The tokens of a page: its lawful pieces in turn as far as they go, and one `Bad` for what is left.
use Rattle.std.specs.Prelude.{◌≡◌, ℕ, true, List, [], ◌∷◌, ◌++◌}
use Rattle.std.specs.Str.{encode_utf8_all}
use Rattle.text_base.specs.declared.numbers.Elem.{Elem}
use Rattle.text_base.specs.declared.page_token.PageToken.{PageToken}
use Rattle.text_base.specs.declared.page_token.PageToken.TheVariants as token
use Rattle.dtd_model.specs.Table.{Table}
use Rattle.page_model.specs.Attributes.{is_allowed}
use Rattle.page_model.specs.Pieces.{Piece, mark, declaration, doctype, start_tag, empty_tag, end_tag, leaf, piece_then, IsPiece, after, after_all}
use Rattle.page_model.specs.Places.{Place, at_beginning}
use Rattle.page_model.specs.Valid.{Sort, blank, text, remark, sort_of, place_of}

-- XML and the definition allow the piece there
pub record IsLawful (table : Table) (place : Place) (piece : Piece) : Type 0 where
  pub is : IsPiece place piece
  pub allowed : is_allowed table piece ≡ true

-- the pieces are lawful, each behind those before it
abbrev pub AreLawful : Table → Place → List Piece → Type 0
AreLawful table place [] = Unit {0}
AreLawful table place (p ∷ ps) = IsLawful table place p × AreLawful table (after place p) ps

-- the bytes of a piece: its characters in UTF-8
abbrev pub piece_bytes : Piece → List ℕ
piece_bytes p = encode_utf8_all (piece_then p [])

-- the bytes of the pieces, and those behind them
abbrev pub bytes_then : List Piece → List ℕ → List ℕ
bytes_then [] rest = rest
bytes_then (p ∷ ps) rest = piece_bytes p ++ bytes_then ps rest

-- the token of what is no element, by its sort: white space, other text, or a comment or an instruction
abbrev pub sort_token : Sort → PageToken
sort_token blank = token.Blank
sort_token text = token.Text
sort_token remark = token.Misc

-- the element of this name
abbrev pub element_of : Table → List ℕ → Elem
element_of table name = record { 0 = place_of table.elements name }

-- a byte order mark and an XML declaration give no token, the tag of an empty element gives two
abbrev pub piece_tokens : Table → Piece → List PageToken
piece_tokens table mark = []
piece_tokens table (declaration d) = []
piece_tokens table (doctype d) = token.Doctype ∷ []
piece_tokens table (start_tag tag) = token.Start (element_of table tag.name) ∷ []
piece_tokens table (empty_tag tag) = token.Start (element_of table tag.name) ∷ token.End (element_of table tag.name) ∷ []
piece_tokens table (end_tag name space) = token.End (element_of table name) ∷ []
piece_tokens table (leaf l) = sort_token (sort_of l) ∷ []

-- the tokens of the pieces in turn, and those behind them
abbrev pub tokens_then : Table → List Piece → List PageToken → List PageToken
tokens_then table [] behind = behind
tokens_then table (p ∷ ps) behind = piece_tokens table p ++ tokens_then table ps behind

-- no lawful piece begins the bytes
abbrev pub NoPiece : Table → Place → List ℕ → Type 0
NoPiece table place bytes = (p : Piece) (rest : List ℕ) → IsLawful table place p → piece_bytes p ++ rest ≡ bytes → ⊥

-- what is left gives one token, where bytes are left
abbrev pub left_tokens : List ℕ → List PageToken
left_tokens [] = []
left_tokens (b ∷ bytes) = token.Bad ∷ []

-- the bytes are lawful pieces in turn and a rest that none begins, and have these tokens
pub record PageTokens (table : Table) (bytes : List ℕ) (tokens : List PageToken) : Type 0 where
  pub pieces : List Piece
  pub rest : List ℕ
  pub lawful : AreLawful table at_beginning pieces
  pub spelled : bytes_then pieces rest ≡ bytes
  pub none : NoPiece table (after_all at_beginning pieces) rest
  pub are : tokens_then table pieces (left_tokens rest) ≡ tokens

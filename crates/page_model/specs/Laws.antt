-- Laws of pages, pieces and tokens, as statements.
use Rattle.std.specs.Prelude.{◌≡◌, ◌↔◌, ℕ, List, []}
use Rattle.std.specs.Str.{encode_utf8_all}
use Rattle.text_base.specs.declared.page_token.PageToken.{PageToken}
use Rattle.dtd_model.specs.Table.{Table}
use Rattle.page_model.specs.Nodes.{Page, PageSpells, pieces_of}
use Rattle.page_model.specs.PageTokens.{AreLawful, tokens_then, PageTokens}
use Rattle.page_model.specs.Pieces.{Piece, pieces_then, ArePieces}
use Rattle.page_model.specs.Places.{at_beginning}
use Rattle.page_model.specs.TokenTree.{TokenTree}
use Rattle.page_model.specs.Valid.{Valid}

-- bytes are cut into pieces in at most one way
abbrev pub OneCutting : Type 0
OneCutting = (ps qs : List Piece) → ArePieces at_beginning ps → ArePieces at_beginning qs
    → encode_utf8_all (pieces_then ps []) ≡ encode_utf8_all (pieces_then qs []) → ps ≡ qs

-- so two trees that bytes spell have the same pieces
abbrev pub OnePage : Type 0
OnePage = (a b : Page) (bytes : List ℕ) → PageSpells a bytes → PageSpells b bytes → pieces_of a ≡ pieces_of b

-- bytes have at most one list of tokens
abbrev pub OneTokenList : Type 0
OneTokenList = (table : Table) (bytes : List ℕ) (ts us : List PageToken) → PageTokens table bytes ts → PageTokens table bytes us → ts ≡ us

-- a page is valid exactly where its tokens are those of a tree
abbrev pub ValidByTokens : Type 0
ValidByTokens = (table : Table) (bytes : List ℕ) (tokens : List PageToken) → PageTokens table bytes tokens
    → Valid table bytes ↔ TokenTree table tokens

-- characters are lawful pieces in turn, and the tokens of these are those of a tree
pub record GoodPieces (table : Table) (characters : List ℕ) : Type 0 where
  pub pieces : List Piece
  pub lawful : AreLawful table at_beginning pieces
  pub spelled : pieces_then pieces [] ≡ characters
  pub tree : TokenTree table (tokens_then table pieces [])

-- and so it is where its characters are such
abbrev pub ValidByPieces : Type 0
ValidByPieces = (table : Table) (characters : List ℕ) → Valid table (encode_utf8_all characters) ↔ GoodPieces table characters

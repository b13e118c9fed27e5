-- Laws of reading, as statements.
use Rattle.std.specs.Prelude.{◌≡◌, ℕ, List, Some}
use Rattle.dtd_model.specs.Table.{Table}
use Rattle.page_model.specs.PageTokens.{IsLawful}
use Rattle.page_model.specs.Pieces.{Piece, piece_then}
use Rattle.page_model.specs.Places.{Place}
use Rattle.page_model.specs.Cutting.{cut_at}

-- what is read and what is left
abbrev pub Read : Type 0
Read = Piece × List ℕ

-- a lawful piece is read, whatever stands behind it
abbrev pub EachIsRead : Type 0
EachIsRead = (table : Table) (place : Place) (found : Read) → IsLawful table place found.0
    → cut_at table place (piece_then found.0 found.1) ≡ Some found

-- what is read is a lawful piece, and stands there
abbrev pub NothingElse : Type 0
NothingElse = (table : Table) (place : Place) (characters : List ℕ) (found : Read) → cut_at table place characters ≡ Some found
    → IsLawful table place found.0 × (piece_then found.0 found.1 ≡ characters)

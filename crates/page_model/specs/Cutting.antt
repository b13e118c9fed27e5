-- The lawful piece at the head of characters, where there is one.
use Rattle.std.specs.Prelude.{ℕ, Bool, ◌&&◌, if◌then◌else◌, List, Option, Some, None}
use Rattle.dtd_model.specs.Table.{Table}
use Rattle.page_model.specs.Attributes.{is_allowed}
use Rattle.page_model.specs.Pieces.{Piece}
use Rattle.page_model.specs.Places.{Place}
use Rattle.page_model.specs.Reading.{piece_at}
use Rattle.page_model.specs.Right.{is_right}
use Rattle.page_model.specs.Scan.{then_some}

-- the piece that was read is right, and as the definition asks
abbrev pub is_fit : Table → Place → Piece → Bool
is_fit table place p = is_right place p && is_allowed table p

-- what was found, where it fits
abbrev pub kept : Bool → Piece × List ℕ → Option (Piece × List ℕ)
kept fit found = if fit then Some found else None

-- the lawful piece at the head, by a definition and at this place, and what stands behind it; None where there is none
unfoldable pub cut_at : Table → Place → List ℕ → Option (Piece × List ℕ)
cut_at table place cs = then_some (piece_at place cs) (λ found. kept (is_fit table place found.0) found)

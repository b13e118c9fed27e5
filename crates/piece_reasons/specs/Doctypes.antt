-- What a private function of document types promises. Nobody has to believe it.
use Rattle.std.specs.Prelude.{◌≡◌}
use Rattle.page_model.specs.Pieces.{Piece, doctype}
use Rattle.page_model.specs.Prolog.{Doctype}
use Rattle.piece_reasons.specs.Causes.{form_of}
use Rattle.piece_reasons.specs.declared.reasons.PieceReason.{PieceReason}
use Rattle.piece_reasons.specs.declared.reasons.PieceReason.TheVariants as reason

-- the piece is a document type declaration of this form, or nothing is told
pub data IsOther (p : Piece) : PieceReason → Type 0 where
  nothing : IsOther p reason.Other
  told : (d : Doctype) → p ≡ doctype d → IsOther p (reason.OtherDoctype (form_of d.identifier))

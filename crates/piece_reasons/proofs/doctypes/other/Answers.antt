use Rattle.std.proofs.Common.{sym, ap, subst}
use Rattle.page_rules.specs.Views.{piece_of, doctype_of}
use Rattle.piece_reasons.specs.Doctypes.{IsOther}
use Rattle.piece_reasons.specs.declared.reasons.IdentifierForm.{IdentifierForm}
use Rattle.piece_reasons.specs.declared.reasons.PieceReason.TheVariants as reason
use Rattle.piece_reasons.proofs.doctypes.other.Goals as goal

pub returns-in-Doctype : goal.returns-in-Doctype
returns-in-Doctype c =
    subst (λ (f : IdentifierForm). IsOther (piece_of c.args.piece.now) (reason.OtherDoctype f)) (sym c.form_of.ensures)
    (IsOther.told (doctype_of c.in-Doctype.doctype) (ap piece_of c.in-Doctype.is))

pub returns-in_default : goal.returns-in_default
returns-in_default c = IsOther.nothing

-- What the code is told of the place of a page that it looks at.
use Rattle.std.specs.Prelude.{ℕ, List}
use Rattle.dtd_model.specs.Table.{Table}
use Rattle.dtd_model.specs.TableOf.{table_of}
use Rattle.page_rules.specs.Views.{place_of}
use Rattle.piece_reasons.specs.Causes.{IsCause}
use Rattle.piece_reasons.specs.declared.reasons.PieceReason.{PieceReason}
use Rattle.piece_reasons.specs.declared.site.Site.{Site}

-- what is declared
abbrev pub table_at : Site → Table
table_at site = table_of site.indexed.now.dtd.now

-- the reason has its cause in what is declared and in the characters from there on
abbrev pub HasCause : Site → List ℕ → PieceReason → Type 0
HasCause site cs reason = IsCause (table_at site) site.size (place_of site.place) cs reason

-- Ways in which the pieces of a page begin.
use Rattle.dtd_model.specs.Table.{Table}
use Rattle.page_model.specs.Places.{Place}
use Rattle.page_forms.specs.Forms.{forms}
use Rattle.way_reader.specs.Laws.{AreWhole}
use Rattle.way_reader.specs.Reader.{starts_at}
use Rattle.way_reader.specs.declared.reader.PieceWays.{PieceWays}

-- at each place they are the forms there, each as a whole, in their order, by the definition with this table. In an arena two numbers that
-- stand for one expression are one (`HasEachOnce` of derivatives), so the states of a reader by such ways are settled but for numbers.
abbrev pub ArePageWays : Table → PieceWays → Type 0
ArePageWays table ways = (place : Place) → AreWhole ways.arena (starts_at ways.starts place) (forms table place)

-- The machine that puts out a page with the tokens of its reader between the bytes.
use Rattle.broken_readers.specs.Laws.{WayStep, WayEnd}
use Rattle.dtd_model.specs.Table.{Table}
use Rattle.page_decision.specs.Machines.{IsPageMachine}
use Rattle.way_reader.specs.Reader.{starts_at}
use Rattle.way_reader.specs.Ways.{first_state}
use Rattle.way_reader.specs.declared.reader.PieceWays.{PieceWays}

-- that of the reader by these ways reads pages, by the definition with this table
abbrev pub IsMachineOf : Table → PieceWays → Type 0
IsMachineOf table ways =
    IsPageMachine table first_state (WayStep ways.arena (starts_at ways.starts)) (WayEnd ways.arena (starts_at ways.starts))

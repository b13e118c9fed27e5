-- The ways in which pieces begin, in memory.
use Rattle.std.specs.Prelude.{◌==◌, if◌then◌else◌, List}
use Rattle.page_model.specs.Places.{Place, at_beginning, behind_mark, behind}
use Rattle.way_reader.specs.declared.reader.Starts.{Starts}
use Rattle.way_reader.specs.declared.way.Way.{Way}

-- by the place; behind more than two `]` as behind one, since no place is told apart there
abbrev pub starts_at : Starts → Place → List Way
starts_at s at_beginning = s.beginning.items
starts_at s behind_mark = s.behind_mark.items
starts_at s (behind k) = if k == 0 then s.behind.items else (if k == 2 then s.behind_two.items else s.behind_one.items)

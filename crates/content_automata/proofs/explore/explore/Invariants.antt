use Rattle.std.proofs.Common.{◌≡◌, ◌≤◌, ◌-◌, length, map, take}
use Rattle.content_automata.specs.Views.{shapes_of, row_of}
use Rattle.content_automata.specs.Tables.{Keeps, RowsFit, AllReached}
use Rattle.content_automata.specs.Counts.{moves_in}
use Rattle.content_automata.proofs.explore.explore.Given as goal

abbrev pub invariant-states : goal.invariant-states
invariant-states l =
    record {
      rows : RowsFit (shapes_of l.models) l.keys.keys (map row_of l.states.items) l.next;
      within : l.next ≤ length l.keys.keys;
      few : length l.keys.keys ≤ 4096;
      keeps : Keeps l.fn.keys.keys l.keys.keys;
      reached : AllReached (shapes_of l.models) l.keys.keys;
      moves : l.moves ≡ moves_in (shapes_of l.models) (take l.next l.keys.keys);
      few_moves : l.moves ≤ 16777216;
    }

abbrev pub decreases-states : goal.decreases-states
decreases-states l = 4096 - l.next

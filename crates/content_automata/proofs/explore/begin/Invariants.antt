use Rattle.std.proofs.Common.{◌≤◌, length}
use Rattle.content_automata.specs.Views.{shapes_of}
use Rattle.content_automata.specs.Tables.{FirstsFit, AllReached}
use Rattle.content_automata.proofs.explore.begin.Given as goal

abbrev pub invariant-loop-element : goal.invariant-loop-element
invariant-loop-element l =
    record {
      firsts : FirstsFit (shapes_of l.models) l.keys.keys l.firsts.items l.element;
      few : length l.keys.keys ≤ 4096;
      reached : AllReached (shapes_of l.models) l.keys.keys;
    }

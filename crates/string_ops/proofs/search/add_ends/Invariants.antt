use Rattle.std.proofs.Common.{◌≡◌}
use Rattle.string_ops.specs.Search.{AddsEnds}
use Rattle.string_ops.proofs.search.add_ends.Given as goal

abbrev pub invariant-loop-at : goal.invariant-loop-at
invariant-loop-at l =
    record {
      added : AddsEnds l.fn.table.ends.items l.table.ends.items l.base l.at l.pattern;
      states : l.table.states ≡ l.fn.table.states;
      start : l.table.start ≡ l.fn.table.start;
      moves : l.table.moves.items ≡ l.fn.table.moves.items;
    }

use Rattle.std.proofs.Common.{◌≡◌}
use Rattle.string_ops.specs.Search.{AddsSearch}
use Rattle.string_ops.specs.Cut.{count_turn}
use Rattle.string_ops.proofs.cut.add_counts.Given as goal

abbrev pub invariant-loop-at : goal.invariant-loop-at
invariant-loop-at l =
    record {
      search : AddsSearch l.fn.table.moves.items l.table.moves.items 0 l.at (count_turn l.from);
      states : l.table.states ≡ l.fn.table.states;
      start : l.table.start ≡ l.fn.table.start;
      ends : l.table.ends.items ≡ l.fn.table.ends.items;
    }

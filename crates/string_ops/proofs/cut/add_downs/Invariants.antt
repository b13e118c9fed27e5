use Rattle.std.proofs.Common.{◌≡◌, ◌+◌}
use Rattle.string_ops.specs.Search.{AddsSearch}
use Rattle.string_ops.specs.Cut.{down_turn}
use Rattle.string_ops.proofs.cut.add_downs.Given as goal

abbrev pub invariant-loop-at : goal.invariant-loop-at
invariant-loop-at l =
    record {
      search : AddsSearch l.fn.table.moves.items l.table.moves.items (l.base + 1) l.at (down_turn l.base);
      states : l.table.states ≡ l.fn.table.states;
      start : l.table.start ≡ l.fn.table.start;
      ends : l.table.ends.items ≡ l.fn.table.ends.items;
    }

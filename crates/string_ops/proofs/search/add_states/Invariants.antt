use Rattle.std.proofs.Common.{◌≡◌}
use Rattle.string_ops.specs.Search.{turn_by, AddsSearch}
use Rattle.string_ops.proofs.search.add_states.Given as goal

abbrev pub invariant-loop-at : goal.invariant-loop-at
invariant-loop-at l =
    record {
      search : AddsSearch l.fn.table.moves.items l.table.moves.items l.search.base l.at (turn_by l.search.pattern.now l.search.base (l.search.full_to, l.search.full_out.now) l.search.shown);
      states : l.table.states ≡ l.fn.table.states;
      start : l.table.start ≡ l.fn.table.start;
      ends : l.table.ends.items ≡ l.fn.table.ends.items;
    }

use Rattle.std.proofs.Common.{◌≡◌}
use Rattle.string_ops.specs.Search.{turn}
use Rattle.string_ops.proofs.SearchLemmas.{Turning}
use Rattle.string_ops.proofs.search.add_state.Given as goal

abbrev pub invariant-loop-byte : goal.invariant-loop-byte
invariant-loop-byte l =
    record {
      turning : Turning l.initial.table.moves.items l.table.moves.items l.from (turn l.search.pattern.now l.search.base (l.search.full_to, l.search.full_out.now) l.search.shown l.at) l.row.items l.byte;
      states : l.table.states ≡ l.fn.table.states;
      start : l.table.start ≡ l.fn.table.start;
      ends : l.table.ends.items ≡ l.fn.table.ends.items;
    }

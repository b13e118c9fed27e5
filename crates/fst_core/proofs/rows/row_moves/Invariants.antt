use Rattle.std.proofs.Common.{[]}
use Rattle.fst_core.specs.Choices.{FitsRow}
use Rattle.fst_core.proofs.ChoiceLemmas.{Building}
use Rattle.fst_core.proofs.rows.row_moves.Given as goal

abbrev pub invariant-loop-hi : goal.invariant-loop-hi
invariant-loop-hi l =
    record {
      building : Building [] l.moves.items l.from l.named l.actions l.lo l.hi;
      fits : FitsRow l.moves.items l.from l.actions;
    }

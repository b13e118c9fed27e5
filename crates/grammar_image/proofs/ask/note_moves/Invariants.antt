use Rattle.std.proofs.Common.{length, All}
use Rattle.fst_core.specs.Offers.{IsWithin}
use Rattle.grammar_image.proofs.NoteLemmas.{NotesRest}
use Rattle.grammar_image.proofs.ask.note_moves.Given as goal

abbrev pub invariant-loop-step : goal.invariant-loop-step
invariant-loop-step g l =
    record {
      notes : NotesRest l.fn.states.keys l.states.keys l.fn.chart l.chart l.range l.from l.fn.moves.items l.moves.items;
      within : All (IsWithin l.range) l.moves.items;
    }

abbrev pub decreases-loop-step : goal.decreases-loop-step
decreases-loop-step g l = length l.moves.items

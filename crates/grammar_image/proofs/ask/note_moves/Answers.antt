use Rattle.grammar_image.proofs.NoteLemmas.{notes_none, notes_more, within_last, within_front}
use Rattle.grammar_image.proofs.ask.note_moves.Goals as goal

pub loop-step-init : goal.loop-step-init
loop-step-init g c = record { notes = notes_none _ _ _ _ _; within = c.requires.within }

pub note_move-requires-clause-within : goal.note_move-requires-clause-within
note_move-requires-clause-within g c = within_last c.args.range c.loop-step.moves.items c.pop.new.self.items c.in-Some.step c.in-Some.ensures.items c.loop-step.invariant.within

pub loop-step-preserved : goal.loop-step-preserved
loop-step-preserved g c =
    record {
      notes = notes_more _ _ _ _ _ _ _ _ _ _ _ _ c.loop-step.invariant.notes c.in-Some.ensures.items c.in_ok-note_move.ensures;
      within = within_front c.args.range c.loop-step.moves.items c.pop.new.self.items c.in-Some.step c.in-Some.ensures.items c.loop-step.invariant.within;
    }

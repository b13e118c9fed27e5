use Rattle.page_lexer.proofs.Known.{more_states, asked, only_next}
use Rattle.page_lexer.proofs.numbered.NumberedReader.ask.Goals as goal

pub returns-in_err-to-2-clause-adds : goal.returns-in_err-to-2-clause-adds
returns-in_err-to-2-clause-adds g c =
    only_next (g.R.ByteReader.next c.args.self.now.reader) _ _ c.args.state.0 c.args.byte c.in_ok-to.field-0.to c.in-Some.from.now c.number.ensures.adds c.in-Some.ensures.key c.in_ok-to.ensures.to

pub returns-in_err-note_step-clause-adds : goal.returns-in_err-note_step-clause-adds
returns-in_err-note_step-clause-adds g c =
    only_next (g.R.ByteReader.next c.args.self.now.reader) _ _ c.args.state.0 c.args.byte c.in_ok-to.field-0.to c.in-Some.from.now c.number.ensures.adds c.in-Some.ensures.key c.in_ok-to.ensures.to

pub returns-clause-adds : goal.returns-clause-adds
returns-clause-adds g c =
    only_next (g.R.ByteReader.next c.args.self.now.reader) _ _ c.args.state.0 c.args.byte c.in_ok-to.field-0.to c.in-Some.from.now c.number.ensures.adds c.in-Some.ensures.key c.in_ok-to.ensures.to

pub invariant_of-self-in-Break-branch-2 : goal.invariant_of-self-in-Break-branch-2
invariant_of-self-in-Break-branch-2 g c = record { numbered = more_states _ _ _ _ _ _ c.number.ensures.keeps c.args.self.now.numbered }

pub invariant_of-self-2 : goal.invariant_of-self-2
invariant_of-self-2 g c =
    record {
      numbered = asked _ _ _ _ _ _ _ c.args.state.0 c.args.byte c.in_ok-to-2.to c.in_ok-to.field-0.emit c.in-Some.from.now c.in_ok-to.field-0.to c.number.ensures.keeps c.in-Some.ensures.key
          c.in_ok-to-2.ensures.number c.in_ok-to.ensures.to c.in_ok-to.ensures.emit c.note_step.ensures.only c.args.self.now.numbered;
    }

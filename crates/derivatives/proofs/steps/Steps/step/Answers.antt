use Rattle.std.proofs.Common.{sym}
use Rattle.derivatives.specs.declared.ask.Ask.{Ask}
use Rattle.derivatives.proofs.AnswerLemmas.{answered, answers_stay, answers_put, new_answer}
use Rattle.derivatives.proofs.steps.Steps.step.Goals as goal

pub invariant_of-self : goal.invariant_of-self
invariant_of-self c = record {
  right = answers_stay c.args.self.now.arena c.derivative.new.self c.args.self.now.answers c.derivative.ensures.keeps c.args.self.now.right;
}

pub invariant_of-self-in-None : goal.invariant_of-self-in-None
invariant_of-self-in-None c =
    let ask : Ask = record { place = c.args.place; byte = c.args.byte } in
    record {
      right = answers_put c.derivative.new.self c.args.self.now.answers c.insert.new.self ask c.in_ok-answer-in-None.answer c.insert.result c.insert.ensures.updates c.insert.ensures.err
          (answers_stay c.args.self.now.arena c.derivative.new.self c.args.self.now.answers c.in_ok-answer-in-None.ensures.keeps c.args.self.now.right)
          (new_answer c.args.self.now.arena c.derivative.new.self c.in_ok-answer-in-None.ensures.keeps ask c.in_ok-answer-in-None.answer c.requires c.in_ok-answer-in-None.ensures.made);
    }

pub returns-in-Some-clause-made : goal.returns-in-Some-clause-made
returns-in-Some-clause-made c =
    let ask : Ask = record { place = c.args.place; byte = c.args.byte } in
    answered c.args.self.now.arena ask c.in-Some.answer (c.args.self.now.right ask c.in-Some.answer (sym c.in-Some.ensures))

use Rattle.form_maker.proofs.Holding.{grown, empty_are, always, none_taken}
use Rattle.form_maker.proofs.maker.Maker.pop.Goals as goal

pub invariant_of-self-in-None : goal.invariant_of-self-in-None
invariant_of-self-in-None c = record {
  on_stack = empty_are c.nothing.new.self c.pop.new.self c.in-None.ensures.1;
  in_kept = grown c.args.self.now.arena c.nothing.new.self c.nothing.ensures.keeps c.args.self.now.kept.items c.args.self.now.in_kept;
}

pub returns-in-None-clause-others : goal.returns-in-None-clause-others
returns-in-None-clause-others c = always c.nothing.result _
    (none_taken c.args.self.now.arena c.nothing.new.self c.args.self.now.stack c.pop.new.self c.args.self.now.kept.items c.in-None.ensures.0 c.in-None.ensures.1 c.nothing.ensures.keeps c.args.self.now.in_kept)

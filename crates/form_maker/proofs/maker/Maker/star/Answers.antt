use Rattle.derivatives.specs.Expressions.{star}
use Rattle.form_maker.specs.Making.{making_of}
use Rattle.form_maker.proofs.Holding.{grown, pushed_or_not, changed_is}
use Rattle.form_maker.proofs.maker.Maker.star.Goals as goal

pub invariant_of-self : goal.invariant_of-self
invariant_of-self c = record {
  on_stack = grown c.pop.new.self.arena c.star.new.self c.star.ensures.keeps c.pop.new.self.stack c.pop.new.self.on_stack;
  in_kept = grown c.pop.new.self.arena c.star.new.self c.star.ensures.keeps c.pop.new.self.kept.items c.pop.new.self.in_kept;
}

pub invariant_of-self-2 : goal.invariant_of-self-2
invariant_of-self-2 c = record {
  on_stack = pushed_or_not c.star.new.self c.push.result c.push.new.self c.pop.new.self.stack c.in_ok-place.place c.push.ensures.ok c.push.ensures.err c.in_ok-place.ensures.made.is_expr
      (grown c.pop.new.self.arena c.star.new.self c.in_ok-place.ensures.keeps c.pop.new.self.stack c.pop.new.self.on_stack);
  in_kept = grown c.pop.new.self.arena c.star.new.self c.in_ok-place.ensures.keeps c.pop.new.self.kept.items c.pop.new.self.in_kept;
}

pub returns : goal.returns
returns c = changed_is star c.pop.new.self.arena c.star.new.self c.pop.new.self.stack c.push.new.self c.pop.new.self.kept.items (making_of c.args.self.now) c.in_ok-last.last c.in_ok-place.place c.in_ok-last.ensures.last
    c.in_ok-last.ensures.others c.in_ok-push.ensures.ok c.in_ok-place.ensures.keeps c.pop.new.self.on_stack c.pop.new.self.in_kept c.in_ok-place.ensures.made

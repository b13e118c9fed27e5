use Rattle.derivatives.specs.Expressions.{empty}
use Rattle.form_maker.proofs.Holding.{grown, pushed_or_not, push_is}
use Rattle.form_maker.proofs.maker.Maker.empty.Goals as goal

pub invariant_of-self : goal.invariant_of-self
invariant_of-self c = record {
  on_stack = grown c.args.self.now.arena c.empty.new.self c.empty.ensures.keeps c.args.self.now.stack c.args.self.now.on_stack;
  in_kept = grown c.args.self.now.arena c.empty.new.self c.empty.ensures.keeps c.args.self.now.kept.items c.args.self.now.in_kept;
}

pub invariant_of-self-2 : goal.invariant_of-self-2
invariant_of-self-2 c = record {
  on_stack = pushed_or_not c.empty.new.self c.push.result c.push.new.self c.args.self.now.stack c.in_ok-place.place c.push.ensures.ok c.push.ensures.err c.in_ok-place.ensures.made.is_expr
      (grown c.args.self.now.arena c.empty.new.self c.in_ok-place.ensures.keeps c.args.self.now.stack c.args.self.now.on_stack);
  in_kept = grown c.args.self.now.arena c.empty.new.self c.in_ok-place.ensures.keeps c.args.self.now.kept.items c.args.self.now.in_kept;
}

pub returns : goal.returns
returns c = push_is c.args.self.now.arena c.empty.new.self c.args.self.now.stack c.push.new.self c.args.self.now.kept.items c.in_ok-place.place empty c.in_ok-push.ensures.ok c.in_ok-place.ensures.keeps
    c.args.self.now.on_stack c.args.self.now.in_kept c.in_ok-place.ensures.made

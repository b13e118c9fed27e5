use Rattle.form_maker.specs.Making.{join_of, making_of}
use Rattle.derivatives.proofs.BehindLemmas.{expr_on}
use Rattle.form_maker.proofs.Holding.{grown, pushed_or_not, joined_is}
use Rattle.form_maker.proofs.maker.Maker.join.Goals as goal

pub joined_in-requires-clause-last : goal.joined_in-requires-clause-last
joined_in-requires-clause-last c = expr_on c.pop.new.self.arena c.pop-2.new.self.arena c.in_ok-other.ensures.keeps c.in_ok-last.last c.in_ok-last.ensures.last.is_expr

pub invariant_of-self : goal.invariant_of-self
invariant_of-self c = record {
  on_stack = grown c.pop-2.new.self.arena c.joined_in.new.arena c.joined_in.ensures.keeps c.pop-2.new.self.stack c.pop-2.new.self.on_stack;
  in_kept = grown c.pop-2.new.self.arena c.joined_in.new.arena c.joined_in.ensures.keeps c.pop-2.new.self.kept.items c.pop-2.new.self.in_kept;
}

pub invariant_of-self-2 : goal.invariant_of-self-2
invariant_of-self-2 c = record {
  on_stack = pushed_or_not c.joined_in.new.arena c.push.result c.push.new.self c.pop-2.new.self.stack c.in_ok-place.place c.push.ensures.ok c.push.ensures.err c.in_ok-place.ensures.made.is_expr
      (grown c.pop-2.new.self.arena c.joined_in.new.arena c.in_ok-place.ensures.keeps c.pop-2.new.self.stack c.pop-2.new.self.on_stack);
  in_kept = grown c.pop-2.new.self.arena c.joined_in.new.arena c.in_ok-place.ensures.keeps c.pop-2.new.self.kept.items c.pop-2.new.self.in_kept;
}

pub returns : goal.returns
returns c = joined_is (join_of c.args.joining) c.pop.new.self.arena c.pop-2.new.self.arena c.joined_in.new.arena c.pop-2.new.self.stack c.push.new.self c.pop-2.new.self.kept.items (making_of c.args.self.now)
    (making_of c.pop.new.self) c.in_ok-last.last c.in_ok-other.other c.in_ok-place.place c.in_ok-last.ensures.last c.in_ok-last.ensures.others c.in_ok-other.ensures.keeps c.in_ok-other.ensures.last c.in_ok-other.ensures.others
    c.in_ok-push.ensures.ok c.in_ok-place.ensures.keeps c.pop-2.new.self.on_stack c.pop-2.new.self.in_kept c.in_ok-place.ensures.made

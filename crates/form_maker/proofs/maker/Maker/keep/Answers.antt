use Rattle.form_maker.specs.Making.{making_of}
use Rattle.form_maker.proofs.Holding.{moved_is}
use Rattle.form_maker.proofs.maker.Maker.keep.Goals as goal

pub returns : goal.returns
returns c = moved_is c.pop.new.self.arena c.pop.new.self.stack c.pop.new.self.kept.items c.push.new.self.items (making_of c.args.self.now) c.in_ok-last.last c.in_ok-last.ensures.last c.in_ok-last.ensures.others c.in_ok-push.ensures.items

use Rattle.form_maker.specs.Making.{making_of}
use Rattle.form_maker.proofs.Before.{word_made}
use Rattle.form_maker.proofs.maker.Maker.word.Goals as goal

pub returns : goal.returns
returns c = word_made c.args.word.now (making_of c.args.self.now) (making_of c.empty.new.self) (making_of c.word_before.new.self) c.in_ok-empty.ensures c.in_ok-word_before.ensures

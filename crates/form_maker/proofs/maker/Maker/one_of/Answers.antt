use Rattle.form_maker.specs.Making.{making_of}
use Rattle.form_maker.specs.Words.{word_test}
use Rattle.form_maker.proofs.Before.{words_made}
use Rattle.form_maker.proofs.maker.Maker.one_of.Goals as goal

pub returns : goal.returns
returns c = words_made (word_test c.args.test) c.args.words.now (making_of c.args.self.now) (making_of c.nothing.new.self) (making_of c.words_before.new.self) c.in_ok-nothing.ensures c.in_ok-words_before.ensures

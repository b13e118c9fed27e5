use Rattle.form_maker.specs.Making.{making_of}
use Rattle.form_maker.proofs.Before.{word_passes, word_fails}
use Rattle.form_maker.proofs.BehindNames.{on_ok}
use Rattle.form_maker.proofs.maker.Maker.word_if.Goals as goal

pub returns-then-passes : goal.returns-then-passes
returns-then-passes c = on_ok c.word_or.result _ _ (word_passes c.args.passes c.args.word.now (making_of c.args.self.now) (making_of c.word_or.new.self) c.if-passes.true) c.word_or.ensures

pub returns-else-passes : goal.returns-else-passes
returns-else-passes c = word_fails c.args.passes c.args.word.now (making_of c.args.self.now) c.if-passes.false

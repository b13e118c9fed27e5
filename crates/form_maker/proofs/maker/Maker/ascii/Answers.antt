use Rattle.derivatives.specs.Expressions.{nothing}
use Rattle.page_forms.specs.Words.{ascii}
use Rattle.form_maker.specs.Making.{making_of}
use Rattle.form_maker.proofs.maker.Maker.ascii.Goals as goal

pub returns : goal.returns
unfolding ascii
returns g c = c.in_ok-ranges_below.ensures nothing (making_of c.args.self.now) c.in_ok-nothing.ensures

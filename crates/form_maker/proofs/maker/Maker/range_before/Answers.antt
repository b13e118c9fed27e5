use Rattle.form_maker.specs.Making.{making_of}
use Rattle.form_maker.proofs.Before.{range_put, range_not}
use Rattle.form_maker.proofs.BehindNames.{on_ok}
use Rattle.form_maker.proofs.maker.Maker.range_before.Goals as goal

pub returns-in-None : goal.returns-in-None
returns-in-None c = range_not c.args.first c.args.last (making_of c.args.self.now) c.in-None.is

pub returns-in_ok-range-in-Some : goal.returns-in_ok-range-in-Some
returns-in_ok-range-in-Some c =
    on_ok c.either_before.result _ _
    (range_put c.args.first c.in-Some.hi c.args.last (making_of c.args.self.now) (making_of c.range.new.self) (making_of c.either_before.new.self) c.in-Some.is c.in_ok-range-in-Some.ensures) c.either_before.ensures

use Rattle.std.proofs.Common.{refl, sym, ap}
use Rattle.given_texts.specs.Rows.{right_with}
use Rattle.given_texts.proofs.given_listing.production_of.Goals as goal

pub returns-in-None : goal.returns-in-None
returns-in-None c = (refl, _, refl, refl, ap (right_with _) (sym c.in-None.is))

pub returns-in-Some : goal.returns-in-Some
returns-in-Some c = (refl, _, refl, refl, ap (right_with _) (sym c.in-Some.is))

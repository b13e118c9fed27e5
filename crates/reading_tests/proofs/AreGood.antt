-- The tables pass the check, by computation.
use Rattle.std.proofs.Common.{◌≡◌, true, refl}
use Rattle.lr_tables.specs.FrontChecks.{is_certified}
use Rattle.lr_tables.specs.Laws.{AreChecked}
use Rattle.reading_tests.specs.Certificate.{certificate}
use Rattle.reading_tests.specs.Small.{small}

pub are_good : is_certified small certificate ≡ true
unfolding small
are_good = refl

pub are_checked : AreChecked small
are_checked = record { certificate = certificate; passes = are_good }

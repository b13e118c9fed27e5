use Rattle.std.proofs.Common.{refl}
use Rattle.std.proofs.lemmas.Result.{on_ok_weaker}
use Rattle.extraction.proofs.NumberLemmas.{row_of_form}
use Rattle.extraction.proofs.listing.write_row.Goals as goal

pub returns : goal.returns
returns c = on_ok_weaker c.write.result (row_of_form _ _ _ _ _ _ c.in_ok-form.ensures refl refl) c.write.ensures

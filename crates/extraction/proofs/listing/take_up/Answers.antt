use Rattle.std.proofs.lemmas.Result.{on_ok_weaker}
use Rattle.extraction.proofs.RowLemmas.{rows_asked}
use Rattle.extraction.proofs.listing.take_up.Goals as goal

pub returns : goal.returns
returns g c = on_ok_weaker c.write_rows.result (rows_asked _ _ _ _ _ _ c.in_ok-forms.ensures.asked c.in_ok-forms.ensures.forms) c.write_rows.ensures

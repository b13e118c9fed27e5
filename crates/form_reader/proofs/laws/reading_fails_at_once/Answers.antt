use Rattle.form_reader.proofs.Failing.{fails_at_once}
use Rattle.form_reader.proofs.laws.reading_fails_at_once.Goals as goal

pub returns : goal.returns
returns c = fails_at_once

use Rattle.form_reader.proofs.Reading.{forms_are_read}
use Rattle.form_reader.proofs.laws.forms_are_read.Goals as goal

pub returns : goal.returns
returns c = forms_are_read

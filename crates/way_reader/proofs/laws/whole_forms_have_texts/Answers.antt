use Rattle.way_reader.proofs.Forms.{whole_forms}
use Rattle.way_reader.proofs.laws.whole_forms_have_texts.Goals as goal

pub returns : goal.returns
returns c = whole_forms

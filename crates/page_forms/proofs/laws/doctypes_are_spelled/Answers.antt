use Rattle.page_forms.proofs.DoctypeForms.{doctypes_are_spelled}
use Rattle.page_forms.proofs.laws.doctypes_are_spelled.Goals as goal

pub returns : goal.returns
returns c = doctypes_are_spelled

use Rattle.doctype_steps.proofs.Doctypes.{doctypes_left}
use Rattle.doctype_steps.proofs.laws.doctypes_left.Goals as goal

pub returns : goal.returns
returns c = doctypes_left

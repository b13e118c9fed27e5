use Rattle.remark_steps.proofs.Sections.{sections_left}
use Rattle.remark_steps.proofs.laws.sections_left.Goals as goal

pub returns : goal.returns
returns c = sections_left

use Rattle.page_forms.proofs.Instructions.{instructions_are_spelled}
use Rattle.page_forms.proofs.laws.instructions_are_spelled.Goals as goal

pub returns : goal.returns
returns c = instructions_are_spelled

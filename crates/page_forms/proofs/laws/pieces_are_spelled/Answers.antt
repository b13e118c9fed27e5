use Rattle.page_forms.proofs.PageForms.{pieces_are_spelled}
use Rattle.page_forms.proofs.laws.pieces_are_spelled.Goals as goal

pub returns : goal.returns
returns c = pieces_are_spelled

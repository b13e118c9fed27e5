use Rattle.page_model.proofs.Whole as whole
use Rattle.page_model.proofs.laws.valid_by_pieces.Goals as goal

pub returns : goal.returns
returns c = whole.valid_by_pieces

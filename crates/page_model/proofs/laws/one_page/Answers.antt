use Rattle.std.proofs.Common.{sym, ◌∙◌}
use Rattle.page_model.specs.Nodes.{pieces_of}
use Rattle.page_model.proofs.Once.{bytes_once}
use Rattle.page_model.proofs.laws.one_page.Goals as goal

pub returns : goal.returns
returns c = λ a b bytes g h. bytes_once (pieces_of a) (pieces_of b) g.pieces h.pieces (g.spelled ∙ sym h.spelled)

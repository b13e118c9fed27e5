use Rattle.std.proofs.Common.{sym, ◌∙◌}
use Rattle.page_model.specs.Places.{at_beginning}
use Rattle.page_model.proofs.Once.{tokens_once}
use Rattle.page_model.proofs.laws.one_token_list.Goals as goal

pub returns : goal.returns
returns c = λ table bytes ts us t u. sym t.are ∙ tokens_once table at_beginning t.pieces u.pieces t.rest u.rest t.lawful u.lawful t.none u.none (t.spelled ∙ sym u.spelled) ∙ u.are

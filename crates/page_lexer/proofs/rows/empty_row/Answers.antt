use Rattle.std.proofs.Common.{refl}
use Rattle.page_lexer.proofs.Known.{nothing_known}
use Rattle.page_lexer.proofs.rows.empty_row.Goals as goal

pub returns : goal.returns
returns c = λ b s. nothing_known 256 b _ s refl

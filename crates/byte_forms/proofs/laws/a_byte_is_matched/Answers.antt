use Rattle.byte_forms.proofs.ByteLemmas.{byte_is_matched}
use Rattle.byte_forms.proofs.laws.a_byte_is_matched.Goals as goal

pub returns : goal.returns
returns c = byte_is_matched

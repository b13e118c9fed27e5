use Rattle.std.proofs.Common.{refl}
use Rattle.system_writing.proofs.ends.byte_symbol.Goals as goal

pub returns : goal.returns
returns c = (_, refl, refl, refl)

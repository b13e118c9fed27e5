use Rattle.std.proofs.Common.{refl}
use Rattle.program_sizes.specs.Sizes as sizes
use Rattle.program_sizes.proofs.SizeLemmas.{none_capped}
use Rattle.program_sizes.proofs.size.Size.none.Goals as goal

pub returns : goal.returns
returns c = none_capped sizes.none refl

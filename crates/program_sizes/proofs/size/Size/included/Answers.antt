use Rattle.std.proofs.Common.{refl, arith}
use Rattle.program_sizes.proofs.SizeLemmas.{included_capped}
use Rattle.program_sizes.proofs.size.Size.included.Goals as goal

pub returns : goal.returns
returns c = included_capped c.args.self _ (omega arith) (omega arith) c.saturating_add.ensures refl refl

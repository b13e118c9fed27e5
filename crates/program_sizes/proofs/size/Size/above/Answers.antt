use Rattle.std.proofs.Common.{refl}
use Rattle.program_sizes.proofs.SizeLemmas.{above_capped}
use Rattle.program_sizes.proofs.size.Size.above.Goals as goal

pub returns : goal.returns
returns c = λ a e. above_capped c.args.self _ a e refl c.saturating_add.ensures c.saturating_add-2.ensures

use Rattle.program_sizes.proofs.SizeLemmas.{beside_capped}
use Rattle.program_sizes.proofs.size.Size.beside.Goals as goal

pub returns : goal.returns
returns c = λ a b e f. beside_capped c.args.self c.args.other _ a b e f c.saturating_add.ensures c.saturating_add-2.ensures c.max.ensures

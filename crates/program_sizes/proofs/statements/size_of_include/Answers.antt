use Rattle.std.proofs.Common.{◌∙◌, ap}
use Rattle.program_sizes.specs.declared.size.Size.{Size}
use Rattle.program_sizes.specs.Sizes as sizes
use Rattle.program_sizes.proofs.statements.size_of_include.Goals as goal

pub returns : goal.returns
returns c = c.included.ensures ∙ ap (λ (s : Size). sizes.capped (sizes.included s)) c.size_at.ensures

use Rattle.std.proofs.Common.{◌∙◌, sym}
use Rattle.program_rules.specs.View.{program_of}
use Rattle.program_lowering.proofs.ShortLemmas.{fits_of, long_of}
use Rattle.program_lowering.proofs.program_literals.literals_are_short.Goals as goal

pub returns-clause-short : goal.returns-clause-short
returns-clause-short c = λ h. fits_of (program_of c.args.program.now) (sym c.in-Ok.ensures ∙ h)

pub returns-clause-long : goal.returns-clause-long
returns-clause-long c = λ h. long_of (program_of c.args.program.now) (sym c.in-Ok.ensures ∙ h)

use Rattle.program_lowering.proofs.ShortLemmas.{unchanged}
use Rattle.program_lowering.proofs.literal_texts.TextsVisitor.visit.Goals as goal

pub returns-in_default : goal.returns-in_default
returns-in_default c = unchanged c.args.self.now.short c.args.expr.now c.in_default.not-Text

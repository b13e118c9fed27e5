use Rattle.program_lowering.proofs.ShortLemmas.{unchanged_there}
use Rattle.program_lowering.proofs.literal_texts.TextsVisitor.visit_variable.Goals as goal

pub returns : goal.returns
returns c = unchanged_there c.args.self.now.short c.args._name.now

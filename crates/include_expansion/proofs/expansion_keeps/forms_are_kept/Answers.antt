use Rattle.include_expansion.proofs.FormLemmas.{keep_stmts}
use Rattle.include_expansion.proofs.expansion_keeps.forms_are_kept.Goals as goal

pub returns : goal.returns
returns c = λ bodies ss h. keep_stmts bodies h ss

use Rattle.include_expansion.proofs.RuleLemmas.{keep_stmts}
use Rattle.include_expansion.proofs.expansion_keeps.rules_are_kept.Goals as goal

pub returns : goal.returns
returns c = λ bodies l f ss h. keep_stmts bodies h l f ss

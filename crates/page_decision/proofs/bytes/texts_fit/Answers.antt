use Rattle.std.proofs.Common.{List, length, subst}
use Rattle.cfg_grammar.specs.declared.production.Production.{Production}
use Rattle.cfg_grammar.specs.Bytes.{FirstHaveBytes}
use Rattle.page_decision.proofs.ByteLemmas.{text_fits}
use Rattle.page_decision.proofs.bytes.texts_fit.Goals as goal

pub returns : goal.returns
returns c = text_fits c.args.grammar.now.productions.items
    (subst (λ (ps : List Production). FirstHaveBytes ps (length ps)) c.as_slice.ensures.value c.productions_fit.ensures) c.args.grammar.now.start

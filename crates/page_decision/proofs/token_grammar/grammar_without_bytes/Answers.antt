use Rattle.std.proofs.Common.{rules, List, map, sym, ap, subst, ◌∙◌}
use Rattle.cfg_grammar.specs.Below.{AreBelow}
use Rattle.cfg_grammar.specs.declared.production.Production.{Production}
use Rattle.page_decision.specs.TokenGrammars.{production_without_bytes}
use Rattle.page_decision.proofs.TokenLemmas.{below_kept}
use Rattle.page_decision.proofs.token_grammar.grammar_without_bytes.Goals as goal

pub unreachable-requires : goal.unreachable-requires
unreachable-requires c =
    let source = c.args.grammar.now in
    let is = c.in_ok-productions.ensures ∙ ap (λ (ps : List Production). map production_without_bytes ps) c.as_slice.ensures.value in
    let made = c.in-None.ensures.variant.1 (source.start_below, subst (λ (ps : List Production). AreBelow source.count ps) (sym is) (below_kept source.count source.productions.items source.below)) in
    search (rules, made, c.in-None.is)

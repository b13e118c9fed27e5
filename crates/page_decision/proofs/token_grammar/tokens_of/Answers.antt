use Rattle.std.proofs.Common.{ℕ, List, length, map, sym, ap, subst, ◌∙◌}
use Rattle.std.proofs.lemmas.List.{length-map}
use Rattle.text_base.specs.declared.numbers.Nt as nt
use Rattle.cfg_grammar.specs.declared.production.Production.{Production}
use Rattle.cfg_grammar.specs.declared.symbol.Symbol as symbols
use Rattle.fst_core.specs.Outputs.{DerivesText}
use Rattle.fst_core.specs.Weight.{IsSmall}
use Rattle.page_decision.specs.Echoes.{PutsTokens}
use Rattle.page_decision.specs.TokenGrammars.{DeriveTokenLists, production_without_bytes}
use Rattle.page_decision.proofs.TokenLemmas.{token_lists}
use Rattle.page_decision.proofs.token_grammar.tokens_of.Goals as goal

pub returns-in-Ok-clause-tokens : goal.returns-in-Ok-clause-tokens
returns-in-Ok-clause-tokens g c =
    let m = c.args.machine.now in
    let source = c.args.grammar.now in
    let echo = c.in_ok-echo.echo.grammar in
    let texts = DerivesText source.productions.items (symbols.Symbol.Nt source.start) in
    let puts = PutsTokens (g.M.Machine.first m) (g.M.Machine.steps m) (g.M.Machine.ends m) in
    let lists = token_lists texts puts echo.productions.items echo.start c.in_ok-echo.ensures.echo
    (λ text tokens is has. (has.0, (c.in_ok-echo.ensures.image.sentences has.0).1 (text, is, has.1), has.2)) in
    subst (λ (ps : List Production). DeriveTokenLists texts puts ps c.in-Ok.grammar.start) (sym c.in-Ok.ensures.productions)
    (subst (λ (s : nt.Nt). DeriveTokenLists texts puts (map production_without_bytes echo.productions.items) s) (sym c.in-Ok.ensures.start) lists)

pub returns-in-Ok-clause-small : goal.returns-in-Ok-clause-small
returns-in-Ok-clause-small g c =
    let m = c.args.machine.now in
    let source = c.args.grammar.now in
    let echo = c.in_ok-echo.echo.grammar in
    let made = c.in-Ok.grammar in
    let many = ap (λ (ps : List Production). length ps) c.in-Ok.ensures.productions ∙ length-map echo.productions.items production_without_bytes in
    subst (λ (n : ℕ). IsSmall source.productions.items (g.M.Machine.steps m) (g.M.Machine.ends m) source.start (g.M.Machine.first m) n (length made.productions.items)) (sym c.in-Ok.ensures.count)
    (subst (λ (n : ℕ). IsSmall source.productions.items (g.M.Machine.steps m) (g.M.Machine.ends m) source.start (g.M.Machine.first m) echo.count n) (sym many) c.in_ok-echo.ensures.image.small)

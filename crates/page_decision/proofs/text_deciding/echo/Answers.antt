use Rattle.std.proofs.Common.{ℕ, List, sym, ap, subst}
use Rattle.cfg_grammar.specs.declared.grammar.Grammar.{Grammar}
use Rattle.cfg_grammar.specs.declared.symbol.Symbol as symbols
use Rattle.fst_core.specs.Outputs.{DerivesText}
use Rattle.grammar_image.specs.Echoes.{IsSourcedImage}
use Rattle.page_decision.specs.Echoes.{EchoTexts, PutsTokens, IsMachineImage}
use Rattle.page_decision.proofs.EchoLemmas.{echo_texts, sourced_image}
use Rattle.page_decision.proofs.text_deciding.echo.Goals as goal

pub returns-in-Ok-clause-echo : goal.returns-in-Ok-clause-echo
returns-in-Ok-clause-echo g c =
    let m = c.args.machine.now in
    let source = c.args.grammar.now in
    let made = c.in-Ok.image.grammar in
    subst (λ (e : Grammar). EchoTexts (DerivesText source.productions.items (symbols.Symbol.Nt source.start)) (PutsTokens (g.M.Machine.first m) (g.M.Machine.steps m) (g.M.Machine.ends m)) e.productions.items e.start) (sym c.into_sourced.ensures.grammar)
    (echo_texts source.productions.items source.start (g.M.Machine.first m) (g.M.Machine.steps m) (g.M.Machine.ends m) c.requires c.texts_fit.ensures made.productions.items made.start c.in-Ok.ensures.sentences)

pub returns-in-Ok-clause-image : goal.returns-in-Ok-clause-image
returns-in-Ok-clause-image g c =
    let m = c.args.machine.now in
    subst (λ (e : Grammar). IsMachineImage c.args.grammar.now (g.M.Machine.first m) (g.M.Machine.steps m) (g.M.Machine.ends m) e) (sym c.into_sourced.ensures.grammar)
    (record { sentences = c.in-Ok.ensures.sentences; small = c.in-Ok.ensures.small })

pub returns-in-Ok-clause-sources : goal.returns-in-Ok-clause-sources
returns-in-Ok-clause-sources g c =
    let m = c.args.machine.now in
    let source = c.args.grammar.now in
    let image = c.in-Ok.image in
    let is = sourced_image (g.M.Machine.first m) (g.M.Machine.steps m) (g.M.Machine.ends m) image.states.keys source.productions.items source.start image.passages.keys image.sources.items image.grammar.productions.items
    c.requires c.in-Ok.ensures.sources c.in-Ok.ensures.put_out in
    subst (λ (qs : _). IsSourcedImage source.productions.items source.start c.into_sourced.result.sources.items qs) (ap (λ (e : Grammar). e.productions.items) (sym c.into_sourced.ensures.grammar))
    (subst (λ (v : List ℕ). IsSourcedImage source.productions.items source.start v image.grammar.productions.items) (ap (λ (v : _). v.items) (sym c.into_sourced.ensures.sources)) is)

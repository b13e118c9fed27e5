use Rattle.std.proofs.Common.{◌∙◌, List, map, ap, subst}
use Rattle.std.proofs.lemmas.Result.{IfOk-weaker}
use Rattle.text_base.specs.declared.page_token.PageToken.{PageToken}
use Rattle.cfg_grammar.specs.declared.production.Production.{Production}
use Rattle.cfg_grammar.specs.declared.symbol.Symbol as symbols
use Rattle.derivations.specs.Bytes.{bytes_in}
use Rattle.derivations.specs.Stands.{IsDerivation}
use Rattle.derivations.specs.declared.node.Node.{Node}
use Rattle.fst_core.specs.Outputs.{DerivesText}
use Rattle.grammar_image.specs.Echoes.{text_of}
use Rattle.page_decision.specs.Echoes.{EchoTexts, PutsTokens}
use Rattle.page_decision.specs.Restoring.{restored, use_of}
use Rattle.page_decision.proofs.EchoLemmas.{echo_texts}
use Rattle.page_decision.proofs.RestoreLemmas.{root_filled}
use Rattle.page_decision.proofs.restoring.page_of.Goals as goal

pub source_of-requires-clause-derived : goal.source_of-requires-clause-derived
source_of-requires-clause-derived g c =
    let made = c.requires.made in
    let tokens = c.args.tokens.now in
    let qs = tokens.echo.grammar.productions.items in
    let ns = c.args.derivation.now.nodes.nodes.items in
    let ms = c.new-echoed.result.nodes.nodes.items in
    let same = ap (λ (xs : List Node). map use_of xs) c.new-echoed.ensures
    ∙ (c.in_ok-nodes.ensures ∙ (ap (λ (ps : List Production). map (restored ps) c.as_slice.result.now) c.as_slice-productions.ensures.value ∙ ap (λ (xs : List Node). map (restored qs) xs) c.as_slice.ensures)) in
    let led = root_filled qs ns ms same tokens.grammar.productions.items tokens.grammar.start tokens.echo.grammar.start made.productions made.start c.requires.derived.0 c.requires.derived.1 in
    (led.0, led.1)

pub returns : goal.returns
returns g c =
    let m = c.args.machine.now in
    let source = c.args.grammar.now in
    let made = c.requires.made in
    let tokens = c.args.tokens.now in
    let echo = tokens.echo.grammar in
    let qs = echo.productions.items in
    let ns = c.args.derivation.now.nodes.nodes.items in
    let ms = c.new-echoed.result.nodes.nodes.items in
    let first = g.M.Machine.first m in
    let steps = g.M.Machine.steps m in
    let ends = g.M.Machine.ends m in
    let same = ap (λ (xs : List Node). map use_of xs) c.new-echoed.ensures
    ∙ (c.in_ok-nodes.ensures ∙ (ap (λ (ps : List Production). map (restored ps) c.as_slice.result.now) c.as_slice-productions.ensures.value ∙ ap (λ (xs : List Node). map (restored qs) xs) c.as_slice.ensures)) in
    let texts : EchoTexts (DerivesText source.productions.items (symbols.Symbol.Nt source.start)) (PutsTokens first steps ends) qs echo.start =
    echo_texts source.productions.items source.start first steps ends c.requires.echoing c.texts_fit.ensures qs echo.start made.image.sentences in
    IfOk-weaker c.source_of.result _ _ (λ page is w derived.
    let led = root_filled qs ns ms same tokens.grammar.productions.items tokens.grammar.start echo.start made.productions made.start w derived in
    let v = led.0 in (
      bytes_in v,
      subst (λ (ps : List Production). IsDerivation ps page.nodes.nodes.items source.start (text_of v)) c.as_slice-2.ensures.value (is v led.1),
      subst (λ (ts : List PageToken). PutsTokens first steps ends (bytes_in v) ts) led.2 (texts.tokens v (c.derivations_derive.ensures qs ms echo.start v led.1)),
    )) c.source_of.ensures

use Rattle.std.proofs.Common.{List, refl, sym, subst}
use Rattle.text_base.specs.declared.letter.Letter.{Letter}
use Rattle.cfg_grammar.specs.declared.production.Production.{Production}
use Rattle.derivations.specs.Stands.{IsDerivation}
use Rattle.grammar_image.specs.Echoes.{text_of}
use Rattle.short_sentences.specs.declared.answer.ShortAnswer.{ShortAnswer}
use Rattle.short_sentences.specs.declared.answer.ShortAnswer.TheVariants.{Shortest}
use Rattle.short_page.specs.LedBack.{IsLedBack}
use Rattle.short_page.proofs.finding.lead_back.Goals as goal

pub returns-in_ok-source-in-Shortest : goal.returns-in_ok-source-in-Shortest
returns-in_ok-source-in-Shortest g c =
    let source = c.in_ok-source-in-Shortest.source in
    let grammar = c.args.grammar.now in
    let led : IsLedBack grammar c.args.image.now.grammar (Shortest c.in-Shortest.derivation) (Shortest source) = (
      source,
      refl,
      λ (w : List Letter) derived.
          subst (λ (ps : List Production). IsDerivation ps source.nodes.nodes.items grammar.start (text_of w)) c.as_slice.ensures.value (c.in_ok-source-in-Shortest.ensures w derived),
    ) in
    subst (λ (v : ShortAnswer). IsLedBack grammar c.args.image.now.grammar v (Shortest source)) (sym c.in-Shortest.is) led

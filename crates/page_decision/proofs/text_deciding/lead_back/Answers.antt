use Rattle.std.proofs.Common.{List, refl, sym, subst}
use Rattle.text_base.specs.declared.letter.Letter.{Letter}
use Rattle.cfg_grammar.specs.declared.production.Production.{Production}
use Rattle.derivations.specs.Stands.{IsDerivation}
use Rattle.grammar_image.specs.Echoes.{text_of}
use Rattle.summary_decision.specs.declared.verdict.Verdict.{Verdict}
use Rattle.summary_decision.specs.declared.verdict.Verdict.TheVariants.{No}
use Rattle.page_decision.specs.LedBack.{IsLedBack}
use Rattle.page_decision.proofs.text_deciding.lead_back.Goals as goal

pub returns-in_ok-source-in-No : goal.returns-in_ok-source-in-No
returns-in_ok-source-in-No c =
    let source = c.in_ok-source-in-No.source in
    let grammar = c.args.grammar.now in
    let led : IsLedBack grammar c.args.echo.now.grammar (No c.in-No.derivation) (No source) = (
      source,
      refl,
      λ (w : List Letter) derived.
          subst (λ (ps : List Production). IsDerivation ps source.nodes.nodes.items grammar.start (text_of w)) c.as_slice.ensures.value (c.in_ok-source-in-No.ensures w derived),
    ) in
    subst (λ (v : Verdict). IsLedBack grammar c.args.echo.now.grammar v (No source)) (sym c.in-No.is) led

use Rattle.std.proofs.Common.{List, length, subst, sym}
use Rattle.std.specs.Prelude.{IfOk}
use Rattle.fst_core.specs.Weight.{IsSmall}
use Rattle.cfg_grammar.specs.declared.production.Production.{Production}
use Rattle.grammar_chart.specs.Kept.{AreProductionsOf}
use Rattle.grammar_image.proofs.imaging.image.Goals as goal

pub imaged_over-requires-clause-places : goal.imaged_over-requires-clause-places
imaged_over-requires-clause-places g c =
    subst (λ (ps : List Production). AreProductionsOf ps c.in_ok-places.places) (sym c.as_slice-productions.ensures.value) c.in_ok-places.ensures.places

pub returns-clause-small : goal.returns-clause-small
returns-clause-small g c =
    let m = c.args.machine.now in
    subst (λ (ps : List Production). IfOk c.imaged_over.result (λ image. IsSmall ps (g.M.Machine.steps m) (g.M.Machine.ends m) c.args.from (g.M.Machine.first m) image.grammar.count (length image.grammar.productions.items))) c.as_slice-productions.ensures.value c.imaged_over.ensures.small

use Rattle.std.proofs.Common.{List, length, sym, subst}
use Rattle.cfg_grammar.specs.declared.production.Production.{Production}
use Rattle.fst_core.specs.Tables.{TableStep, TableStop}
use Rattle.fst_core.specs.declared.table.Table.{Table}
use Rattle.op_system.specs.Rel.{Rel}
use Rattle.op_system.specs.Size.{size_of}
use Rattle.string_ops.specs.Listed.{IsMachine}
use Rattle.fst_core.specs.Weight.{IsSmall}
use Rattle.grammar_chart.specs.Kept.{AreProductionsOf}
use Rattle.grammar_image.specs.Refusals.{IsCause}
use Rattle.resolving.specs.Drafts.{IsImage}
use Rattle.resolving.proofs.RuleLemmas.{image_cause}
use Rattle.resolving.proofs.images.image_of.Goals as goal

pub image_over-requires-clause-places : goal.image_over-requires-clause-places
image_over-requires-clause-places c =
    subst (λ (ps : List Production). AreProductionsOf ps c.args.draft.now.chains) (sym c.as_slice.ensures.value) c.requires.indexed.places

pub returns-in-Ok-clause-image : goal.returns-in-Ok-clause-image
returns-in-Ok-clause-image c =
    let t = c.in_ok-machine.machine.table in record {
      table = t;
      machine = subst (λ (x : Table). IsMachine x (size_of c.args.rule.now.op) (Rel c.args.rule.now.op)) (sym c.in_ok-machine.ensures) c.in_ok-table.ensures;
      is = subst (λ (ps : List Production). IsImage ps c.args.rule.now.operand t c.in-Ok.image) c.as_slice.ensures.value c.in-Ok.ensures.sentences;
      small = subst (λ (ps : List Production). IsSmall ps (TableStep t.moves.items) (TableStop t.ends.items) c.args.rule.now.operand t.start c.in-Ok.image.count (length c.in-Ok.image.productions.items)) c.as_slice.ensures.value c.in-Ok.ensures.small;
    }

pub returns-clause-cause : goal.returns-clause-cause
returns-clause-cause c =
    let t = c.in_ok-machine.machine.table in
    let machine = subst (λ (x : Table). IsMachine x (size_of c.args.rule.now.op) (Rel c.args.rule.now.op)) (sym c.in_ok-machine.ensures) c.in_ok-table.ensures in
    image_cause c.args.draft.now.productions.items c.args.rule.now c.args.limit t machine c.in-Err.refusal
    (subst (λ (ps : List Production). IsCause ps (TableStep t.moves.items) c.args.rule.now.operand t.start c.args.limit c.in-Err.refusal) c.as_slice.ensures.value c.in-Err.ensures.cause)

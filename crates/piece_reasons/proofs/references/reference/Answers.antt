use Rattle.std.proofs.Common.{ℕ, List, refl, sym, ◌∙◌, ap, subst}
use Rattle.dtd_model.specs.References.{is_known}
use Rattle.page_model.specs.Parts.{reference_of}
use Rattle.piece_reasons.specs.Sites.{table_at}
use Rattle.piece_reasons.specs.Spans.{IsSpan}
use Rattle.piece_reasons.proofs.Told.{ended_is}
use Rattle.piece_reasons.proofs.references.reference.Goals as goal

pub returns-then-not-is_ended : goal.returns-then-not-is_ended
returns-then-not-is_ended c = (
  c.args.rest.now,
  refl,
  ended_is c.args.rest.now c.split.result.0.now c.split.result.1.now c.split.ensures.front c.split.ensures.rest ∙ sym c.is_ended.ensures ∙ c.if-not-is_ended.true,
)

pub returns : goal.returns
returns c = (
  c.args.rest.now,
  refl,
  ended_is c.args.rest.now c.split.result.0.now c.split.result.1.now c.split.ensures.front c.split.ensures.rest ∙ sym c.is_ended.ensures ∙ c.if-not-is_ended.false,
  ap (λ (body : List ℕ). is_known (table_at c.args.site.now).entities (reference_of body)) (sym c.split.ensures.front)
      ∙ ap (is_known (table_at c.args.site.now).entities) (sym c.reference_of.ensures)
      ∙ sym c.is_known.ensures
      ∙ c.if-is_known.false,
  subst (λ (end : List ℕ). IsSpan c.args.site.now.size c.args.rest.now end c.span.result) c.split.ensures.rest c.span.ensures,
)

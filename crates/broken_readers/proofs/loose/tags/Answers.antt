use Rattle.std.proofs.Common.{List, map, ap, ◌∙◌}
use Rattle.dtd_model.specs.Table.{Rule, rule_of}
use Rattle.dtd_model.specs.TableOf.{table_of}
use Rattle.dtd_model.specs.declared.dtd.ElementRule.{ElementRule}
use Rattle.form_maker.specs.Making.{making_of}
use Rattle.broken_readers.proofs.KeptLemmas.{tags_kept}
use Rattle.broken_readers.proofs.loose.tags.Goals as goal

pub returns : goal.returns
returns c =
    let names = c.in_ok-names.ensures ∙ ap (λ (rules : List ElementRule). map (λ (rule : Rule). rule.name) (map rule_of rules)) c.as_slice.ensures.value in
    tags_kept (table_of c.args.dtd.now) c.as_slice-2.result.now c.as_slice-3.result.now c.as_slice-4.result.now (making_of c.args.maker.now) c.as_slice-2.ensures.value (c.as_slice-3.ensures.value ∙ names)
    (c.as_slice-4.ensures.value ∙ names) c.in_ok-reference.ensures c.in_ok-keep.ensures c.in_ok-tag.ensures c.in_ok-keep-2.ensures c.in_ok-end_tag.ensures c.in_ok-keep-3.ensures

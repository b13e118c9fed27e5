use Rattle.dtd_model.specs.Table.{rule_of}
use Rattle.dtd_model.specs.TableOf.{table_of}
use Rattle.form_maker.specs.Making.{making_of}
use Rattle.form_maker.proofs.Keeping.{element_made}
use Rattle.form_maker.proofs.maker.Maker.element.Goals as goal

pub returns : goal.returns
returns c =
    λ h.
    element_made (table_of c.args.indexed.now.dtd.now).entities (rule_of c.args.rule.now) c.as_slice-name.result.now (making_of c.args.self.now) c.as_slice-name.ensures h c.in_ok-tag.ensures c.in_ok-keep.ensures c.in_ok-tag-2.ensures c.in_ok-keep-2.ensures
    c.in_ok-end_tag.ensures c.in_ok-keep-3.ensures

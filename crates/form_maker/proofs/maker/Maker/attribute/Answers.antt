use Rattle.std.proofs.Common.{◌∙◌, sym}
use Rattle.dtd_model.specs.Table.{declared_of}
use Rattle.dtd_model.specs.TableOf.{table_of}
use Rattle.form_maker.specs.Making.{making_of}
use Rattle.form_maker.proofs.BehindNames.{with_name, without_name}
use Rattle.form_maker.proofs.maker.Maker.attribute.Goals as goal

pub returns-then-is_name : goal.returns-then-is_name
returns-then-is_name c =
    λ h.
    with_name (table_of c.args.indexed.now.dtd.now).entities (declared_of c.args.rule.now) c.as_slice-name.result.now (making_of c.args.self.now) (making_of c.value_behind.new.self) (making_of c.behind_name.new.self)
    c.as_slice-name.ensures (sym c.is_name.ensures ∙ c.if-is_name.true) (c.in_ok-value_behind.ensures h) c.in_ok-behind_name.ensures

pub returns : goal.returns
returns c =
    λ h.
    without_name (table_of c.args.indexed.now.dtd.now).entities (declared_of c.args.rule.now) c.as_slice-name.result.now (making_of c.args.self.now) (making_of c.nothing.new.self) c.as_slice-name.ensures
    (sym c.is_name.ensures ∙ c.if-is_name.false) c.in_ok-nothing.ensures

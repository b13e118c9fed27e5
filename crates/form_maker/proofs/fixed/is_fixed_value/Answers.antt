use Rattle.std.proofs.Common.{◌∙◌}
use Rattle.dtd_model.specs.Table.{kind_of}
use Rattle.dtd_model.specs.TableOf.{table_of}
use Rattle.form_maker.proofs.FixedValues.{no_value, value_by_characters}
use Rattle.form_maker.proofs.fixed.is_fixed_value.Goals as goal

pub returns-in-Err : goal.returns-in-Err
returns-in-Err c = no_value (table_of c.args.indexed.now.dtd.now).entities (kind_of c.args.kind.now) c.args.quote c.args.bytes.now c.in-Err.ensures.cases.0

pub returns-in_ok-cs-in-Ok : goal.returns-in_ok-cs-in-Ok
returns-in_ok-cs-in-Ok c =
    let found = c.in-Ok.ensures.cases in
    value_by_characters (table_of c.args.indexed.now.dtd.now).entities (kind_of c.args.kind.now) c.args.quote c.args.bytes.now _ c.as_slice-read.result.now c.is_value_of.result found.0 found.1 (c.as_slice-read.ensures.value ∙ c.in_ok-cs-in-Ok.ensures) c.is_value_of.ensures

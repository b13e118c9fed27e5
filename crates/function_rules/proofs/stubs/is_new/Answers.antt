use Rattle.std.proofs.Common.{◌∙◌, ap}
use Rattle.builtin_meaning.specs.Names.{builtin_named}
use Rattle.function_rules.proofs.TableLemmas.{name_is_new}
use Rattle.function_rules.proofs.stubs.is_new.Goals as goal

pub returns-then-is_none : goal.returns-then-is_none
returns-then-is_none c own table =
    name_is_new own c.args.name.now c.of.result c.is_none.result c.numbers.result c.is_none-then-is_none.result c.is_none.ensures (c.of.ensures ∙ ap builtin_named c.as_slice.ensures) c.if-is_none.true c.is_none-then-is_none.ensures
    (c.numbers.ensures own table)

use Rattle.std.proofs.Common.{flat_map, ◌++◌}
use Rattle.plain_values.specs.Text.{text_of}
use Rattle.function_laws.proofs.Texts.{text_value, text_short, within_value}
use Rattle.function_laws.proofs.value_laws.joins.Goals as goal

pub returns-clause-join : goal.returns-clause-join
returns-clause-join c = λ vs v e. within_value (flat_map text_of vs) v e

pub returns-clause-append : goal.returns-clause-append
returns-clause-append c = λ a b v e. within_value (text_of a ++ text_of b) v e

pub returns-clause-form : goal.returns-clause-form
returns-clause-form c = λ v h. text_value (text_of v) (text_short v h.parts)

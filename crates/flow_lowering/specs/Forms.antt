-- The code of two forms by one word.
use Rattle.std.specs.Prelude.{ℕ, Bool, true, false, List}
use Rattle.flow_code.specs.declared.source.Work.{Work}
use Rattle.flow_code.specs.Code.{Code}
use Rattle.flow_code.specs.Points.{PlainSource, number_source, truth_source}
use Rattle.flow_code.specs.Expressions.{both_true, one_true}
use Rattle.flow_lowering.specs.declared.values.Gives.{Gives}
use Rattle.flow_lowering.specs.declared.values.Gives.TheVariants as gives

-- `&&` and `||`
abbrev pub connected : Bool → Code ℕ → Code ℕ → Code ℕ
connected true a b = both_true a b
connected false a b = one_true a b

-- the source of an operation that gives a number, or of one that gives a truth value
abbrev pub source_for : Gives → Work → List ℕ → PlainSource
source_for gives.Number = number_source
source_for gives.Truth = truth_source

-- Operators and the levels of their precedence (PHP manual, "Operator Precedence").
use Rattle.std.specs.Prelude.{ℕ, Bool, true, false, Option, Some, None}
use Rattle.php_syntax.specs.declared.token.Sign.{Sign}
use Rattle.php_syntax.specs.declared.token.Sign.TheVariants as sign
use Rattle.php_syntax.specs.declared.tree.ArithSign.TheVariants as arith
use Rattle.php_syntax.specs.declared.tree.CompareSign.TheVariants as compare
use Rattle.php_syntax.specs.declared.tree.UpdateSign.{UpdateSign}
use Rattle.php_syntax.specs.declared.tree.UpdateSign.TheVariants as update
use Rattle.script_grammar.specs.declared.operator.Level.{Level}
use Rattle.script_grammar.specs.declared.operator.Level.TheVariants as level
use Rattle.script_grammar.specs.declared.operator.Operator.{Operator}
use Rattle.script_grammar.specs.declared.operator.Operator.TheVariants as operator
use Rattle.script_grammar.specs.declared.operator.Prefix.{Prefix}
use Rattle.script_grammar.specs.declared.operator.Prefix.TheVariants as prefix

-- the next tighter level, if there is one
abbrev pub tighter_level : Level → Option Level
tighter_level level.Or = Some level.And
tighter_level level.And = Some level.Equality
tighter_level level.Equality = Some level.Order
tighter_level level.Order = Some level.Join
tighter_level level.Join = Some level.Sum
tighter_level level.Sum = Some level.Product
tighter_level level.Product = None

-- How loosely a level binds: the one scale of precedence. Operators before an operand stand at 0, `??` at 8, `?:` at 9 and assignments at
-- 10.
abbrev pub level_rank : Level → ℕ
level_rank level.Product = 1
level_rank level.Sum = 2
level_rank level.Join = 3
level_rank level.Order = 4
level_rank level.Equality = 5
level_rank level.And = 6
level_rank level.Or = 7

-- whether a level takes any number of operands in a row: comparisons do not
abbrev pub repeats : Level → Bool
repeats level.Equality = false
repeats level.Order = false
repeats _ = true

-- the operator of a sign between two operands, and its level
abbrev pub binary_operator : Sign → Option (Level × Operator)
binary_operator sign.Or = Some (level.Or, operator.Or)
binary_operator sign.And = Some (level.And, operator.And)
binary_operator sign.Equal = Some (level.Equality, operator.Compare compare.Equal)
binary_operator sign.NotEqual = Some (level.Equality, operator.Compare compare.NotEqual)
binary_operator sign.LessGreater = Some (level.Equality, operator.Compare compare.NotEqual)
binary_operator sign.Identical = Some (level.Equality, operator.Compare compare.Identical)
binary_operator sign.NotIdentical = Some (level.Equality, operator.Compare compare.NotIdentical)
binary_operator sign.Less = Some (level.Order, operator.Compare compare.Less)
binary_operator sign.LessEqual = Some (level.Order, operator.Compare compare.LessEqual)
binary_operator sign.Greater = Some (level.Order, operator.Compare compare.Greater)
binary_operator sign.GreaterEqual = Some (level.Order, operator.Compare compare.GreaterEqual)
binary_operator sign.Dot = Some (level.Join, operator.Join)
binary_operator sign.Plus = Some (level.Sum, operator.Arith arith.Add)
binary_operator sign.Minus = Some (level.Sum, operator.Arith arith.Sub)
binary_operator sign.Star = Some (level.Product, operator.Arith arith.Mul)
binary_operator sign.Percent = Some (level.Product, operator.Arith arith.Rem)
binary_operator _ = None

-- the operator of a sign before an operand
abbrev pub prefix_operator : Sign → Option Prefix
prefix_operator sign.Not = Some prefix.Not
prefix_operator sign.Minus = Some prefix.Neg
prefix_operator sign.CastInt = Some prefix.CastInt
prefix_operator sign.CastString = Some prefix.CastString
prefix_operator _ = None

-- the assignment of a sign that reads its target first
abbrev pub update_sign : Sign → Option UpdateSign
update_sign sign.JoinAssign = Some update.Join
update_sign sign.AddAssign = Some update.Add
update_sign sign.SubAssign = Some update.Sub
update_sign sign.MulAssign = Some update.Mul
update_sign sign.RemAssign = Some update.Rem
update_sign sign.CoalesceAssign = Some update.Coalesce
update_sign _ = None

-- whether a sign steps a variable up or down
abbrev pub step_sign : Sign → Option Bool
step_sign sign.Increment = Some true
step_sign sign.Decrement = Some false
step_sign _ = None

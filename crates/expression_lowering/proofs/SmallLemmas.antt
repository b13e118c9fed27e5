-- Expressions that are no integer literal.
use Rattle.php_syntax.specs.Trees.{PlainExpr, int_expr, neg_expr}
use Rattle.flow_code.specs.Builtins.{literal_integer}
use Rattle.script_meaning.specs.Literals.{IsNoNegative, IsNoNumber}
use Rattle.expression_lowering.specs.Small.{IsNotSmall}

pub no_integer : (e : PlainExpr) → IsNoNegative e → IsNoNumber e → IsNotSmall (literal_integer e)
unfolding literal_integer
no_integer (int_expr z) n g = absurd g
no_integer (neg_expr (int_expr z)) n g = absurd n
no_integer e n g = tt

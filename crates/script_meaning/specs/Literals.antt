-- Which expressions are literals of a kind, and what a literal without a sign stands for (PHP manual, "Literals").
use Rattle.std.specs.Prelude.{⊤}
use Rattle.php_syntax.specs.Trees.{PlainExpr, int_expr, text_expr, neg_expr}
use Rattle.plain_values.specs.Plain.{Plain, null, flag, int, text}
use Rattle.script_meaning.specs.declared.literals.Literal.{Literal}
use Rattle.script_meaning.specs.declared.literals.Literal.TheVariants as literal

-- it is no text
abbrev pub IsNoText : PlainExpr → Type 0
IsNoText (text_expr t) = ⊥
IsNoText _ = ⊤

-- it is no integer
abbrev pub IsNoNumber : PlainExpr → Type 0
IsNoNumber (int_expr z) = ⊥
IsNoNumber _ = ⊤

-- it is not `-` and an integer
abbrev pub IsNoNegative : PlainExpr → Type 0
IsNoNegative (neg_expr (int_expr z)) = ⊥
IsNoNegative _ = ⊤

-- the value of a literal that has no sign before it
abbrev pub plain_literal : Literal → Plain
plain_literal literal.Null = null
plain_literal (literal.Flag b) = flag b
plain_literal (literal.Int z) = int z
plain_literal (literal.Text t) = text t.now

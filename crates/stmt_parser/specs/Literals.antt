-- The tree of a literal.
use Rattle.php_syntax.specs.Trees.{PlainExpr, null_expr, flag_expr, int_expr, text_expr, neg_expr}
use Rattle.stmt_parser.specs.declared.literal.Literal.{Literal}
use Rattle.stmt_parser.specs.declared.literal.Literal.TheVariants as literal

-- the tree of a literal; a minus sign before an integer is an operator
abbrev pub literal_tree : Literal → PlainExpr
literal_tree (literal.Minus z) = neg_expr (int_expr z)
literal_tree (literal.Int z) = int_expr z
literal_tree (literal.Text t) = text_expr t.now
literal_tree (literal.Flag b) = flag_expr b
literal_tree literal.Null = null_expr

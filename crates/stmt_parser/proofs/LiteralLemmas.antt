-- Heights of defaults.
use Rattle.std.proofs.Common.{◌≡◌, refl}
use Rattle.php_syntax.specs.Trees.{PlainExpr, no_expr, some_expr}
use Rattle.php_syntax.specs.Height.{height, maybe_height}

pub none_height : 0 ≡ maybe_height no_expr
unfolding maybe_height
none_height = refl

pub some_height : (e : PlainExpr) → maybe_height (some_expr e) ≡ height e
unfolding maybe_height
some_height e = refl

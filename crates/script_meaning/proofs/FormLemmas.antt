-- What an expression of no literal form is to the definitions that ask for one.
use Rattle.std.proofs.Common.{◌≡◌, ℕ, ℤ, List, refl}
use Rattle.php_syntax.specs.Trees.{plain_expr}
use Rattle.php_syntax.specs.declared.tree.Expr.{Expr, Int, Text}
use Rattle.script_meaning.specs.Literals.{IsNoText, IsNoNumber}

pub no_text : (e : Expr) → ((t : List ℕ) → e ≡ Text t → ⊥) → IsNoText (plain_expr e)
unfolding plain_expr
no_text (Text t) h = h t refl
no_text _ h = tt

pub no_number : (e : Expr) → ((z : ℤ) → e ≡ Int z → ⊥) → IsNoNumber (plain_expr e)
unfolding plain_expr
no_number (Int z) h = h z refl
no_number _ h = tt

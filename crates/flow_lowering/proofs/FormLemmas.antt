-- What an expression of no literal form is to the definitions that ask for one.
use Rattle.std.proofs.Common.{◌≡◌, ℕ, refl}
use Rattle.php_syntax.specs.Trees.{PlainExpr, int_expr, text_expr}
use Rattle.flow_code.specs.Code.{Code, left}
use Rattle.flow_code.specs.Points.{read_ref}
use Rattle.flow_code.specs.Expressions.{key_code}
use Rattle.flow_code.specs.Builtins.{replacement, splitting}
use Rattle.script_meaning.specs.Literals.{IsNoText, IsNoNumber}
use Rattle.op_system.specs.declared.op.Op.TheVariants as op

pub read_key : (e : PlainExpr) (a : Code ℕ) → IsNoNumber e → IsNoText e → key_code e a ≡ left a read_ref
unfolding key_code
read_key (int_expr z) a g h = absurd g
read_key (text_expr t) a g h = absurd h
read_key _ a g h = refl

pub no_search : (a b : PlainExpr) → IsNoText a → replacement a b ≡ op.Any
unfolding replacement
no_search (text_expr t) b h = absurd h
no_search _ b h = refl

pub no_with : (a b : PlainExpr) → IsNoText b → replacement a b ≡ op.Any
unfolding replacement
no_with a (text_expr t) h = absurd h
no_with (text_expr s) _ h = refl
no_with _ _ h = refl

pub no_separator : (a : PlainExpr) → IsNoText a → splitting a ≡ op.Factor
unfolding splitting
no_separator (text_expr t) h = absurd h
no_separator _ h = refl

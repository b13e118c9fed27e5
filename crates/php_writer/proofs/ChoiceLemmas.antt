-- A choice and an update are written part by part.
use Rattle.std.proofs.Common.{◌≡◌, ◌∙◌, ℕ, List, ◌∷◌, Result, Ok, Err, OnOk, ap, sym}
use Rattle.std.specs.Prelude.{Option}
use Rattle.std.specs.declared.boxed.Box.{Box}
use Rattle.std.specs.declared.alloc.Global.{Global}
use Rattle.text_base.specs.declared.memory.NoMemory.{NoMemory}
use Rattle.php_syntax.specs.declared.token.Sign.TheVariants as signs
use Rattle.php_syntax.specs.declared.tree.Expr.{Expr, Choice, Update}
use Rattle.php_syntax.specs.declared.tree.Target.{Target}
use Rattle.php_syntax.specs.declared.tree.UpdateSign.{UpdateSign}
use Rattle.php_syntax.specs.Trees.{PlainExpr, PlainPath, choice_expr, update_expr, plain_expr, boxed_of, target_name, target_path}
use Rattle.php_syntax.proofs.Views.{plain_expr-Choice, plain_expr-Update}
use Rattle.spellable.specs.Marks.{variable, sign, Adds}
use Rattle.php_writer.specs.Written.{placed_marks, maybe_marks, path_marks, expr_marks, sign_of_update}

on_ok : {A B : Type 0} (result : Result (Unit {0}) NoMemory) → (A → B) → OnOk result A → OnOk result B
on_ok (Ok u) f h = f h
on_ok (Err e) f h = h

choice_adds : (e : PlainExpr) (a b : PlainExpr) (m : Option (Box Expr Global)) (old one two new : List ℕ) → e ≡ choice_expr a (boxed_of m) b → Adds old one (placed_marks 10 a) → Adds one two (λ r. sign signs.Question ∷ maybe_marks (boxed_of m) r)
    → Adds two new (λ r. sign signs.Colon ∷ placed_marks 10 b r) → Adds old new (expr_marks e)
unfolding expr_marks placed_marks
choice_adds e a b m old one two new is f g h = rw is (λ r. h r ∙ g (sign signs.Colon ∷ placed_marks 10 b r) ∙ f (sign signs.Question ∷ maybe_marks (boxed_of m) (sign signs.Colon ∷ placed_marks 10 b r)))

pub choice_written : (result : Result (Unit {0}) NoMemory) (e : Expr) (a : Box Expr Global) (m : Option (Box Expr Global)) (b : Box Expr Global) (x y : Expr) (old one two new : List ℕ) → e ≡ Choice a m b → x ≡ a.value → y ≡ b.value
    → Adds old one (placed_marks 10 (plain_expr x)) → Adds one two (λ r. sign signs.Question ∷ maybe_marks (boxed_of m) r)
    → OnOk result (Adds two new (λ r. sign signs.Colon ∷ placed_marks 10 (plain_expr y) r)) → OnOk result (Adds old new (expr_marks (plain_expr e)))
choice_written result e a m b x y old one two new is first second f g h =
    on_ok result (choice_adds (plain_expr e) (plain_expr x) (plain_expr y) m old one two new (ap plain_expr is ∙ plain_expr-Choice a m b ∙ ap (λ z. choice_expr (plain_expr z) (boxed_of m) (plain_expr b.value)) (sym first) ∙ ap (λ z. choice_expr (plain_expr x) (boxed_of m) (plain_expr z)) (sym second)) f g) h

update_adds : (e : PlainExpr) (s : UpdateSign) (n : List ℕ) (ks : PlainPath) (v : PlainExpr) (old new : List ℕ) → e ≡ update_expr s n ks v → Adds old new (λ r. variable n ∷ path_marks ks (sign (sign_of_update s) ∷ expr_marks v r)) → Adds old new (expr_marks e)
unfolding expr_marks
update_adds e s n ks v old new is h = rw is h

pub update_written : (result : Result (Unit {0}) NoMemory) (e : Expr) (s : UpdateSign) (t : Target) (v : Box Expr Global) (x : Expr) (old new : List ℕ) → e ≡ Update s t v → x ≡ v.value
    → OnOk result (Adds old new (λ r. variable (target_name t) ∷ path_marks (target_path t) (sign (sign_of_update s) ∷ expr_marks (plain_expr x) r))) → OnOk result (Adds old new (expr_marks (plain_expr e)))
update_written result e s t v x old new is same h =
    on_ok result (update_adds (plain_expr e) s (target_name t) (target_path t) (plain_expr x) old new (ap plain_expr is ∙ plain_expr-Update s t v ∙ ap (λ z. update_expr s (target_name t) (target_path t) (plain_expr z)) (sym same))) h

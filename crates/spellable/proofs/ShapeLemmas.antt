-- Lists as vectors show them, by how long they are.
use Rattle.std.proofs.Common.{◌≡◌, ℕ, ◌<◌, true, false, List, [], ◌∷◌, ◌++◌, length, refl, arith}
use Rattle.std.specs.Prelude.{Option, Some, None, ◌==◌}
use Rattle.php_syntax.specs.declared.tree.Expr.{Expr}
use Rattle.php_syntax.specs.Trees.{plain_expr, exprs_of, path_of, arms_of}
use Rattle.php_syntax.specs.declared.tree.Stmt.{Stmt}
use Rattle.std.specs.declared.vec.Vec.{Vec}
use Rattle.std.specs.declared.alloc.Global.{Global}
use Rattle.std.specs.Str.{IsUtf8, IsValidUpTo}
use Rattle.std.specs.Str.Lossy.{utf8_valid_len}
use Rattle.std.proofs.lemmas.Str.{utf8_valid_len-IsUtf8, utf8_valid_len-IsValidUpTo}
use Rattle.std.proofs.lemmas.Bool.Decides.{nat_tests}
use Rattle.script_grammar.specs.Rules.{all_keyed, keyed_before_last, is_utf8}
use Rattle.spellable.specs.Spellable.{are_parts, is_read, is_some_exprs, is_some_arms}

pub one_part_is : (e : Expr) (rest : List Expr) → length rest ≡ 0 → are_parts (exprs_of (e ∷ rest)) ≡ is_read (plain_expr e)
one_part_is e [] h = refl
one_part_is e (f ∷ rest) h = absurd (omega arith)

pub parts_are : (e : Expr) (rest : List Expr) → 0 < length rest → are_parts (exprs_of (e ∷ rest)) ≡ true
parts_are e [] h = absurd (omega arith)
parts_are e (f ∷ rest) h = refl

pub some_exprs : (es : List Expr) → 0 < length es → is_some_exprs (exprs_of es) ≡ true
some_exprs [] h = absurd (omega arith)
some_exprs (e ∷ es) h = refl

pub no_exprs_are : (es : List Expr) → length es ≡ 0 → is_some_exprs (exprs_of es) ≡ false
no_exprs_are [] h = refl
no_exprs_are (e ∷ es) h = absurd (omega arith)

pub last_key : (ks : List (Option Expr)) (k : Option Expr) → keyed_before_last (path_of (ks ++ (k ∷ []))) ≡ all_keyed (path_of ks)
last_key [] k = refl
last_key (None ∷ []) k = refl
last_key (Some e ∷ []) k = refl
last_key (None ∷ l ∷ ks) k = refl
last_key (Some e ∷ l ∷ ks) k = last_key (l ∷ ks) k

pub some_arms : (arms : List (Expr × Vec Stmt Global)) → 0 < length arms → is_some_arms (arms_of arms) ≡ true
some_arms [] h = absurd (omega arith)
some_arms (a ∷ arms) h = refl

pub no_arms_are : (arms : List (Expr × Vec Stmt Global)) → length arms ≡ 0 → is_some_arms (arms_of arms) ≡ false
no_arms_are [] h = refl
no_arms_are (a ∷ arms) h = absurd (omega arith)

pub same_number : (m n : ℕ) → m ≡ n → (m == n) ≡ true
same_number m n h = grind (arith, nat_tests)

other_number : (m n : ℕ) → m < n → (m == n) ≡ false
other_number m n h = grind (arith, nat_tests)

pub utf8_so : (bytes : List ℕ) → IsUtf8 bytes → is_utf8 bytes ≡ true
utf8_so bytes h = same_number (utf8_valid_len bytes) (length bytes) (utf8_valid_len-IsUtf8 bytes h)

pub utf8_not : (bytes : List ℕ) (n : ℕ) → IsValidUpTo bytes n → is_utf8 bytes ≡ false
utf8_not bytes n h = other_number (utf8_valid_len bytes) (length bytes) (let e = utf8_valid_len-IsValidUpTo bytes n h in omega (arith, h.short))

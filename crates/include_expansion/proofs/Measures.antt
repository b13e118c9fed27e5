-- A measure of what is still to be expanded: files stand in one another so many times at most.
use Rattle.std.proofs.Common.{◌≡◌, ◌∙◌, ◌≤◌, ℕ, zero, suc, ◌+◌, ◌*◌, max, List, [], ◌∷◌, Some, slice_get, ap, arith}
use Rattle.std.proofs.lemmas.Option.{same_Some}
use Rattle.php_syntax.specs.declared.tree.Stmt.{Stmt, Include}
use Rattle.php_syntax.specs.Trees.{plain_stmt}
use Rattle.php_syntax.specs.Height.{stmt_height, stmts_height}
use Rattle.php_syntax.proofs.Views.{plain_stmt-Include}
use Rattle.program_rules.specs.Programs.{ReadFile}

-- the greatest height of the statements outside functions
pub tallest : List ReadFile → ℕ
tallest [] = 0
tallest (file ∷ files) = max (stmts_height file.tree.body_of) (tallest files)

pub below_tallest : (files : List ReadFile) (place : ℕ) (file : ReadFile) → slice_get files place ≡ Some file → stmts_height file.tree.body_of ≤ tallest files
unfolding tallest
below_tallest [] place file e = absurd (cc)
below_tallest (f ∷ fs) zero file e = let same = ap (λ (g : ReadFile). stmts_height g.tree.body_of) (same_Some f file e) in omega arith
below_tallest (f ∷ fs) (suc k) file e = let rest = below_tallest fs k file e in omega arith

-- so much for each file that may stand here
pub reach : List ReadFile → ℕ → ℕ
reach files zero = 0
reach files (suc n) = 8 * tallest files + 16 + reach files n

pub reach_less : (files : List ReadFile) (n m : ℕ) → n ≡ m + 1 → reach files n ≡ 8 * tallest files + 16 + reach files m
unfolding reach
reach_less files zero m e = absurd (omega arith)
reach_less files (suc n) m e = let same : n ≡ m = omega arith in ap (λ (k : ℕ). 8 * tallest files + 16 + reach files k) same

-- an include is a leaf
pub include_height : (s : Stmt) (path : List ℕ) → s ≡ Include path → stmt_height (plain_stmt s) ≡ 1
unfolding stmt_height
include_height s path is = ap (λ (x : Stmt). stmt_height (plain_stmt x)) is ∙ ap stmt_height (plain_stmt-Include path)

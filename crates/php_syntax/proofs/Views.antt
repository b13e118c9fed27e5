-- The plain form of a variant, over the items of its vectors.
use Rattle.std.proofs.Common.{◌≡◌, ℕ, Bool, List, refl, ap, ◌∙◌, sym}
use Rattle.std.specs.Prelude.{Option, Some, None, ℤ}
use Rattle.std.specs.declared.vec.Vec.{Vec}
use Rattle.std.specs.declared.alloc.Global.{Global}
use Rattle.std.specs.declared.boxed.Box.{Box}
use Rattle.php_syntax.specs.declared.tree.ArithSign.{ArithSign}
use Rattle.php_syntax.specs.declared.tree.CompareSign.{CompareSign}
use Rattle.php_syntax.specs.declared.tree.UpdateSign.{UpdateSign}
use Rattle.php_syntax.specs.declared.tree.SuperName.{SuperName}
use Rattle.php_syntax.specs.declared.tree.Expr.{Expr, Null, Flag, Int, Text, Var, Super, Member, ArrayOf, Join, Neg, Not, Arith, Compare, And, Or, Coalesce, Choice, Isset, Empty, Assign, Update, Step, Call, Expr-ArrayOf-0-1-None', Expr-ArrayOf-0-1-Some', Row_of-Expr-ArrayOf-0-3, end_of-Expr-ArrayOf-0-3, more_of-Expr-ArrayOf-0-3, items-the_row-Expr-ArrayOf-0-3, items_hidden-the_row-Expr-ArrayOf-0-3-0, Row_of-Expr, end_of-Expr, more_of-Expr, items-the_row-Expr, items_hidden-the_row-Expr-1, Row_of-Target-path-1, end_of-Target-path-1, more_of-Target-path-1, items-the_row-Target-path-1, items_hidden-the_row-Target-path-1-2}
use Rattle.php_syntax.specs.declared.tree.Expr.TheBlock.{hidden-the_row-Expr-1, hidden-the_row-Expr-ArrayOf-0-3-0, hidden-the_row-Target-path-1-2}
use Rattle.php_syntax.specs.declared.tree.Target.{Target}
use Rattle.php_syntax.specs.declared.tree.Stmt.{Stmt, Inline, Echo, Run, If, While, DoWhile, For, Each, Break, Continue, Return, Include, Quit, Row_of-Stmt, end_of-Stmt, more_of-Stmt, items-the_row-Stmt, items_shown-the_row-Stmt-0, items_hidden-the_row-Stmt-0, Row_of-Stmt-If-0-3, end_of-Stmt-If-0-3, more_of-Stmt-If-0-3, items-the_row-Stmt-If-0-3, items_hidden-the_row-Stmt-If-0-3-1}
use Rattle.php_syntax.specs.declared.tree.Stmt.TheBlock.{shown-the_row-Stmt-0, hidden-the_row-Stmt-0, hidden-the_row-Stmt-If-0-3-1}
use Rattle.php_syntax.specs.Trees.{null_expr, flag_expr, int_expr, text_expr, var_expr, super_expr, member_expr, array_expr, join_expr, neg_expr, not_expr, arith_expr, compare_expr, and_expr, or_expr, coalesce_expr, choice_expr, isset_expr, empty_expr, assign_expr, update_expr, step_expr, call_expr, no_expr, some_expr, more_exprs, more_items, more_keys, inline_stmt, echo_stmt, run_stmt, if_stmt, while_stmt, do_while_stmt, for_stmt, each_stmt, break_stmt, continue_stmt, return_stmt, include_stmt, quit_stmt, more_stmts, more_arms, plain_expr, plain_items, plain_row, plain_keys, exprs_of, maybe_of, boxed_of, items_of, path_of, target_name, target_path, plain_stmt, plain_stmts, plain_arms, stmts_of, arms_of}

-- vectors of expressions, of items and of keys

row_is : {n : _} (k : Row_of-Expr n) → plain_row k ≡ exprs_of (items-the_row-Expr n k)
unfolding plain_expr
row_is end_of-Expr = refl
row_is (more_of-Expr e rest) = ap (more_exprs (plain_expr e)) (row_is rest)

exprs_are : (v : Vec Expr Global) → plain_row (hidden-the_row-Expr-1 v) ≡ exprs_of v.items
exprs_are v = row_is (hidden-the_row-Expr-1 v) ∙ ap exprs_of (items_hidden-the_row-Expr-1 v)

item_row_is : {n : _} (k : Row_of-Expr-ArrayOf-0-3 n) → plain_items k ≡ items_of (items-the_row-Expr-ArrayOf-0-3 n k)
unfolding plain_expr
item_row_is end_of-Expr-ArrayOf-0-3 = refl
item_row_is (more_of-Expr-ArrayOf-0-3 Expr-ArrayOf-0-1-None' e rest) = ap (more_items no_expr (plain_expr e)) (item_row_is rest)
item_row_is (more_of-Expr-ArrayOf-0-3 (Expr-ArrayOf-0-1-Some' k) e rest) = ap (more_items (some_expr (plain_expr k)) (plain_expr e)) (item_row_is rest)

key_row_is : {n : _} (k : Row_of-Target-path-1 n) → plain_keys k ≡ path_of (items-the_row-Target-path-1 n k)
unfolding plain_expr
key_row_is end_of-Target-path-1 = refl
key_row_is (more_of-Target-path-1 Expr-ArrayOf-0-1-None' rest) = ap (more_keys no_expr) (key_row_is rest)
key_row_is (more_of-Target-path-1 (Expr-ArrayOf-0-1-Some' k) rest) = ap (more_keys (some_expr (plain_expr k))) (key_row_is rest)

path_is : (v : Vec (Option Expr) Global) → plain_keys (hidden-the_row-Target-path-1-2 v) ≡ path_of v.items
path_is v = key_row_is (hidden-the_row-Target-path-1-2 v) ∙ ap path_of (items_hidden-the_row-Target-path-1-2 v)

-- expressions

pub plain_expr-Null : plain_expr Null ≡ null_expr
unfolding plain_expr
plain_expr-Null = refl

pub plain_expr-Flag : (b : Bool) → plain_expr (Flag b) ≡ flag_expr b
unfolding plain_expr
plain_expr-Flag b = refl

pub plain_expr-Int : (z : ℤ) → plain_expr (Int z) ≡ int_expr z
unfolding plain_expr
plain_expr-Int z = refl

pub plain_expr-Text : (t : List ℕ) → plain_expr (Text t) ≡ text_expr t
unfolding plain_expr
plain_expr-Text t = refl

pub plain_expr-Var : (x : List ℕ) → plain_expr (Var x) ≡ var_expr x
unfolding plain_expr
plain_expr-Var x = refl

pub plain_expr-Super : (s : SuperName) → plain_expr (Super s) ≡ super_expr s
unfolding plain_expr
plain_expr-Super s = refl

pub plain_expr-Member : (a b : Box Expr Global) → plain_expr (Member a b) ≡ member_expr (plain_expr a.value) (plain_expr b.value)
unfolding plain_expr
plain_expr-Member a b = refl

pub plain_expr-ArrayOf : (v : Vec (Option Expr × Expr) Global) → plain_expr (ArrayOf v) ≡ array_expr (items_of v.items)
unfolding plain_expr
plain_expr-ArrayOf v = ap array_expr (item_row_is (hidden-the_row-Expr-ArrayOf-0-3-0 v) ∙ ap items_of (items_hidden-the_row-Expr-ArrayOf-0-3-0 v))

pub plain_expr-Join : (v : Vec Expr Global) → plain_expr (Join v) ≡ join_expr (exprs_of v.items)
unfolding plain_expr
plain_expr-Join v = ap join_expr (exprs_are v)

pub plain_expr-Neg : (a : Box Expr Global) → plain_expr (Neg a) ≡ neg_expr (plain_expr a.value)
unfolding plain_expr
plain_expr-Neg a = refl

pub plain_expr-Not : (a : Box Expr Global) → plain_expr (Not a) ≡ not_expr (plain_expr a.value)
unfolding plain_expr
plain_expr-Not a = refl

pub plain_expr-Arith : (s : ArithSign) (a b : Box Expr Global) → plain_expr (Arith s a b) ≡ arith_expr s (plain_expr a.value) (plain_expr b.value)
unfolding plain_expr
plain_expr-Arith s a b = refl

pub plain_expr-Compare : (s : CompareSign) (a b : Box Expr Global) → plain_expr (Compare s a b) ≡ compare_expr s (plain_expr a.value) (plain_expr b.value)
unfolding plain_expr
plain_expr-Compare s a b = refl

pub plain_expr-And : (a b : Box Expr Global) → plain_expr (And a b) ≡ and_expr (plain_expr a.value) (plain_expr b.value)
unfolding plain_expr
plain_expr-And a b = refl

pub plain_expr-Or : (a b : Box Expr Global) → plain_expr (Or a b) ≡ or_expr (plain_expr a.value) (plain_expr b.value)
unfolding plain_expr
plain_expr-Or a b = refl

pub plain_expr-Coalesce : (a b : Box Expr Global) → plain_expr (Coalesce a b) ≡ coalesce_expr (plain_expr a.value) (plain_expr b.value)
unfolding plain_expr
plain_expr-Coalesce a b = refl

pub plain_expr-Choice : (a : Box Expr Global) (m : Option (Box Expr Global)) (b : Box Expr Global) → plain_expr (Choice a m b) ≡ choice_expr (plain_expr a.value) (boxed_of m) (plain_expr b.value)
unfolding plain_expr
plain_expr-Choice a None b = refl
plain_expr-Choice a (Some m) b = refl

pub plain_expr-Isset : (v : Vec Expr Global) → plain_expr (Isset v) ≡ isset_expr (exprs_of v.items)
unfolding plain_expr
plain_expr-Isset v = ap isset_expr (exprs_are v)

pub plain_expr-Empty : (a : Box Expr Global) → plain_expr (Empty a) ≡ empty_expr (plain_expr a.value)
unfolding plain_expr
plain_expr-Empty a = refl

pub plain_expr-Assign : (t : Target) (v : Box Expr Global) → plain_expr (Assign t v) ≡ assign_expr (target_name t) (target_path t) (plain_expr v.value)
unfolding plain_expr
plain_expr-Assign t v = ap (λ p. assign_expr t.name p (plain_expr v.value)) (path_is t.path)

pub plain_expr-Update : (s : UpdateSign) (t : Target) (v : Box Expr Global) → plain_expr (Update s t v) ≡ update_expr s (target_name t) (target_path t) (plain_expr v.value)
unfolding plain_expr
plain_expr-Update s t v = ap (λ p. update_expr s t.name p (plain_expr v.value)) (path_is t.path)

pub plain_expr-Step : (x : List ℕ) (up before : Bool) → plain_expr (Step x up before) ≡ step_expr x up before
unfolding plain_expr
plain_expr-Step x up before = refl

pub plain_expr-Call : (f : List ℕ) (v : Vec Expr Global) → plain_expr (Call f v) ≡ call_expr f (exprs_of v.items)
unfolding plain_expr
plain_expr-Call f v = ap (call_expr f) (exprs_are v)

-- vectors of statements and of arms

stmt_row_is : {n : _} (k : Row_of-Stmt n) → plain_stmts k ≡ stmts_of (items-the_row-Stmt n k)
unfolding plain_stmt
stmt_row_is end_of-Stmt = refl
stmt_row_is (more_of-Stmt s rest) = ap (more_stmts (plain_stmt s)) (stmt_row_is rest)

stmts_are : (v : Vec Stmt Global) → plain_stmts (hidden-the_row-Stmt-0 v) ≡ stmts_of v.items
stmts_are v = stmt_row_is (hidden-the_row-Stmt-0 v) ∙ ap stmts_of (items_hidden-the_row-Stmt-0 v)

-- statements

pub plain_stmt-Inline : (t : List ℕ) → plain_stmt (Inline t) ≡ inline_stmt t
unfolding plain_stmt
plain_stmt-Inline t = refl

pub plain_stmt-Echo : (v : Vec Expr Global) → plain_stmt (Echo v) ≡ echo_stmt (exprs_of v.items)
unfolding plain_stmt
plain_stmt-Echo v = refl

pub plain_stmt-Run : (e : Expr) → plain_stmt (Run e) ≡ run_stmt (plain_expr e)
unfolding plain_stmt
plain_stmt-Run e = refl

pub plain_stmt-While : (e : Expr) (v : Vec Stmt Global) → plain_stmt (While e v) ≡ while_stmt (plain_expr e) (stmts_of v.items)
unfolding plain_stmt
plain_stmt-While e v = ap (while_stmt (plain_expr e)) (stmts_are v)

pub plain_stmt-DoWhile : (v : Vec Stmt Global) (e : Expr) → plain_stmt (DoWhile v e) ≡ do_while_stmt (stmts_of v.items) (plain_expr e)
unfolding plain_stmt
plain_stmt-DoWhile v e = ap (λ b. do_while_stmt b (plain_expr e)) (stmts_are v)

pub plain_stmt-For : (begin : Vec Expr Global) (condition : Option Expr) (next : Vec Expr Global) (v : Vec Stmt Global) → plain_stmt (For begin condition next v) ≡ for_stmt (exprs_of begin.items) (maybe_of condition) (exprs_of next.items) (stmts_of v.items)
unfolding plain_stmt
plain_stmt-For begin condition next v = ap (for_stmt (exprs_of begin.items) (maybe_of condition) (exprs_of next.items)) (stmts_are v)

pub plain_stmt-Each : (e : Expr) (key : Option (List ℕ)) (value : List ℕ) (v : Vec Stmt Global) → plain_stmt (Each e key value v) ≡ each_stmt (plain_expr e) key value (stmts_of v.items)
unfolding plain_stmt
plain_stmt-Each e key value v = ap (each_stmt (plain_expr e) key value) (stmts_are v)

pub plain_stmt-Break : plain_stmt Break ≡ break_stmt
unfolding plain_stmt
plain_stmt-Break = refl

pub plain_stmt-Continue : plain_stmt Continue ≡ continue_stmt
unfolding plain_stmt
plain_stmt-Continue = refl

pub plain_stmt-Return : (e : Option Expr) → plain_stmt (Return e) ≡ return_stmt (maybe_of e)
unfolding plain_stmt
plain_stmt-Return e = refl

pub plain_stmt-Include : (t : List ℕ) → plain_stmt (Include t) ≡ include_stmt t
unfolding plain_stmt
plain_stmt-Include t = refl

pub plain_stmt-Quit : (e : Option Expr) → plain_stmt (Quit e) ≡ quit_stmt (maybe_of e)
unfolding plain_stmt
plain_stmt-Quit e = refl

arm_row_is : {n : _} (k : Row_of-Stmt-If-0-3 n) → plain_arms k ≡ arms_of (items-the_row-Stmt-If-0-3 n k)
unfolding plain_stmt
arm_row_is end_of-Stmt-If-0-3 = refl
arm_row_is (more_of-Stmt-If-0-3 e shape body rest) =
    ap (λ b. more_arms (plain_expr e) b (plain_arms rest)) (stmt_row_is body ∙ ap stmts_of (sym (items_shown-the_row-Stmt-0 shape body))) ∙ ap (more_arms (plain_expr e) (stmts_of (shown-the_row-Stmt-0 shape body).items)) (arm_row_is rest)

pub plain_stmt-If : (arms : Vec (Expr × Vec Stmt Global) Global) (v : Vec Stmt Global) → plain_stmt (If arms v) ≡ if_stmt (arms_of arms.items) (stmts_of v.items)
unfolding plain_stmt
plain_stmt-If arms v =
    ap (λ a. if_stmt a (plain_stmts (hidden-the_row-Stmt-0 v))) (arm_row_is (hidden-the_row-Stmt-If-0-3-1 arms) ∙ ap arms_of (items_hidden-the_row-Stmt-If-0-3-1 arms)) ∙ ap (if_stmt (arms_of arms.items)) (stmts_are v)

-- the plain form of each variant
pub ruleset views = (
  plain_expr-Null,
  plain_expr-Flag,
  plain_expr-Int,
  plain_expr-Text,
  plain_expr-Var,
  plain_expr-Super,
  plain_expr-Member,
  plain_expr-ArrayOf,
  plain_expr-Join,
  plain_expr-Neg,
  plain_expr-Not,
  plain_expr-Arith,
  plain_expr-Compare,
  plain_expr-And,
  plain_expr-Or,
  plain_expr-Coalesce,
  plain_expr-Choice,
  plain_expr-Isset,
  plain_expr-Empty,
  plain_expr-Assign,
  plain_expr-Update,
  plain_expr-Step,
  plain_expr-Call,
  plain_stmt-Inline,
  plain_stmt-Echo,
  plain_stmt-Run,
  plain_stmt-If,
  plain_stmt-While,
  plain_stmt-DoWhile,
  plain_stmt-For,
  plain_stmt-Each,
  plain_stmt-Break,
  plain_stmt-Continue,
  plain_stmt-Return,
  plain_stmt-Include,
  plain_stmt-Quit,
)

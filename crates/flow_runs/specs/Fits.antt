-- What a program keeps so that its points are of their form: each literal is a value of a run, and each call of one of PHP's functions
-- hands in as many arguments as the function takes.
use Rattle.std.specs.Prelude.{◌≡◌, ◌≤◌, ⊤, ℕ, true, List, [], ◌∷◌, length, Some}
use Rattle.text_base.specs.declared.limits.TheConstants.{TEXT_LIMIT}
use Rattle.php_syntax.specs.Trees.{PlainExpr, null_expr, flag_expr, int_expr, text_expr, var_expr, super_expr, member_expr, array_expr, join_expr, neg_expr, not_expr, arith_expr, compare_expr, and_expr, or_expr, coalesce_expr, choice_expr, isset_expr, empty_expr, assign_expr, update_expr, step_expr, call_expr, MaybeExpr, no_expr, some_expr, PlainExprs, no_exprs, more_exprs, PlainItems, no_items, more_items, PlainPath, no_keys, more_keys, PlainStmt, inline_stmt, echo_stmt, run_stmt, if_stmt, while_stmt, do_while_stmt, for_stmt, each_stmt, break_stmt, continue_stmt, return_stmt, include_stmt, quit_stmt, PlainStmts, no_stmts, more_stmts, PlainArms, no_arms, more_arms, PlainParam, PlainFunction}
use Rattle.plain_values.specs.Numeric.{is_in_range}
use Rattle.builtin_meaning.specs.declared.builtin.Builtin.{Builtin}
use Rattle.builtin_meaning.specs.Names.{builtin_named}
use Rattle.builtin_meaning.specs.Arity.{arity_of}
use Rattle.script_meaning.specs.Programs.{PlainProgram}
use Rattle.flow_code.specs.Expressions.{number_of}

-- a call of a function of PHP hands in so many arguments
abbrev pub CallFits : List ℕ → ℕ → Type 0
CallFits name n = (b : Builtin) → builtin_named name ≡ Some b → ((arity_of b).0 ≤ n) × (n ≤ (arity_of b).1)

unfoldable mutual
  unfolding number_of

  -- an expression keeps this: its integers are in range, its texts within the limit of a run, and its calls hand in what they have to
  pub ExprFits : PlainExpr → Type 0
  ExprFits null_expr = ⊤
  ExprFits (flag_expr b) = ⊤
  ExprFits (int_expr z) = is_in_range z ≡ true
  ExprFits (text_expr t) = length t ≤ TEXT_LIMIT
  ExprFits (var_expr x) = ⊤
  ExprFits (super_expr name) = ⊤
  ExprFits (member_expr a k) = ExprFits a × ExprFits k
  ExprFits (array_expr items) = ItemsFit items
  ExprFits (join_expr parts) = ExprsFit parts
  ExprFits (neg_expr a) = ExprFits a
  ExprFits (not_expr a) = ExprFits a
  ExprFits (arith_expr sign a b) = ExprFits a × ExprFits b
  ExprFits (compare_expr sign a b) = ExprFits a × ExprFits b
  ExprFits (and_expr a b) = ExprFits a × ExprFits b
  ExprFits (or_expr a b) = ExprFits a × ExprFits b
  ExprFits (coalesce_expr a b) = ExprFits a × ExprFits b
  ExprFits (choice_expr c m b) = ExprFits c × MaybeFits m × ExprFits b
  ExprFits (isset_expr parts) = ExprsFit parts
  ExprFits (empty_expr a) = ExprFits a
  ExprFits (assign_expr x path e) = PathFits path × ExprFits e
  ExprFits (update_expr sign x path e) = PathFits path × ExprFits e
  ExprFits (step_expr x up before) = ⊤
  ExprFits (call_expr name args) = CallFits name (number_of args) × ExprsFit args

  -- an expression that may be left out keeps this
  pub MaybeFits : MaybeExpr → Type 0
  MaybeFits no_expr = ⊤
  MaybeFits (some_expr e) = ExprFits e

  -- each of the expressions keeps this
  pub ExprsFit : PlainExprs → Type 0
  ExprsFit no_exprs = ⊤
  ExprsFit (more_exprs e es) = ExprFits e × ExprsFit es

  -- each item of an array literal keeps this, in its key and in its value
  pub ItemsFit : PlainItems → Type 0
  ItemsFit no_items = ⊤
  ItemsFit (more_items k e is) = MaybeFits k × ExprFits e × ItemsFit is

  -- each key of a target keeps this
  pub PathFits : PlainPath → Type 0
  PathFits no_keys = ⊤
  PathFits (more_keys k ks) = MaybeFits k × PathFits ks

unfoldable mutual
  unfolding ExprFits

  -- each expression in a statement keeps this
  pub StmtFits : PlainStmt → Type 0
  StmtFits (inline_stmt bytes) = ⊤
  StmtFits (echo_stmt es) = ExprsFit es
  StmtFits (run_stmt e) = ExprFits e
  StmtFits (if_stmt arms otherwise) = ArmsFit arms × StmtsFit otherwise
  StmtFits (while_stmt e body) = ExprFits e × StmtsFit body
  StmtFits (do_while_stmt body e) = StmtsFit body × ExprFits e
  StmtFits (for_stmt begin e next body) = ExprsFit begin × MaybeFits e × ExprsFit next × StmtsFit body
  StmtFits (each_stmt e key x body) = ExprFits e × StmtsFit body
  StmtFits break_stmt = ⊤
  StmtFits continue_stmt = ⊤
  StmtFits (return_stmt e) = MaybeFits e
  StmtFits (include_stmt path) = ⊤
  StmtFits (quit_stmt e) = MaybeFits e

  -- each of the statements keeps this
  pub StmtsFit : PlainStmts → Type 0
  StmtsFit no_stmts = ⊤
  StmtsFit (more_stmts s ss) = StmtFits s × StmtsFit ss

  -- each arm of an `if` keeps this, in its condition and in its body
  pub ArmsFit : PlainArms → Type 0
  ArmsFit no_arms = ⊤
  ArmsFit (more_arms e body arms) = ExprFits e × StmtsFit body × ArmsFit arms

-- each default of these parameters keeps this
abbrev pub ParamsFit : List PlainParam → Type 0
ParamsFit [] = ⊤
ParamsFit (p ∷ ps) = MaybeFits p.default_of × ParamsFit ps

-- each function keeps this, in its defaults and in its body
abbrev pub FunctionsFit : List PlainFunction → Type 0
FunctionsFit [] = ⊤
FunctionsFit (f ∷ fs) = ParamsFit f.params_of × StmtsFit f.body_of × FunctionsFit fs

-- the program keeps this, outside functions and in them
pub record ProgramFits (program : PlainProgram) : Type 0 where
  pub main : StmtsFit program.main_of
  pub functions : FunctionsFit program.functions_of

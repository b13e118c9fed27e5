-- The points of statements. Each goes on to the one behind it, but for branches, jumps back to the head of a loop, and jumps out of it.
-- Statements behind one that cannot complete normally have no points.
use Rattle.std.specs.Prelude.{ℕ, ◌+◌, Bool, true, false, List, [], ◌∷◌, ◌++◌, Option, Some, None}
use Rattle.php_syntax.specs.Trees.{MaybeExpr, no_expr, some_expr, PlainExprs, no_exprs, more_exprs, PlainStmt, inline_stmt, echo_stmt, run_stmt, if_stmt, while_stmt, do_while_stmt, for_stmt, each_stmt, break_stmt, continue_stmt, return_stmt, include_stmt, quit_stmt, PlainStmts, no_stmts, more_stmts, PlainArms, no_arms, more_arms}
use Rattle.plain_values.specs.Plain.{null}
use Rattle.flow_code.specs.Points.{PlainPoint, print_point, echo_point, branch_point, jump_point, begin_point, next_point, key_point, value_point, return_point, quit_point}
use Rattle.flow_code.specs.Variables.{Name}
use Rattle.flow_code.specs.Code.{Code, no_code, Block, no_block, ◌before◌, run_code, ending}
use Rattle.flow_code.specs.Expressions.{Scope, variable, literal, code, codes}
use Rattle.flow_code.specs.Completion.{completes, all_complete}

-- `echo`: each value is printed before the next one is evaluated
unfoldable pub echo_block : Scope → PlainExprs → Block
unfolding code
echo_block w no_exprs = no_block
echo_block w (more_exprs e es) = ending (code w e) (λ x to p. echo_point x (p + 1)) before echo_block w es

-- a condition, and two bodies: where it holds the first, which jumps over the second
abbrev pub either : Code ℕ → Block → Block → Block
either test one other = record {
  size = test.size + 1 + one.size + 1 + other.size;
  slots = test.slots + one.slots + other.slots;
  points = λ to p t.
      let first = p + test.size + 1 in
      let second = first + one.size + 1 in
      test.points p t ++ (branch_point (test.gives t) first second ∷ one.points to first (t + test.slots)
      ++ (jump_point (second + other.size) ∷ other.points to second (t + test.slots + one.slots)));
}

-- a condition, and a body that no run leaves at its end; where the condition does not hold the other body
abbrev pub guarding : Code ℕ → Block → Block → Block
guarding test one other = record {
  size = test.size + 1 + one.size + other.size;
  slots = test.slots + one.slots + other.slots;
  points = λ to p t.
      let first = p + test.size + 1 in
      let second = first + one.size in
      test.points p t ++ (branch_point (test.gives t) first second ∷ one.points to first (t + test.slots)
      ++ other.points to second (t + test.slots + one.slots));
}

-- an arm of an `if` and what stands behind it, by whether its body can complete normally
abbrev pub arm : Bool → Code ℕ → Block → Block → Block
arm true test one other = either test one other
arm false test one other = guarding test one other

-- what stands behind a statement in its block, by whether the statement can complete normally: nothing where it cannot
abbrev pub reached : Bool → Block → Block
reached true rest = rest
reached false rest = no_block

-- a condition that may be left out, and then holds; where it does not hold it leads to a point
pub record Test : Type 0 where
  pub size : ℕ
  pub slots : ℕ
  pub points : ℕ → ℕ → ℕ → List PlainPoint

-- a condition: where its value is true the run goes on behind it, and else at the point that is handed in
abbrev pub test_of : Code ℕ → Test
test_of a = record {
  size = a.size + 1;
  slots = a.slots;
  points = λ stop p t. a.points p t ++ branch_point (a.gives t) (p + a.size + 1) stop ∷ [];
}

-- the condition of a `for`: one that is left out has no point, and holds
unfoldable pub test_code : Scope → MaybeExpr → Test
unfolding code
test_code w no_expr = record { size = 0; slots = 0; points = λ stop p t. [] }
test_code w (some_expr e) = test_of (code w e)

-- a test, a body, something behind each turn, and back to the test; `continue` leads to what stands behind the body
abbrev pub looping : Test → Block → Block → Block
looping test body behind = record {
  size = test.size + body.size + behind.size + 1;
  slots = test.slots + body.slots + behind.slots;
  points = λ to p t.
      let again = p + test.size + body.size in
      let stop = again + behind.size + 1 in
      test.points stop p t ++ (body.points (record { stop = stop; again = again }) (p + test.size) (t + test.slots)
      ++ (behind.points to again (t + test.slots + body.slots) ++ (jump_point p ∷ [])));
}

-- a body, a condition, and back to the body where it holds; `continue` leads to the condition
abbrev pub repeating : Block → Code ℕ → Block
repeating body test = record {
  size = body.size + test.size + 1;
  slots = body.slots + test.slots;
  points = λ to p t.
      let again = p + body.size in
      let stop = again + test.size + 1 in
      body.points (record { stop = stop; again = again }) p t ++ (test.points again (t + body.slots)
      ++ (branch_point (test.gives (t + body.slots)) p stop ∷ []));
}

-- the points that set the variables of a turn of `foreach`: the key is set before the value
abbrev pub pair_points : Option ℕ → ℕ → ℕ → ℕ → List PlainPoint
pair_points None x walk p = value_point x walk (p + 1) ∷ []
pair_points (Some key) x walk p = key_point key walk (p + 1) ∷ value_point x walk (p + 2) ∷ []

-- how many points set the variables of a turn: one for the value, and one for the key if there is one
abbrev pub pair_size : Option ℕ → ℕ
pair_size None = 1
pair_size (Some key) = 2

-- `foreach`: the value is copied into a slot, and walked there
abbrev pub walking : Code ℕ → Option ℕ → ℕ → Block → Block
walking a key x body = record {
  size = a.size + 2 + pair_size key + body.size + 1;
  slots = a.slots + 1 + body.slots;
  points = λ to p t.
      let walk = t + a.slots in
      let again = p + a.size + 1 in
      let inside = again + 1 + pair_size key in
      let stop = inside + body.size + 1 in
      a.points p t ++ (begin_point walk (a.gives t) again ∷ next_point walk (again + 1) stop ∷ pair_points key x walk (again + 1)
      ++ (body.points (record { stop = stop; again = again }) inside (walk + 1) ++ (jump_point again ∷ [])));
}

-- `return e;`, and `return;`, which returns null
unfoldable pub return_block : Scope → MaybeExpr → Block
unfolding code
return_block w no_expr = ending (literal null) (λ x to p. return_point x)
return_block w (some_expr e) = ending (code w e) (λ x to p. return_point x)

-- `exit(e);`, which prints its value first where it is a text, and `exit;`
unfoldable pub quit_block : Scope → MaybeExpr → Block
unfolding code
quit_block w no_expr = ending no_code (λ none to p. quit_point None)
quit_block w (some_expr e) = ending (code w e) (λ x to p. quit_point (Some x))

-- the slot of the key's variable of a `foreach`, if it has one
abbrev pub key_variable : Scope → Option Name → Option ℕ
key_variable w None = None
key_variable w (Some x) = Some (variable w x)

unfoldable mutual
  unfolding code echo_block test_code return_block quit_block variable completes

  -- the points of a statement
  pub stmt_block : Scope → PlainStmt → Block
  stmt_block w (inline_stmt bytes) = ending no_code (λ none to p. print_point bytes (p + 1))
  stmt_block w (echo_stmt es) = echo_block w es
  stmt_block w (run_stmt e) = run_code (code w e)
  stmt_block w (if_stmt arms otherwise) = arms_block w arms (block w otherwise)
  stmt_block w (while_stmt e body) = looping (test_of (code w e)) (block w body) no_block
  stmt_block w (do_while_stmt body e) = repeating (block w body) (code w e)
  stmt_block w (for_stmt begin e next body) =
      run_code (codes w begin) before looping (test_code w e) (block w body) (run_code (codes w next))
  stmt_block w (each_stmt e key x body) = walking (code w e) (key_variable w key) (variable w x) (block w body)
  stmt_block w break_stmt = ending no_code (λ none to p. jump_point to.stop)
  stmt_block w continue_stmt = ending no_code (λ none to p. jump_point to.again)
  stmt_block w (return_stmt e) = return_block w e
  -- none stands in a program
  stmt_block w (include_stmt path) = no_block
  stmt_block w (quit_stmt e) = quit_block w e

  -- the points of statements in their order, up to the first that cannot complete normally
  pub block : Scope → PlainStmts → Block
  block w no_stmts = no_block
  block w (more_stmts s ss) = stmt_block w s before reached (completes s) (block w ss)

  -- the arms in turn, and then what stands behind `else`
  pub arms_block : Scope → PlainArms → Block → Block
  arms_block w no_arms otherwise = otherwise
  arms_block w (more_arms e body arms) otherwise = arm (all_complete body) (code w e) (block w body) (arms_block w arms otherwise)

-- Whether a statement can complete normally, as its structure alone tells: whether a run may go on behind it with the next statement of its
-- block. (The term is that of the Java Language Specification, "Unreachable Statements".) The values of conditions are not looked at, and a
-- loop always can.
use Rattle.std.specs.Prelude.{Bool, true, false, ◌&&◌, ◌||◌}
use Rattle.php_syntax.specs.Trees.{PlainStmt, inline_stmt, echo_stmt, run_stmt, if_stmt, while_stmt, do_while_stmt, for_stmt, each_stmt, break_stmt, continue_stmt, return_stmt, include_stmt, quit_stmt, PlainStmts, no_stmts, more_stmts, PlainArms, no_arms, more_arms}

unfoldable mutual
  -- whether a statement can complete normally: not `return`, `exit`, `break` and `continue`, nor an `if` none of whose bodies can, that
  -- behind `else` among them
  pub completes : PlainStmt → Bool
  completes (inline_stmt bytes) = true
  completes (echo_stmt es) = true
  completes (run_stmt e) = true
  completes (if_stmt arms otherwise) = one_completes arms (all_complete otherwise)
  completes (while_stmt e body) = true
  completes (do_while_stmt body e) = true
  completes (for_stmt begin e next body) = true
  completes (each_stmt e key x body) = true
  completes break_stmt = false
  completes continue_stmt = false
  completes (return_stmt e) = false
  completes (include_stmt path) = true
  completes (quit_stmt e) = false

  -- whether a block can: each of its statements can, so that a block without statements can; one that cannot ends its block
  pub all_complete : PlainStmts → Bool
  all_complete no_stmts = true
  all_complete (more_stmts s ss) = completes s && all_complete ss

  -- whether the body of one of the arms can, or what stands behind `else`
  pub one_completes : PlainArms → Bool → Bool
  one_completes no_arms otherwise = otherwise
  one_completes (more_arms e body arms) otherwise = all_complete body || one_completes arms otherwise

unfoldable mutual
  unfolding completes

  -- whether a `break` or `continue` may lead out of a statement: one that stands outside the loops in it, and not behind the end of a block
  pub jumps_out : PlainStmt → Bool
  jumps_out (inline_stmt bytes) = false
  jumps_out (echo_stmt es) = false
  jumps_out (run_stmt e) = false
  jumps_out (if_stmt arms otherwise) = one_jumps_out arms (some_jump_out otherwise)
  jumps_out (while_stmt e body) = false
  jumps_out (do_while_stmt body e) = false
  jumps_out (for_stmt begin e next body) = false
  jumps_out (each_stmt e key x body) = false
  jumps_out break_stmt = true
  jumps_out continue_stmt = true
  jumps_out (return_stmt e) = false
  jumps_out (include_stmt path) = false
  jumps_out (quit_stmt e) = false

  -- .. out of a block
  pub some_jump_out : PlainStmts → Bool
  some_jump_out no_stmts = false
  some_jump_out (more_stmts s ss) = jumps_out s || (completes s && some_jump_out ss)

  -- .. out of the body of one of the arms, or of what stands behind `else`
  pub one_jumps_out : PlainArms → Bool → Bool
  one_jumps_out no_arms otherwise = otherwise
  one_jumps_out (more_arms e body arms) otherwise = some_jump_out body || one_jumps_out arms otherwise

-- whether the end of a function's body can be reached: the body can complete normally, or a `break` or `continue` outside loops leads there
unfoldable pub reaches_end : PlainStmts → Bool
unfolding completes jumps_out
reaches_end body = all_complete body || some_jump_out body

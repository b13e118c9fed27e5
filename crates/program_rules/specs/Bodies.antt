-- Statements whose includes are replaced by other statements.
use Rattle.std.specs.Prelude.{ℕ, List, map}
use Rattle.php_syntax.specs.Trees.{PlainStmt, inline_stmt, echo_stmt, run_stmt, if_stmt, while_stmt, do_while_stmt, for_stmt, each_stmt, break_stmt, continue_stmt, return_stmt, include_stmt, quit_stmt, PlainStmts, no_stmts, more_stmts, PlainArms, no_arms, more_arms, PlainFunction, PlainFile}

-- statements and further ones
unfoldable pub followed_by : PlainStmts → PlainStmts → PlainStmts
followed_by no_stmts rest = rest
followed_by (more_stmts s ss) rest = more_stmts s (followed_by ss rest)

unfoldable mutual
  unfolding followed_by

  -- statements with each include replaced by the statements that its path stands for
  pub with_bodies : (List ℕ → PlainStmts) → PlainStmts → PlainStmts
  with_bodies bodies no_stmts = no_stmts
  with_bodies bodies (more_stmts s ss) = followed_by (with_bodies_in bodies s) (with_bodies bodies ss)

  -- what stands for one statement: for an include the statements of its path, and for any other itself, with its bodies so changed
  pub with_bodies_in : (List ℕ → PlainStmts) → PlainStmt → PlainStmts
  with_bodies_in bodies (inline_stmt bytes) = more_stmts (inline_stmt bytes) no_stmts
  with_bodies_in bodies (echo_stmt es) = more_stmts (echo_stmt es) no_stmts
  with_bodies_in bodies (run_stmt e) = more_stmts (run_stmt e) no_stmts
  with_bodies_in bodies (if_stmt arms otherwise) =
      more_stmts (if_stmt (with_bodies_in_arms bodies arms) (with_bodies bodies otherwise)) no_stmts
  with_bodies_in bodies (while_stmt e body) = more_stmts (while_stmt e (with_bodies bodies body)) no_stmts
  with_bodies_in bodies (do_while_stmt body e) = more_stmts (do_while_stmt (with_bodies bodies body) e) no_stmts
  with_bodies_in bodies (for_stmt begin e next body) = more_stmts (for_stmt begin e next (with_bodies bodies body)) no_stmts
  with_bodies_in bodies (each_stmt e key x body) = more_stmts (each_stmt e key x (with_bodies bodies body)) no_stmts
  with_bodies_in bodies break_stmt = more_stmts break_stmt no_stmts
  with_bodies_in bodies continue_stmt = more_stmts continue_stmt no_stmts
  with_bodies_in bodies (return_stmt e) = more_stmts (return_stmt e) no_stmts
  with_bodies_in bodies (include_stmt path) = bodies path
  with_bodies_in bodies (quit_stmt e) = more_stmts (quit_stmt e) no_stmts

  -- the arms of an `if`, with their bodies so changed
  pub with_bodies_in_arms : (List ℕ → PlainStmts) → PlainArms → PlainArms
  with_bodies_in_arms bodies no_arms = no_arms
  with_bodies_in_arms bodies (more_arms e body arms) = more_arms e (with_bodies bodies body) (with_bodies_in_arms bodies arms)

-- a function, with the includes of its body replaced
abbrev pub with_body : (List ℕ → PlainStmts) → PlainFunction → PlainFunction
with_body bodies f = record { name_of = f.name_of; params_of = f.params_of; body_of = with_bodies bodies f.body_of }

-- a file, with the includes of its statements and of its functions replaced
unfoldable pub file_with_bodies : (List ℕ → PlainStmts) → PlainFile → PlainFile
unfolding with_bodies
file_with_bodies bodies tree = record { body_of = with_bodies bodies tree.body_of; functions_of = map (with_body bodies) tree.functions_of }

-- an include of this path, as statements
abbrev pub include_of : List ℕ → PlainStmts
include_of path = more_stmts (include_stmt path) no_stmts

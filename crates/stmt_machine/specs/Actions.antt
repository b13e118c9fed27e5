-- What a reader of statements does, in postfix order: the parts of a statement first, then the statement.
use Rattle.std.specs.Prelude.{ℕ, Bool, List}
use Rattle.php_syntax.specs.Trees.{MaybeExpr}
use Rattle.expr_machine.specs.Actions.{Action}
use Rattle.stmt_machine.specs.declared.frame.Loop.{Loop}

-- one thing done to what was made so far
pub data StmtAction : Type 0 where
  -- an expression is made by these actions
  value_action : List Action → StmtAction
  -- a body begins: of a loop, or of an `if`
  open_action : Bool → StmtAction
  inline_action : List ℕ → StmtAction
  -- of so many expressions
  echo_action : ℕ → StmtAction
  run_action : StmtAction
  -- so many arms, and whether an `else` follows them
  if_action : ℕ → Bool → StmtAction
  loop_action : Loop → StmtAction
  do_action : StmtAction
  break_action : StmtAction
  continue_action : StmtAction
  -- with a value or not
  return_action : Bool → StmtAction
  include_action : List ℕ → StmtAction
  -- with an argument or not
  exit_action : Bool → StmtAction
  -- a function begins: its name; a parameter and its default; its body; its end
  function_action : List ℕ → StmtAction
  parameter_action : List ℕ → MaybeExpr → StmtAction
  function_body_action : StmtAction
  function_end_action : StmtAction

-- Height and number of nodes of worked examples.
use Rattle.std.proofs.Common.{◌≡◌, List, [], ◌∷◌, refl}
use Rattle.std.specs.Prelude.{pos, codes}
use Rattle.php_syntax.specs.Trees.{int_expr, text_expr, var_expr, array_expr, neg_expr, assign_expr, no_expr, some_expr, no_exprs, more_exprs, no_items, more_items, no_keys, more_keys, PlainStmt, echo_stmt, if_stmt, run_stmt, break_stmt, quit_stmt, no_stmts, more_stmts, no_arms, more_arms, PlainFile}
use Rattle.php_syntax.specs.Height.{height, nodes, stmt_height, stmt_nodes, file_height, file_nodes}

-- a leaf has height 1
height_of_negated : height (neg_expr (int_expr (pos 1))) ≡ 2
unfolding height
height_of_negated = refl

-- `['a' => 1, 2]`: the array and its three values; the items are no nodes
height_of_array : height (array_expr (more_items (some_expr (text_expr (codes "a"))) (int_expr (pos 1)) (more_items no_expr (int_expr (pos 2)) no_items))) ≡ 2
unfolding height
height_of_array = refl

nodes_of_array : nodes (array_expr (more_items (some_expr (text_expr (codes "a"))) (int_expr (pos 1)) (more_items no_expr (int_expr (pos 2)) no_items))) ≡ 4
unfolding nodes
nodes_of_array = refl

-- `$a[1] = 2`: the assignment, its target, the key and the value
height_of_assignment : height (assign_expr (codes "a") (more_keys (some_expr (int_expr (pos 1))) no_keys) (int_expr (pos 2))) ≡ 3
unfolding height
height_of_assignment = refl

nodes_of_assignment : nodes (assign_expr (codes "a") (more_keys (some_expr (int_expr (pos 1))) no_keys) (int_expr (pos 2))) ≡ 4
unfolding nodes
nodes_of_assignment = refl

-- `if ($a) break; else $b;`: the `if`, its condition, `break`, and the statement that runs `$b` with its expression; the arm is no node
abbrev branch : PlainStmt
branch = if_stmt (more_arms (var_expr (codes "a")) (more_stmts break_stmt no_stmts) no_arms) (more_stmts (run_stmt (var_expr (codes "b"))) no_stmts)

height_of_branch : stmt_height branch ≡ 3
unfolding height stmt_height
height_of_branch = refl

nodes_of_branch : stmt_nodes branch ≡ 5
unfolding nodes stmt_nodes
nodes_of_branch = refl

-- `die('a');` and `exit;`
height_of_die : stmt_height (quit_stmt (some_expr (text_expr (codes "a")))) ≡ 2
unfolding height stmt_height
height_of_die = refl

nodes_of_die : stmt_nodes (quit_stmt (some_expr (text_expr (codes "a")))) ≡ 2
unfolding nodes stmt_nodes
nodes_of_die = refl

height_of_exit : stmt_height (quit_stmt no_expr) ≡ 1
unfolding height stmt_height
height_of_exit = refl

-- `echo 'a';` as a file, and a function without parameters and without statements
abbrev small : PlainFile
small = record { body_of = more_stmts (echo_stmt (more_exprs (text_expr (codes "a")) no_exprs)) no_stmts; functions_of = record { name_of = codes "f"; params_of = []; body_of = no_stmts } ∷ [] }

height_of_file : file_height small ≡ 3
unfolding height stmt_height
height_of_file = refl

nodes_of_file : file_nodes small ≡ 4
unfolding nodes stmt_nodes
nodes_of_file = refl

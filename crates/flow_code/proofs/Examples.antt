-- The points of small programs, and runs of them.
use Rattle.std.proofs.Common.{◌≡◌, pos, true, false, List, [], ◌∷◌, None, Some, refl}
use Rattle.std.specs.Prelude.{codes}
use Rattle.php_syntax.specs.declared.tree.SuperName.TheVariants.{Get}
use Rattle.php_syntax.specs.declared.tree.UpdateSign.TheVariants.{Coalesce}
use Rattle.php_syntax.specs.Trees.{PlainExpr, int_expr, text_expr, var_expr, super_expr, member_expr, array_expr, join_expr, isset_expr, assign_expr, update_expr, step_expr, call_expr, no_expr, some_expr, PlainExprs, no_exprs, more_exprs, no_items, more_items, no_keys, more_keys, PlainStmt, echo_stmt, run_stmt, if_stmt, while_stmt, for_stmt, each_stmt, break_stmt, continue_stmt, quit_stmt, return_stmt, PlainStmts, no_stmts, more_stmts, no_arms, more_arms, PlainFunction}
use Rattle.plain_values.specs.Plain.{null, text, int}
use Rattle.script_meaning.specs.Programs.{PlainProgram}
use Rattle.flow_code.specs.declared.source.Work.TheVariants as work
use Rattle.flow_code.specs.Points.{PlainPoint, set_point, call_point, echo_point, branch_point, jump_point, begin_point, next_point, key_point, value_point, return_point, quit_point, literal_source, copy_source, super_source, member_source, array_source, put_source, concat_source, number_source, truth_source, text_ref, points_in}
use Rattle.flow_code.specs.Expressions.{code}
use Rattle.flow_code.specs.Completion.{completes, all_complete, jumps_out, reaches_end}
use Rattle.flow_code.specs.Statements.{block}
use Rattle.flow_code.specs.Flat.{flat}
use Rattle.program_expressions.specs.Collected.{collected, collected_of}
use Rattle.flow_code.specs.Variables.{own_names}

abbrev script : List PlainFunction → PlainStmts → PlainProgram
script functions body = record { main_of = body; functions_of = functions }

abbrev one : PlainExpr → PlainExprs
one e = more_exprs e no_exprs

abbrev ◌then◌ : PlainStmt → PlainStmts → PlainStmts
a then b = more_stmts a b

infixr 5 ◌then◌
abbrev points_are : PlainProgram → List PlainPoint → Type 0
points_are program points = points_in (flat program).functions_of ≡ points

-- `echo 'a';`
echoed : points_are (script [] (echo_stmt (one (text_expr (codes "a"))) then no_stmts))
    (set_point 0 (literal_source (text (codes "a"))) 1 ∷ echo_point 0 2 ∷ set_point 1 (literal_source null) 3 ∷ return_point 1 ∷ [])
unfolding flat code block collected collected_of own_names points_in
echoed = refl

-- `while (isset($_GET['a'])) {}`
waited : points_are (script [] (while_stmt (isset_expr (one (member_expr (super_expr Get) (text_expr (codes "a"))))) no_stmts then no_stmts))
    (set_point 0 (super_source Get) 1 ∷ set_point 1 (member_source 0 (text_ref (codes "a"))) 2 ∷ set_point 2 (truth_source work.Isset (1 ∷ [])) 3
    ∷ branch_point 2 4 5 ∷ jump_point 0 ∷ set_point 3 (literal_source null) 6 ∷ return_point 3 ∷ [])
unfolding flat code block collected collected_of own_names points_in
waited = refl

-- `for (;;) { break; }` has no branch
broken : points_are (script [] (for_stmt no_exprs no_expr no_exprs (break_stmt then no_stmts) then no_stmts))
    (jump_point 2 ∷ jump_point 0 ∷ set_point 0 (literal_source null) 3 ∷ return_point 0 ∷ [])
unfolding flat code block collected collected_of own_names points_in
broken = refl

-- `$x['k'][] = $y;`: the variables have the first slots, and the value of the assignment is that of `$y`
stored : points_are (script [] (run_stmt (assign_expr (codes "x") (more_keys (some_expr (text_expr (codes "k"))) (more_keys no_expr no_keys)) (var_expr (codes "y"))) then no_stmts))
    (set_point 2 (copy_source 1) 1 ∷ set_point 0 (put_source 0 (Some (text_ref (codes "k")) ∷ None ∷ []) 2) 2 ∷ set_point 3 (literal_source null) 3 ∷ return_point 3 ∷ [])
unfolding flat code block collected collected_of own_names points_in
stored = refl

-- `$x ??= 1;` writes on the right's side alone
filled : points_are (script [] (run_stmt (update_expr Coalesce (codes "x") no_keys (int_expr (pos 1))) then no_stmts))
    (set_point 1 (copy_source 0) 1 ∷ set_point 2 (truth_source work.NotNull (1 ∷ [])) 2 ∷ branch_point 2 3 4 ∷ set_point 4 (copy_source 1) 7
    ∷ set_point 3 (literal_source (int (pos 1))) 5 ∷ set_point 4 (copy_source 3) 6 ∷ set_point 0 (copy_source 4) 7 ∷ set_point 5 (literal_source null) 8 ∷ return_point 5 ∷ [])
unfolding flat code block collected collected_of own_names points_in
filled = refl

-- `$x++;`: the old value is copied first
stepped : points_are (script [] (run_stmt (step_expr (codes "x") true false) then no_stmts))
    (set_point 1 (copy_source 0) 1 ∷ set_point 0 (number_source work.Up (0 ∷ [])) 2 ∷ set_point 2 (literal_source null) 3 ∷ return_point 2 ∷ [])
unfolding flat code block collected collected_of own_names points_in
stepped = refl

-- `foreach ($_GET as $k => $v) { echo $v; }`: the key is set before the value
walked : points_are (script [] (each_stmt (super_expr Get) (Some (codes "k")) (codes "v") (echo_stmt (one (var_expr (codes "v"))) then no_stmts) then no_stmts))
    (set_point 2 (super_source Get) 1 ∷ begin_point 3 2 2 ∷ next_point 3 3 8 ∷ key_point 0 3 4 ∷ value_point 1 3 5 ∷ set_point 4 (copy_source 1) 6 ∷ echo_point 4 7 ∷ jump_point 2
    ∷ set_point 5 (literal_source null) 9 ∷ return_point 5 ∷ [])
unfolding flat code block collected collected_of own_names points_in
walked = refl

-- `function f($a, $b = 1) { return $b; } f('t'); exit;`: a call has one value for each parameter, and the defaults stand at the caller
called : points_are (script (record {
  name_of = codes "f";
  params_of = record { name_of = codes "a"; default_of = no_expr } ∷ record { name_of = codes "b"; default_of = some_expr (int_expr (pos 1)) } ∷ [];
  body_of = return_stmt (some_expr (var_expr (codes "b"))) then no_stmts;
} ∷ [])
    (run_stmt (call_expr (codes "f") (one (text_expr (codes "t")))) then quit_stmt no_expr then no_stmts))
    (set_point 0 (literal_source (text (codes "t"))) 1 ∷ set_point 1 (literal_source (int (pos 1))) 2 ∷ call_point 2 1 (0 ∷ 1 ∷ []) 3 ∷ quit_point None
    ∷ set_point 5 (copy_source 4) 5 ∷ return_point 5 ∷ [])
unfolding flat code block collected collected_of own_names points_in
called = refl

-- `['k' => $x, $y];`: each item is put into the array so far before the next one, and then all are taken at once
listed : points_are (script [] (run_stmt (array_expr (more_items (some_expr (text_expr (codes "k"))) (var_expr (codes "x")) (more_items no_expr (var_expr (codes "y")) no_items))) then no_stmts))
    (set_point 2 (array_source []) 1 ∷ set_point 3 (copy_source 0) 2 ∷ set_point 4 (put_source 2 (Some (text_ref (codes "k")) ∷ []) 3) 3 ∷ set_point 5 (copy_source 1) 4 ∷ set_point 6 (put_source 4 (None ∷ []) 5) 5
    ∷ set_point 7 (array_source ((Some (text_ref (codes "k")), 3) ∷ (None, 5) ∷ [])) 6 ∷ set_point 8 (literal_source null) 7 ∷ return_point 8 ∷ [])
unfolding flat code block collected collected_of own_names points_in
listed = refl

-- `"$x";`: a part alone is joined with the empty text
joined : points_are (script [] (run_stmt (join_expr (one (var_expr (codes "x")))) then no_stmts))
    (set_point 1 (copy_source 0) 1 ∷ set_point 2 (literal_source (text [])) 2 ∷ set_point 3 (concat_source (1 ∷ 2 ∷ [])) 3 ∷ set_point 4 (literal_source null) 4 ∷ return_point 4 ∷ [])
unfolding flat code block collected collected_of own_names points_in
joined = refl

-- Ends of blocks. `if ($x) BODY else OTHER`, and `return $x;`
abbrev chosen_by : PlainStmts → PlainStmts → PlainStmt
chosen_by body other = if_stmt (more_arms (var_expr (codes "x")) body no_arms) other

abbrev giving : PlainStmt
giving = return_stmt (some_expr (var_expr (codes "x")))

-- `return $x;`
returns_there : reaches_end (giving then no_stmts) ≡ false
unfolding reaches_end
returns_there = refl

-- `if ($x) { return $x; } else { exit; }`
both_end : reaches_end (chosen_by (giving then no_stmts) (quit_stmt no_expr then no_stmts) then no_stmts) ≡ false
unfolding reaches_end
both_end = refl

-- near: `if ($x) { return $x; }`, without `else`
one_ends : reaches_end (chosen_by (giving then no_stmts) no_stmts then no_stmts) ≡ true
unfolding reaches_end
one_ends = refl

-- near: `while ($x) { return $x; }`, and a loop without a condition likewise
loop_never_ends : reaches_end (while_stmt (var_expr (codes "x")) (giving then no_stmts) then no_stmts) ≡ true
unfolding reaches_end
loop_never_ends = refl

-- `break;` ends its block, and leads to the end of a body without a loop
break_ends : all_complete (break_stmt then giving then no_stmts) ≡ false
unfolding completes
break_ends = refl

break_leads_there : reaches_end (break_stmt then giving then no_stmts) ≡ true
unfolding reaches_end
break_leads_there = refl

-- `if ($x) { break; } return $x;`
break_leads_past : reaches_end (chosen_by (break_stmt then no_stmts) no_stmts then giving then no_stmts) ≡ true
unfolding reaches_end
break_leads_past = refl

-- `while ($x) { continue; } return $x;`: it leads to the head of its loop
continue_stays : reaches_end (while_stmt (var_expr (codes "x")) (continue_stmt then no_stmts) then giving then no_stmts) ≡ false
unfolding reaches_end
continue_stays = refl

-- `return $x; break;`: what stands behind the end of a block leads nowhere
behind_the_end : reaches_end (giving then break_stmt then no_stmts) ≡ false
unfolding reaches_end
behind_the_end = refl

-- `exit; echo 'a';` has one point
ended : points_are (script [] (quit_stmt no_expr then echo_stmt (one (text_expr (codes "a"))) then no_stmts)) (quit_point None ∷ [])
unfolding flat code block collected collected_of own_names points_in
ended = refl

-- `if ($x) { exit; } else { exit; }`: no jump leads behind it, and null is not returned
ended_either_way : points_are (script [] (chosen_by (quit_stmt no_expr then no_stmts) (quit_stmt no_expr then no_stmts) then no_stmts))
    (set_point 1 (copy_source 0) 1 ∷ branch_point 1 2 3 ∷ quit_point None ∷ quit_point None ∷ [])
unfolding flat code block collected collected_of own_names points_in
ended_either_way = refl

-- `if ($x) { exit; }`: where `$x` is not true the end is reached
ended_one_way : points_are (script [] (chosen_by (quit_stmt no_expr then no_stmts) no_stmts then no_stmts))
    (set_point 1 (copy_source 0) 1 ∷ branch_point 1 2 3 ∷ quit_point None ∷ set_point 2 (literal_source null) 4 ∷ return_point 2 ∷ [])
unfolding flat code block collected collected_of own_names points_in
ended_one_way = refl

-- `for (;;) { break; echo 'a'; }`: what stands behind `break` has no points, and the jump back stays
broken_early : points_are (script [] (for_stmt no_exprs no_expr no_exprs (break_stmt then echo_stmt (one (text_expr (codes "a"))) then no_stmts) then no_stmts))
    (jump_point 2 ∷ jump_point 0 ∷ set_point 0 (literal_source null) 3 ∷ return_point 0 ∷ [])
unfolding flat code block collected collected_of own_names points_in
broken_early = refl

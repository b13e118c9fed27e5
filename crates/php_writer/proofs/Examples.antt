-- The definitions on worked examples, and on near misses.
use Rattle.std.proofs.Common.{◌≡◌, true, false, [], refl}
use Rattle.std.specs.Prelude.{pos, negsuc, codes}
use Rattle.php_syntax.specs.declared.tree.ArithSign.TheVariants as arith
use Rattle.php_syntax.specs.declared.tree.SuperName.TheVariants as request
use Rattle.lexical_grammar.specs.Cuts.{opener_step}
use Rattle.php_syntax.specs.Trees.{PlainExpr, int_expr, text_expr, var_expr, super_expr, member_expr, join_expr, arith_expr, coalesce_expr, choice_expr, isset_expr, call_expr, no_expr, no_exprs, more_exprs, inline_stmt, echo_stmt, if_stmt, no_stmts, more_stmts, no_arms, more_arms, PlainFile, some_expr, quit_stmt}
use Rattle.spellable.specs.Marks.{all_written, file_written, keys_spelling}
use Rattle.spellable.specs.Spellable.{is_name, is_call_name, is_own_name, is_inline, expr_spellable, stmt_spellable}
use Rattle.php_writer.specs.Written.{read_name, read_keys, part_key, expr_marks, stmt_marks, file_marks}

-- names
a_name : is_name (codes "_a1") ≡ true
a_name = refl

a_digit_first : is_name (codes "1a") ≡ false
a_digit_first = refl

a_call_name : is_call_name (codes "strlen") ≡ true
a_call_name = refl

a_call_in_upper_case : is_call_name (codes "StrLen") ≡ false
a_call_in_upper_case = refl

a_keyword : is_call_name (codes "echo") ≡ false
a_keyword = refl

a_request : is_own_name (codes "_GET") ≡ false
a_request = refl

-- bytes outside PHP: `<?phpx` and `<?ph` are no openers, and `<?PHP` and a line end is one
no_opener : is_inline (codes "a <?phpx <?ph") ≡ true
unfolding opener_step
no_opener = refl

an_opener : is_inline (codes "a <?PHP\nb") ≡ false
unfolding opener_step
an_opener = refl

-- `<?php` at the end of what stands outside, where no blank follows it
an_opener_with_no_blank : is_inline (codes "a<?php") ≡ true
unfolding opener_step
an_opener_with_no_blank = refl

nothing_outside : is_inline [] ≡ false
nothing_outside = refl

-- integers: those from 0 on, and the least
a_negative_integer : expr_spellable (int_expr (negsuc 0)) ≡ false
unfolding expr_spellable
a_negative_integer = refl

the_least_integer : expr_spellable (int_expr (negsuc 9223372036854775807)) ≡ true
unfolding expr_spellable
the_least_integer = refl

-- a join of one part is a template, which reads something
a_template : expr_spellable (join_expr (more_exprs (member_expr (var_expr (codes "a")) (text_expr (codes "k"))) no_exprs)) ≡ true
unfolding expr_spellable
a_template = refl

a_template_of_a_text : expr_spellable (join_expr (more_exprs (text_expr (codes "a")) no_exprs)) ≡ false
unfolding expr_spellable
a_template_of_a_text = refl

no_operand : expr_spellable (isset_expr no_exprs) ≡ false
unfolding expr_spellable
no_operand = refl

no_arm : stmt_spellable (if_stmt no_arms no_stmts) ≡ false
unfolding stmt_spellable
no_arm = refl

-- brackets stand just where they are needed
abbrev a : PlainExpr
a = var_expr (codes "a")

abbrev b : PlainExpr
b = var_expr (codes "b")

abbrev c : PlainExpr
c = var_expr (codes "c")

sum_in_a_product : all_written (expr_marks (arith_expr arith.Mul (arith_expr arith.Add a b) c) []) ≡ codes "( $a + $b ) * $c "
unfolding all_written expr_marks
sum_in_a_product = refl

left_leaning : all_written (expr_marks (arith_expr arith.Sub (arith_expr arith.Sub a b) c) []) ≡ codes "$a - $b - $c "
unfolding all_written expr_marks
left_leaning = refl

right_leaning : all_written (expr_marks (arith_expr arith.Sub a (arith_expr arith.Sub b c)) []) ≡ codes "$a - ( $b - $c ) "
unfolding all_written expr_marks
right_leaning = refl

coalesces : all_written (expr_marks (coalesce_expr a (coalesce_expr b c)) []) ≡ codes "$a ?? $b ?? $c "
unfolding all_written expr_marks
coalesces = refl

choices : all_written (expr_marks (choice_expr a no_expr (choice_expr b no_expr c)) []) ≡ codes "$a ? : ( $b ? : $c ) "
unfolding all_written expr_marks
choices = refl

a_member_of_a_join : all_written (expr_marks (member_expr (join_expr (more_exprs a (more_exprs b no_exprs))) c) []) ≡ codes "( $a . $b ) [ $c ] "
unfolding all_written expr_marks
a_member_of_a_join = refl

a_call : all_written (expr_marks (call_expr (codes "f") (more_exprs a (more_exprs (text_expr (codes "it's")) no_exprs))) []) ≡ codes "f ( $a , 'it\\'s' ) "
unfolding all_written expr_marks
a_call = refl

a_written_template : all_written (expr_marks (join_expr (more_exprs (member_expr (member_expr (super_expr request.Get) (text_expr (codes "k"))) b) no_exprs)) []) ≡ codes "\"{$_GET['k'][$b]}\" "
unfolding all_written expr_marks read_name read_keys part_key keys_spelling
a_written_template = refl

-- `exit` with what it prints and without; no file spells one that prints a status
quits : all_written (stmt_marks (quit_stmt (some_expr a)) (stmt_marks (quit_stmt no_expr) [])) ≡ codes "exit ( $a ) ; exit ; "
unfolding all_written expr_marks stmt_marks
quits = refl

a_status_printed : stmt_spellable (quit_stmt (some_expr (int_expr (pos 3)))) ≡ false
unfolding stmt_spellable expr_spellable
a_status_printed = refl

a_text_printed : stmt_spellable (quit_stmt (some_expr (text_expr (codes "3")))) ≡ true
unfolding stmt_spellable expr_spellable
a_text_printed = refl

-- a file: statements, and bytes outside PHP with a line end first
abbrev page : PlainFile
page = record {
  body_of = more_stmts (if_stmt (more_arms a (more_stmts (echo_stmt (more_exprs b no_exprs)) no_stmts) no_arms) no_stmts) (more_stmts (inline_stmt (codes "\n<p>")) no_stmts);
  functions_of = [];
}

a_written_page : file_written (file_marks page) ≡ codes "<?php if ( $a ) { echo $b ; } ?>\n\n<p><?php "
unfolding all_written expr_marks stmt_marks
a_written_page = refl

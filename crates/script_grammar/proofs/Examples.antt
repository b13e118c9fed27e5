-- The definitions on worked examples, and on near misses.
use Rattle.std.proofs.Common.{◌≡◌, ℕ, true, false, List, [], ◌∷◌, refl, Some}
use Rattle.std.specs.Prelude.{pos, codes}
use Rattle.php_syntax.specs.declared.token.Sign.TheVariants as sign
use Rattle.script_grammar.specs.declared.keyword.Keyword.TheVariants as word
use Rattle.script_grammar.specs.declared.operator.Level.TheVariants as level
use Rattle.script_grammar.specs.declared.operator.Operator.TheVariants as operator
use Rattle.script_grammar.specs.declared.operator.Prefix.TheVariants as prefix
use Rattle.php_syntax.specs.declared.tree.ArithSign.TheVariants as arith
use Rattle.php_syntax.specs.declared.tree.CompareSign.TheVariants as compare
use Rattle.php_syntax.specs.declared.tree.UpdateSign.TheVariants as update
use Rattle.php_syntax.specs.declared.tree.SuperName.TheVariants as request
use Rattle.php_syntax.specs.Tokens.{PlainToken, name, text, sign}
use Rattle.php_syntax.specs.Trees.{int_expr, text_expr, var_expr, member_expr, join_expr, neg_expr, arith_expr, compare_expr, coalesce_expr, isset_expr, assign_expr, update_expr, call_expr, no_expr, some_expr, no_exprs, more_exprs, no_keys, more_keys, echo_stmt, while_stmt, super_expr, break_stmt, return_stmt, quit_stmt, PlainStmts, no_stmts, more_stmts, PlainFile}
use Rattle.script_grammar.specs.Terminals.{keyword_of, terminal_of, word_terminal, name_terminal, int_terminal, text_terminal, sign_terminal}
use Rattle.script_grammar.specs.Expressions.{ExprForm, choice_form, only_choice, only_nul, coalesce_form, ChainForm, chain_form, no_more, once_more, one_more, OperandForm, tighter_form, tightest_form, prefix_form, post_form, PostForm, base_form, int_form, text_form, variable_base, escape_base, quotes_and_charset, no_subscript, no_more_exprs, variable_tree, expr_terminals, expr_tree, chain_terminals, chain_tree, nul_tree, post_tree}
use Rattle.script_grammar.specs.Statements.{something_form, printed, exit_form, exit_parens_form, echo_form, if_form, while_form, stmt_body, semicolon_form, colon_if_form, no_stmts_form, more_stmts_form, no_colon_arms, colon_else, no_arms_form, no_else_form, else_form, nearest, takes_else, stmt_terminals, stmt_trees, stmt_part, end_of_file}
use Rattle.script_grammar.specs.Rules.{expr_fits, stmt_fits, is_writable}
use Rattle.script_grammar.specs.Grammar.{SpellsTree, most_open}

-- one operand through the levels, from the tightest to each
abbrev product : PostForm → ChainForm level.Product
product p = chain_form (tightest_form refl (post_form p)) no_more

abbrev sum : ChainForm level.Product → ChainForm level.Sum
sum c = chain_form (tighter_form refl c) no_more

abbrev join : ChainForm level.Sum → ChainForm level.Join
join c = chain_form (tighter_form refl c) no_more

abbrev order : ChainForm level.Join → ChainForm level.Order
order c = chain_form (tighter_form refl c) no_more

abbrev whole : ChainForm level.Order → ChainForm level.Or
whole c = chain_form (tighter_form refl (chain_form (tighter_form refl (chain_form (tighter_form refl c) no_more)) no_more)) no_more

abbrev expression : PostForm → ExprForm
expression p = choice_form (only_choice (only_nul (whole (order (join (sum (product p)))))))

abbrev int_operand : ℕ → OperandForm level.Sum
int_operand n = tighter_form refl (product (int_form (pos n)))

abbrev text_operand : List ℕ → OperandForm level.Join
text_operand t = tighter_form refl (sum (product (text_form t)))

-- `1 - 2 - 3` leans left
abbrev minus : ChainForm level.Sum
minus = chain_form (int_operand 1) (one_more sign.Minus (operator.Arith arith.Sub) refl refl (int_operand 2) (one_more sign.Minus (operator.Arith arith.Sub) refl refl (int_operand 3) no_more))

minus-terminals : chain_terminals minus [] ≡ int_terminal (pos 1) ∷ sign_terminal sign.Minus ∷ int_terminal (pos 2) ∷ sign_terminal sign.Minus ∷ int_terminal (pos 3) ∷ []
unfolding expr_terminals
minus-terminals = refl

minus-tree : chain_tree minus ≡ arith_expr arith.Sub (arith_expr arith.Sub (int_expr (pos 1)) (int_expr (pos 2))) (int_expr (pos 3))
unfolding expr_tree
minus-tree = refl

-- `'a' . 'b' . 'c'` is flat
abbrev dots : ChainForm level.Join
dots = chain_form (text_operand (codes "a")) (one_more sign.Dot operator.Join refl refl (text_operand (codes "b")) (one_more sign.Dot operator.Join refl refl (text_operand (codes "c")) no_more))

dots-tree : chain_tree dots ≡ join_expr (more_exprs (text_expr (codes "a")) (more_exprs (text_expr (codes "b")) (more_exprs (text_expr (codes "c")) no_exprs)))
unfolding expr_tree
dots-tree = refl

-- `'a' . 1 - 2` joins a difference, since `-` binds tighter than `.`
abbrev dot_minus : ChainForm level.Join
dot_minus = chain_form (text_operand (codes "a")) (one_more sign.Dot operator.Join refl refl (tighter_form refl (chain_form (int_operand 1) (one_more sign.Minus (operator.Arith arith.Sub) refl refl (int_operand 2) no_more))) no_more)

dot_minus-terminals : chain_terminals dot_minus [] ≡ text_terminal (codes "a") ∷ sign_terminal sign.Dot ∷ int_terminal (pos 1) ∷ sign_terminal sign.Minus ∷ int_terminal (pos 2) ∷ []
unfolding expr_terminals
dot_minus-terminals = refl

dot_minus-tree : chain_tree dot_minus ≡ join_expr (more_exprs (text_expr (codes "a")) (more_exprs (arith_expr arith.Sub (int_expr (pos 1)) (int_expr (pos 2))) no_exprs))
unfolding expr_tree
dot_minus-tree = refl

-- `$a ?? $b ?? $c` leans right
abbrev variable_chain : List ℕ → ChainForm level.Or
variable_chain x = whole (order (join (sum (product (base_form (variable_base x) no_subscript)))))

coalesce-tree : nul_tree (coalesce_form (variable_chain (codes "a")) (coalesce_form (variable_chain (codes "b")) (only_nul (variable_chain (codes "c"))))) ≡ coalesce_expr (var_expr (codes "a")) (coalesce_expr (var_expr (codes "b")) (var_expr (codes "c")))
unfolding expr_tree
coalesce-tree = refl

-- `1 <> 2` is `!=`, and a second comparison in a row is no derivation: the level does not repeat
abbrev unlike : ChainForm level.Equality
unlike = chain_form (tighter_form refl (order (join (sum (product (int_form (pos 1))))))) (once_more sign.LessGreater (operator.Compare compare.NotEqual) refl refl (tighter_form refl (order (join (sum (product (int_form (pos 2))))))))

unlike-tree : chain_tree unlike ≡ compare_expr compare.NotEqual (int_expr (pos 1)) (int_expr (pos 2))
unfolding expr_tree
unlike-tree = refl

-- `-1` is the negated integer 1, and `(string) 1` a call of `strval`
abbrev negated : ChainForm level.Product
negated = chain_form (tightest_form refl (prefix_form sign.Minus prefix.Neg refl (post_form (int_form (pos 1))))) no_more

negated-tree : chain_tree negated ≡ neg_expr (int_expr (pos 1))
unfolding expr_tree
negated-tree = refl

abbrev cast : ChainForm level.Product
cast = chain_form (tightest_form refl (prefix_form sign.CastString prefix.CastString refl (post_form (int_form (pos 1))))) no_more

cast-tree : chain_tree cast ≡ call_expr (codes "strval") (more_exprs (int_expr (pos 1)) no_exprs)
unfolding expr_tree
cast-tree = refl

-- `HtmlSpecialChars($a, ENT_QUOTES, 'utf-8')` is the call of one argument, by its name in lower case
abbrev escaped : PostForm
escaped = base_form (escape_base (codes "HtmlSpecialChars") refl (expression (base_form (variable_base (codes "a")) no_subscript)) (quotes_and_charset (codes "utf-8") refl)) no_subscript

escaped-tree : post_tree escaped ≡ call_expr (codes "htmlspecialchars") (more_exprs (var_expr (codes "a")) no_exprs)
unfolding expr_tree
escaped-tree = refl

-- keywords have no case, but for the three constants
echo-keyword : terminal_of (name (codes "eCHo")) ≡ word_terminal word.Echo
echo-keyword = refl

constant-keyword : keyword_of (codes "PHP_EOL") ≡ Some word.PhpEol
constant-keyword = refl

miscased-keyword : keyword_of (codes "php_eol") ≡ Some word.Miscased
miscased-keyword = refl

exit-keyword : keyword_of (codes "Exit") ≡ Some word.Exit
exit-keyword = refl

die-keyword : keyword_of (codes "DIE") ≡ Some word.Exit
die-keyword = refl

other-name : terminal_of (name (codes "Echoes")) ≡ name_terminal (codes "Echoes")
other-name = refl

-- `if (1) if (1) ; else ;` gives its `else` to the second `if`
abbrev one : ExprForm
one = expression (int_form (pos 1))

given_to_the_second : nearest (if_form one (if_form one semicolon_form no_arms_form (else_form semicolon_form)) no_arms_form no_else_form) ≡ true
unfolding nearest takes_else
given_to_the_second = refl

given_to_the_first : nearest (if_form one (if_form one semicolon_form no_arms_form no_else_form) no_arms_form (else_form semicolon_form)) ≡ false
unfolding nearest takes_else
given_to_the_first = refl

behind_a_loop : nearest (if_form one (while_form one (stmt_body (if_form one semicolon_form no_arms_form no_else_form))) no_arms_form (else_form semicolon_form)) ≡ false
unfolding nearest takes_else
behind_a_loop = refl

-- `else if` is an arm, and no `if` behind an `else`
nested_if : nearest (if_form one semicolon_form no_arms_form (else_form (if_form one semicolon_form no_arms_form no_else_form))) ≡ false
unfolding nearest takes_else
nested_if = refl

-- between `:` and `endif` likewise: `if (1): if (1) ; else: endif;` gives its `else` to no `if`, and with one more `;` before it to the first
behind_an_if : nearest (colon_if_form one (more_stmts_form (if_form one semicolon_form no_arms_form no_else_form) no_stmts_form) no_colon_arms (colon_else no_stmts_form)) ≡ false
unfolding nearest takes_else
behind_an_if = refl

behind_a_semicolon : nearest (colon_if_form one (more_stmts_form (if_form one semicolon_form no_arms_form no_else_form) (more_stmts_form semicolon_form no_stmts_form)) no_colon_arms (colon_else no_stmts_form)) ≡ true
unfolding nearest takes_else
behind_a_semicolon = refl

-- `isset($a['b'])` and `isset(1)`
isset_place : expr_fits (isset_expr (more_exprs (member_expr (var_expr (codes "a")) (text_expr (codes "b"))) no_exprs)) ≡ true
unfolding expr_fits
isset_place = refl

isset_literal : expr_fits (isset_expr (more_exprs (int_expr (pos 1)) no_exprs)) ≡ false
unfolding expr_fits
isset_literal = refl

-- `$a[1][] = 1`, `$a[][1] = 1` and `$a[] += 1`
open_key_last : expr_fits (assign_expr (codes "a") (more_keys (some_expr (int_expr (pos 1))) (more_keys no_expr no_keys)) (int_expr (pos 1))) ≡ true
unfolding expr_fits
open_key_last = refl

open_key_first : expr_fits (assign_expr (codes "a") (more_keys no_expr (more_keys (some_expr (int_expr (pos 1))) no_keys)) (int_expr (pos 1))) ≡ false
unfolding expr_fits
open_key_first = refl

open_key_read : expr_fits (update_expr update.Add (codes "a") (more_keys no_expr no_keys) (int_expr (pos 1))) ≡ false
unfolding expr_fits
open_key_read = refl

-- variables that are read only, and variables outside the language
written_request : is_writable (codes "_GET") ≡ false
written_request = refl

written_files : is_writable (codes "_FILES") ≡ false
written_files = refl

read_arguments : expr_fits (var_expr (codes "argv")) ≡ false
unfolding expr_fits
read_arguments = refl

read_others : expr_fits (var_expr (codes "_files")) ≡ true
unfolding expr_fits
read_others = refl

read_request : variable_tree (codes "_SERVER") ≡ super_expr request.Server
read_request = refl

read_this : expr_fits (var_expr (codes "this")) ≡ false
unfolding expr_fits
read_this = refl

-- `break` in a loop and outside one, `return` outside a function
break_in_loop : stmt_fits false false (while_stmt (int_expr (pos 1)) (more_stmts break_stmt no_stmts)) ≡ true
unfolding stmt_fits expr_fits
break_in_loop = refl

break_outside : stmt_fits false true break_stmt ≡ false
unfolding stmt_fits
break_outside = refl

return_outside : stmt_fits true false (return_stmt no_expr) ≡ false
unfolding stmt_fits
return_outside = refl

-- `exit;`, `exit(3);` and `exit(-3);` print nothing, `die('x');` prints its text
abbrev exit_of : PostForm → PlainStmts
exit_of p = stmt_trees (exit_parens_form (something_form (expression p))) no_stmts

exit_bare : stmt_trees exit_form no_stmts ≡ more_stmts (quit_stmt no_expr) no_stmts
unfolding stmt_trees
exit_bare = refl

exit_status : exit_of (int_form (pos 3)) ≡ more_stmts (quit_stmt no_expr) no_stmts
unfolding stmt_trees expr_tree
exit_status = refl

exit_negated : printed (neg_expr (int_expr (pos 3))) ≡ no_expr
exit_negated = refl

exit_twice_negated : printed (neg_expr (neg_expr (int_expr (pos 3)))) ≡ some_expr (neg_expr (neg_expr (int_expr (pos 3))))
exit_twice_negated = refl

exit_text : exit_of (text_form (codes "x")) ≡ more_stmts (quit_stmt (some_expr (text_expr (codes "x")))) no_stmts
unfolding stmt_trees expr_tree
exit_text = refl

exit_anywhere : stmt_fits false false (quit_stmt no_expr) ≡ true
unfolding stmt_fits expr_fits
exit_anywhere = refl

-- the tokens of `ECHO 'a';` spell one statement, wherever they stand
abbrev echo_a : PlainFile
echo_a = record { body_of = more_stmts (echo_stmt (more_exprs (text_expr (codes "a")) no_exprs)) no_stmts; functions_of = [] }

abbrev echo_tokens : List PlainToken
echo_tokens = record { kind = name (codes "ECHO"); at = 6 } ∷ record { kind = text (codes "a"); at = 11 } ∷ record { kind = sign sign.Semicolon; at = 14 } ∷ []

echo_spelled : SpellsTree echo_tokens echo_a
unfolding expr_terminals expr_tree stmt_terminals stmt_trees nearest stmt_fits expr_fits
echo_spelled = record {
  form = stmt_part (echo_form (expression (text_form (codes "a"))) no_more_exprs) end_of_file;
  spelled = refl;
  made = refl;
  nearest_if = refl;
  fits = refl;
}

-- `)(` opens one bracket, since fewer than none are never open
brackets_open : most_open 0 (sign_terminal sign.CloseParen ∷ sign_terminal sign.OpenParen ∷ []) ≡ 1
brackets_open = refl

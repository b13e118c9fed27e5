-- Each form of statement and of expression that the language has, and its tree, by computation. The forms are those of docs/language.md.
use Rattle.std.proofs.Common.{pos, true, false, List, [], ◌∷◌, Some, None, refl}
use Rattle.std.specs.Prelude.{codes}
use Rattle.php_syntax.specs.declared.token.Sign.TheVariants as signs
use Rattle.php_syntax.specs.declared.tree.ArithSign.TheVariants as arith_sign
use Rattle.php_syntax.specs.declared.tree.CompareSign.TheVariants as compare
use Rattle.php_syntax.specs.declared.tree.UpdateSign.TheVariants as update
use Rattle.php_syntax.specs.declared.tree.SuperName.TheVariants as request
use Rattle.php_syntax.specs.Tokens.{PlainKind, inline, variable, name, integer, text, template, sign, plain_part, read_part}
use Rattle.php_syntax.specs.Trees.{PlainExpr, null_expr, flag_expr, int_expr, text_expr, var_expr, super_expr, member_expr, array_expr, join_expr, neg_expr, not_expr, arith_expr, compare_expr, and_expr, or_expr, coalesce_expr, choice_expr, isset_expr, empty_expr, assign_expr, update_expr, step_expr, call_expr, no_expr, some_expr, PlainExprs, no_exprs, more_exprs, no_items, more_items, no_keys, more_keys, PlainStmt, inline_stmt, echo_stmt, run_stmt, if_stmt, while_stmt, do_while_stmt, for_stmt, each_stmt, break_stmt, continue_stmt, return_stmt, include_stmt, quit_stmt, PlainStmts, no_stmts, more_stmts, no_arms, more_arms}
use Rattle.lr_tables.specs.Machine.{run}
use Rattle.lr_tables.specs.Values.{Meaning, make, HasValue}
use Rattle.php_grammar.specs.Php.{php}
use Rattle.script_grammar.specs.Rules.{stmts_fit, stmt_fits, arms_fit, expr_fits, maybe_fits, exprs_fit, items_fit, path_fits}
use Rattle.php_trees.specs.Kinds.{kind_of}
use Rattle.php_trees.specs.Values.{Value, leaf, file}
use Rattle.php_trees.specs.Actions.{act}
use Rattle.php_trees.specs.Reads.{language, ReadAs}
use Rattle.php_trees.proofs.Examples.{has_value, spelled, body, called}

abbrev semi : PlainKind
semi = sign signs.Semicolon

abbrev opens : PlainKind
opens = sign signs.OpenParen

abbrev closes : PlainKind
closes = sign signs.CloseParen

abbrev colon : PlainKind
colon = sign signs.Colon

abbrev comma : PlainKind
comma = sign signs.Comma

abbrev from : PlainKind
from = sign signs.OpenBracket

abbrev to : PlainKind
to = sign signs.CloseBracket

abbrev begin : PlainKind
begin = sign signs.OpenBrace

abbrev finish : PlainKind
finish = sign signs.CloseBrace

-- trees in a row
abbrev row : List PlainStmt → PlainStmts
row [] = no_stmts
row (s ∷ ss) = more_stmts s (row ss)

abbrev exprs : List PlainExpr → PlainExprs
exprs [] = no_exprs
exprs (e ∷ es) = more_exprs e (exprs es)

abbrev var_a : PlainExpr
var_a = var_expr (codes "a")

abbrev var_b : PlainExpr
var_b = var_expr (codes "b")

abbrev var_c : PlainExpr
var_c = var_expr (codes "c")

abbrev call_f : PlainStmts
call_f = called (codes "f")

-- loops, in both forms
abbrev loops : List PlainKind
loops =
    name (codes "while") ∷ opens ∷ variable (codes "a") ∷ closes ∷ name (codes "f") ∷ opens ∷ closes ∷ semi ∷ name (codes "while") ∷ opens
    ∷ variable (codes "a") ∷ closes ∷ colon ∷ name (codes "f") ∷ opens ∷ closes ∷ semi ∷ name (codes "endwhile") ∷ semi
    ∷ name (codes "do") ∷ name (codes "f") ∷ opens ∷ closes ∷ semi ∷ name (codes "while") ∷ opens ∷ variable (codes "a") ∷ closes ∷ semi
    ∷ name (codes "for") ∷ opens ∷ variable (codes "i") ∷ sign signs.Assign ∷ integer (pos 0) ∷ semi ∷ variable (codes "i")
    ∷ sign signs.Less ∷ integer (pos 3) ∷ semi ∷ variable (codes "i") ∷ sign signs.Increment ∷ closes ∷ name (codes "f") ∷ opens ∷ closes
    ∷ semi ∷ name (codes "for") ∷ opens ∷ semi ∷ semi ∷ closes ∷ colon ∷ name (codes "break") ∷ semi ∷ name (codes "endfor") ∷ semi
    ∷ name (codes "foreach") ∷ opens ∷ variable (codes "a") ∷ name (codes "as") ∷ variable (codes "x") ∷ closes ∷ name (codes "continue")
    ∷ semi ∷ name (codes "foreach") ∷ opens ∷ variable (codes "a") ∷ name (codes "as") ∷ variable (codes "k") ∷ sign signs.DoubleArrow
    ∷ variable (codes "x") ∷ closes ∷ name (codes "f") ∷ opens ∷ closes ∷ semi ∷ name (codes "foreach") ∷ opens ∷ variable (codes "a")
    ∷ name (codes "as") ∷ variable (codes "x") ∷ closes ∷ colon ∷ name (codes "f") ∷ opens ∷ closes ∷ semi ∷ name (codes "endforeach")
    ∷ semi ∷ name (codes "foreach") ∷ opens ∷ variable (codes "a") ∷ name (codes "as") ∷ variable (codes "k") ∷ sign signs.DoubleArrow
    ∷ variable (codes "x") ∷ closes ∷ colon ∷ name (codes "f") ∷ opens ∷ closes ∷ semi ∷ name (codes "endforeach") ∷ semi ∷ []

loops_are_read : ReadAs (spelled loops) (body (row (
    while_stmt var_a call_f
    ∷ while_stmt var_a call_f
    ∷ do_while_stmt call_f var_a
    ∷ for_stmt (exprs (assign_expr (codes "i") no_keys (int_expr (pos 0)) ∷ [])) (some_expr (compare_expr compare.Less (var_expr (codes "i")) (int_expr (pos 3)))) (exprs (step_expr (codes "i") true false ∷ [])) call_f
    ∷ for_stmt no_exprs no_expr no_exprs (row (break_stmt ∷ []))
    ∷ each_stmt var_a None (codes "x") (row (continue_stmt ∷ []))
    ∷ each_stmt var_a (Some (codes "k")) (codes "x") call_f
    ∷ each_stmt var_a None (codes "x") call_f
    ∷ each_stmt var_a (Some (codes "k")) (codes "x") call_f
    ∷ [])))
unfolding run make php stmts_fit stmt_fits arms_fit expr_fits maybe_fits exprs_fit items_fit path_fits
loops_are_read = record { derived = has_value language _ 530 loops _ refl refl; fits = refl }

-- texts, empty statements, blocks, what prints, the ends of a run; `exit` prints no number ("exit")
abbrev others : List PlainKind
others =
    inline (codes "y") ∷ semi ∷ begin ∷ name (codes "echo") ∷ variable (codes "a") ∷ comma ∷ integer (pos 1) ∷ semi ∷ finish
    ∷ name (codes "print") ∷ variable (codes "a") ∷ semi ∷ name (codes "unset") ∷ opens ∷ variable (codes "a") ∷ closes ∷ semi
    ∷ name (codes "exit") ∷ semi ∷ name (codes "exit") ∷ opens ∷ integer (pos 1) ∷ closes ∷ semi ∷ name (codes "die") ∷ opens
    ∷ text (codes "x") ∷ closes ∷ semi ∷ []

others_are_read : ReadAs (spelled others) (body (row (
    inline_stmt (codes "y")
    ∷ echo_stmt (exprs (var_a ∷ int_expr (pos 1) ∷ []))
    ∷ echo_stmt (exprs (var_a ∷ []))
    ∷ run_stmt (call_expr (codes "unset") (exprs (var_a ∷ [])))
    ∷ quit_stmt no_expr
    ∷ quit_stmt no_expr
    ∷ quit_stmt (some_expr (text_expr (codes "x")))
    ∷ [])))
unfolding run make php stmts_fit stmt_fits arms_fit expr_fits maybe_fits exprs_fit items_fit path_fits
others_are_read = record { derived = has_value language _ 155 others _ refl refl; fits = refl }

-- includes; that the name of their file is UTF-8 is not computed here
abbrev includes : List PlainKind
includes =
    name (codes "include") ∷ text (codes "a.php") ∷ semi ∷ name (codes "REQUIRE") ∷ opens ∷ text (codes "a.php") ∷ closes ∷ semi ∷ []

-- derivations without the rules beside the grammar
abbrev unruled : Meaning
unruled = record { Token = PlainKind; Value = Value; kind = kind_of; leaf = leaf; act = act }

includes_have_value : HasValue php.grammar unruled includes (file (body (row (
    include_stmt (codes "a.php")
    ∷ include_stmt (codes "a.php")
    ∷ []))))
unfolding run make php
includes_have_value = has_value unruled _ 50 includes _ refl refl

-- branches, in both forms
abbrev branches : List PlainKind
branches =
    name (codes "if") ∷ opens ∷ variable (codes "a") ∷ closes ∷ colon ∷ name (codes "f") ∷ opens ∷ closes ∷ semi ∷ name (codes "elseif")
    ∷ opens ∷ variable (codes "b") ∷ closes ∷ colon ∷ name (codes "g") ∷ opens ∷ closes ∷ semi ∷ name (codes "else") ∷ colon
    ∷ name (codes "h") ∷ opens ∷ closes ∷ semi ∷ name (codes "endif") ∷ semi ∷ name (codes "if") ∷ opens ∷ variable (codes "a") ∷ closes
    ∷ name (codes "f") ∷ opens ∷ closes ∷ semi ∷ name (codes "elseif") ∷ opens ∷ variable (codes "b") ∷ closes ∷ name (codes "g") ∷ opens
    ∷ closes ∷ semi ∷ name (codes "else") ∷ name (codes "if") ∷ opens ∷ variable (codes "c") ∷ closes ∷ name (codes "h") ∷ opens ∷ closes
    ∷ semi ∷ name (codes "else") ∷ begin ∷ name (codes "i") ∷ opens ∷ closes ∷ semi ∷ finish ∷ []

branches_are_read : ReadAs (spelled branches) (body (row (
    if_stmt (more_arms var_a call_f (more_arms var_b (called (codes "g")) no_arms)) (called (codes "h"))
    ∷ if_stmt (more_arms var_a call_f (more_arms var_b (called (codes "g")) (more_arms var_c (called (codes "h")) no_arms))) (called (codes "i"))
    ∷ [])))
unfolding run make php stmts_fit stmt_fits arms_fit expr_fits maybe_fits exprs_fit items_fit path_fits
branches_are_read = record { derived = has_value language _ 300 branches _ refl refl; fits = refl }

-- functions, and literals as defaults of parameters
abbrev functions : List PlainKind
functions =
    name (codes "function") ∷ name (codes "F") ∷ opens ∷ variable (codes "a") ∷ comma ∷ variable (codes "b") ∷ sign signs.Assign
    ∷ sign signs.Minus ∷ integer (pos 1) ∷ comma ∷ variable (codes "c") ∷ sign signs.Assign ∷ text (codes "x") ∷ comma
    ∷ variable (codes "d") ∷ sign signs.Assign ∷ name (codes "null") ∷ comma ∷ variable (codes "e") ∷ sign signs.Assign ∷ integer (pos 2)
    ∷ closes ∷ begin ∷ name (codes "return") ∷ variable (codes "a") ∷ semi ∷ finish ∷ name (codes "function") ∷ name (codes "g") ∷ opens
    ∷ closes ∷ begin ∷ name (codes "return") ∷ semi ∷ finish ∷ []

functions_are_read : ReadAs (spelled functions) (record {
  body_of = no_stmts;
  functions_of =
      record { name_of = codes "f"; params_of = record { name_of = codes "a"; default_of = no_expr } ∷ record { name_of = codes "b"; default_of = some_expr (neg_expr (int_expr (pos 1))) } ∷ record { name_of = codes "c"; default_of = some_expr (text_expr (codes "x")) } ∷ record { name_of = codes "d"; default_of = some_expr null_expr } ∷ record { name_of = codes "e"; default_of = some_expr (int_expr (pos 2)) } ∷ []; body_of = row (return_stmt (some_expr var_a) ∷ []) }
      ∷ record { name_of = codes "g"; params_of = []; body_of = row (return_stmt no_expr ∷ []) } ∷ [];
})
unfolding run make php stmts_fit stmt_fits arms_fit expr_fits maybe_fits exprs_fit items_fit path_fits
functions_are_read = record { derived = has_value language _ 185 functions _ refl refl; fits = refl }

-- assignments, and steps
abbrev writes : List PlainKind
writes =
    variable (codes "a") ∷ from ∷ text (codes "k") ∷ to ∷ from ∷ to ∷ sign signs.Assign ∷ from ∷ integer (pos 1) ∷ comma
    ∷ text (codes "k") ∷ sign signs.DoubleArrow ∷ integer (pos 2) ∷ comma ∷ to ∷ semi ∷ variable (codes "a") ∷ sign signs.JoinAssign
    ∷ variable (codes "b") ∷ sign signs.Coalesce ∷ variable (codes "c") ∷ semi ∷ sign signs.Decrement ∷ variable (codes "i") ∷ semi ∷ []

writes_are_read : ReadAs (spelled writes) (body (row (
    run_stmt (assign_expr (codes "a") (more_keys (some_expr (text_expr (codes "k"))) (more_keys no_expr no_keys)) (array_expr (more_items no_expr (int_expr (pos 1)) (more_items (some_expr (text_expr (codes "k"))) (int_expr (pos 2)) no_items))))
    ∷ run_stmt (update_expr update.Join (codes "a") no_keys (coalesce_expr var_b var_c))
    ∷ run_stmt (step_expr (codes "i") false true)
    ∷ [])))
unfolding run make php stmts_fit stmt_fits arms_fit expr_fits maybe_fits exprs_fit items_fit path_fits
writes_are_read = record { derived = has_value language _ 135 writes _ refl refl; fits = refl }

-- operands
abbrev operands : List PlainKind
operands =
    name (codes "echo") ∷ variable (codes "a") ∷ sign signs.Question ∷ integer (pos 1) ∷ colon ∷ integer (pos 2) ∷ comma
    ∷ variable (codes "a") ∷ sign signs.Question ∷ colon ∷ integer (pos 2) ∷ comma ∷ name (codes "isset") ∷ opens ∷ variable (codes "a")
    ∷ comma ∷ variable (codes "b") ∷ closes ∷ comma ∷ name (codes "empty") ∷ opens ∷ variable (codes "a") ∷ closes ∷ comma
    ∷ name (codes "array") ∷ opens ∷ closes ∷ comma ∷ opens ∷ variable (codes "a") ∷ closes ∷ from ∷ text (codes "k") ∷ to ∷ comma
    ∷ template (plain_part (codes "x") ∷ read_part (codes "a") [] ∷ []) ∷ comma ∷ name (codes "True") ∷ comma ∷ name (codes "PHP_EOL")
    ∷ comma ∷ variable (codes "_GET") ∷ from ∷ text (codes "k") ∷ to ∷ semi ∷ []

operands_are_read : ReadAs (spelled operands) (body (row (
    echo_stmt (exprs (
    choice_expr var_a (some_expr (int_expr (pos 1))) (int_expr (pos 2))
    ∷ choice_expr var_a no_expr (int_expr (pos 2))
    ∷ isset_expr (exprs (var_a ∷ var_b ∷ []))
    ∷ empty_expr var_a
    ∷ array_expr no_items
    ∷ member_expr var_a (text_expr (codes "k"))
    ∷ join_expr (exprs (text_expr (codes "x") ∷ var_a ∷ []))
    ∷ flag_expr true
    ∷ text_expr (10 ∷ [])
    ∷ member_expr (super_expr request.Get) (text_expr (codes "k"))
    ∷ []))
    ∷ [])))
unfolding run make php stmts_fit stmt_fits arms_fit expr_fits maybe_fits exprs_fit items_fit path_fits
operands_are_read = record { derived = has_value language _ 240 operands _ refl refl; fits = refl }

-- operators, and calls; `%` binds tighter than `-`, `.` tighter than `==` ("Operator Precedence")
abbrev operators : List PlainKind
operators =
    name (codes "echo") ∷ sign signs.Not ∷ variable (codes "a") ∷ comma ∷ sign signs.CastInt ∷ variable (codes "a") ∷ comma
    ∷ sign signs.CastString ∷ variable (codes "a") ∷ comma ∷ sign signs.Minus ∷ variable (codes "a") ∷ comma ∷ variable (codes "a")
    ∷ sign signs.And ∷ variable (codes "b") ∷ sign signs.Or ∷ variable (codes "c") ∷ comma ∷ variable (codes "a") ∷ sign signs.Dot
    ∷ variable (codes "b") ∷ sign signs.Equal ∷ variable (codes "c") ∷ comma ∷ variable (codes "a") ∷ sign signs.Minus
    ∷ variable (codes "b") ∷ sign signs.Percent ∷ integer (pos 2) ∷ comma ∷ name (codes "f") ∷ opens ∷ integer (pos 1) ∷ comma
    ∷ variable (codes "a") ∷ closes ∷ from ∷ integer (pos 0) ∷ to ∷ comma ∷ name (codes "eval") ∷ opens ∷ text (codes "1") ∷ closes
    ∷ comma ∷ name (codes "htmlspecialchars") ∷ opens ∷ variable (codes "a") ∷ comma ∷ name (codes "ENT_QUOTES") ∷ comma
    ∷ text (codes "utf-8") ∷ closes ∷ semi ∷ []

operators_are_read : ReadAs (spelled operators) (body (row (
    echo_stmt (exprs (
    not_expr var_a
    ∷ call_expr (codes "intval") (exprs (var_a ∷ []))
    ∷ call_expr (codes "strval") (exprs (var_a ∷ []))
    ∷ neg_expr var_a
    ∷ or_expr (and_expr var_a var_b) var_c
    ∷ compare_expr compare.Equal (join_expr (exprs (var_a ∷ var_b ∷ []))) var_c
    ∷ arith_expr arith_sign.Sub var_a (arith_expr arith_sign.Rem var_b (int_expr (pos 2)))
    ∷ member_expr (call_expr (codes "f") (exprs (int_expr (pos 1) ∷ var_a ∷ []))) (int_expr (pos 0))
    ∷ call_expr (codes "eval") (exprs (text_expr (codes "1") ∷ []))
    ∷ call_expr (codes "htmlspecialchars") (exprs (var_a ∷ []))
    ∷ []))
    ∷ [])))
unfolding run make php stmts_fit stmt_fits arms_fit expr_fits maybe_fits exprs_fit items_fit path_fits
operators_are_read = record { derived = has_value language _ 285 operators _ refl refl; fits = refl }

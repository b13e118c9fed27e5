-- The definitions on worked examples and near misses.
use Rattle.std.proofs.Common.{◌≡◌, ℕ, pos, true, false, List, [], ◌∷◌, None, Some, refl}
use Rattle.std.specs.Prelude.{codes}
use Rattle.std.specs.Fmt.{digits}
use Rattle.php_syntax.specs.declared.tree.SuperName.TheVariants.{Get, Post}
use Rattle.php_syntax.specs.declared.tree.ArithSign.TheVariants.{Sub, Rem}
use Rattle.php_syntax.specs.declared.tree.CompareSign.TheVariants.{Equal, Identical, Less, LessEqual}
use Rattle.php_syntax.specs.declared.tree.UpdateSign.TheVariants.{Join, Coalesce}
use Rattle.php_syntax.specs.Trees.{PlainExpr, flag_expr, int_expr, text_expr, var_expr, super_expr, member_expr, array_expr, neg_expr, arith_expr, compare_expr, and_expr, or_expr, isset_expr, assign_expr, update_expr, step_expr, call_expr, no_expr, some_expr, PlainExprs, no_exprs, more_exprs, no_items, more_items, no_keys, more_keys, PlainStmt, inline_stmt, echo_stmt, run_stmt, if_stmt, while_stmt, do_while_stmt, for_stmt, each_stmt, break_stmt, continue_stmt, quit_stmt, PlainStmts, no_stmts, more_stmts, no_arms, more_arms, PlainFunction, return_stmt, join_expr, PlainPath, not_expr, choice_expr}
use Rattle.plain_values.specs.Plain.{text, empty, pair, text_key}
use Rattle.plain_values.specs.declared.fault.Fault.TheVariants.{BadIndex, WrongType, ZeroDivisor}
use Rattle.script_meaning.specs.Requests.{PlainRequest}
use Rattle.script_meaning.specs.Runs.{◌then_do◌, Ended, Faulted, Spent, Deep}
use Rattle.script_meaning.specs.Programs.{PlainProgram, function_named, arguments_of}
use Rattle.script_meaning.specs.Expressions.{value, values}
use Rattle.script_meaning.specs.Statements.{statements}
use Rattle.script_meaning.specs.Meaning.{Outcome, meaning}

-- a request without members, and one with `q` in `$_GET`
abbrev asks_nothing : PlainRequest
asks_nothing = record { get_of = empty; post_of = empty; cookie_of = empty; request_of = empty; server_of = empty }

abbrev asks_q : PlainRequest
asks_q = record { get_of = pair (text_key (codes "q")) (text (codes "v")) empty; post_of = empty; cookie_of = empty; request_of = empty; server_of = empty }

abbrev script : List PlainFunction → PlainStmts → PlainProgram
script functions body = record { main_of = body; functions_of = functions }

abbrev x : PlainExpr
x = var_expr (codes "x")

abbrev one : PlainExpr → PlainExprs
one e = more_exprs e no_exprs

abbrev say : PlainExpr → PlainStmt
say e = echo_stmt (one e)

abbrev ◌then◌ : PlainStmt → PlainStmts → PlainStmts
a then b = more_stmts a b

infixr 5 ◌then◌
-- how a run ends, with what it printed
abbrev comes_to : Outcome → List ℕ → Type 0
comes_to o bytes = (o.printed ≡ bytes) × (o.end ≡ Ended)

-- `echo -7 % 3;` prints `-1`: the remainder has the sign of the dividend
remainder : comes_to (meaning (script [] (say (arith_expr Rem (neg_expr (int_expr (pos 7))) (int_expr (pos 3))) then no_stmts)) asks_nothing 10) (codes "-1")
unfolding meaning statements ◌then_do◌ value values function_named arguments_of digits
remainder = (refl, refl)

-- `$x = 1; $x ??= 2; echo $x;` does not write
kept : comes_to (meaning (script [] (run_stmt (assign_expr (codes "x") no_keys (int_expr (pos 1))) then run_stmt (update_expr Coalesce (codes "x") no_keys (int_expr (pos 2))) then say x then no_stmts)) asks_nothing 10) (codes "1")
unfolding meaning statements ◌then_do◌ value values function_named arguments_of digits
kept = (refl, refl)

-- `$x ??= 2; echo $x;` writes
written : comes_to (meaning (script [] (run_stmt (update_expr Coalesce (codes "x") no_keys (int_expr (pos 2))) then say x then no_stmts)) asks_nothing 10) (codes "2")
unfolding meaning statements ◌then_do◌ value values function_named arguments_of digits
written = (refl, refl)

-- `$x .= ($x = 'a'); echo $x;` reads the old value first, so that it prints `a` and not `aa`
read_first : comes_to (meaning (script [] (run_stmt (update_expr Join (codes "x") no_keys (assign_expr (codes "x") no_keys (text_expr (codes "a")))) then say x then no_stmts)) asks_nothing 10) (codes "a")
unfolding meaning statements ◌then_do◌ value values function_named arguments_of digits
read_first = (refl, refl)

-- `$x = [1, 2]; foreach ($x as $v) { $x[] = 3; echo $v; }` walks the array as it was
walked_as_it_was : comes_to (meaning (script [] (run_stmt (assign_expr (codes "x") no_keys (array_expr (more_items no_expr (int_expr (pos 1)) (more_items no_expr (int_expr (pos 2)) no_items)))) then each_stmt x None (codes "v") (run_stmt (assign_expr (codes "x") (more_keys no_expr no_keys) (int_expr (pos 3))) then say (var_expr (codes "v")) then no_stmts) then no_stmts)) asks_nothing 20) (codes "12")
unfolding meaning statements ◌then_do◌ value values function_named arguments_of digits
walked_as_it_was = (refl, refl)

-- `$x = 'a'; $x[0] = 1;` faults: a text has no members that are written
text_member : (meaning (script [] (run_stmt (assign_expr (codes "x") no_keys (text_expr (codes "a"))) then run_stmt (assign_expr (codes "x") (more_keys (some_expr (int_expr (pos 0))) no_keys) (int_expr (pos 1))) then no_stmts)) asks_nothing 10).end ≡ Faulted BadIndex
unfolding meaning statements ◌then_do◌ value values function_named arguments_of digits
text_member = refl

-- `echo 1 % 0;` faults, and what was printed before stays
printed_before : meaning (script [] (inline_stmt (codes "a") then say (arith_expr Rem (int_expr (pos 1)) (int_expr (pos 0))) then no_stmts)) asks_nothing 10 ≡ record { printed = codes "a"; end = Faulted ZeroDivisor }
unfolding meaning statements ◌then_do◌ value values function_named arguments_of digits
printed_before = refl

-- `function f($a = 'd') { echo $a; } f(); f('e');`
abbrev f : PlainFunction
f = record { name_of = codes "f"; params_of = record { name_of = codes "a"; default_of = some_expr (text_expr (codes "d")) } ∷ []; body_of = say (var_expr (codes "a")) then no_stmts }

default_argument : comes_to (meaning (script (f ∷ []) (run_stmt (call_expr (codes "f") no_exprs) then run_stmt (call_expr (codes "f") (one (text_expr (codes "e")))) then no_stmts)) asks_nothing 10) (codes "de")
unfolding meaning statements ◌then_do◌ value values function_named arguments_of digits
default_argument = (refl, refl)

-- a function does not see the variables of its caller: `function g() { echo $x; } $x = 1; g();` prints nothing
abbrev g : PlainFunction
g = record { name_of = codes "g"; params_of = []; body_of = say x then no_stmts }

own_variables : comes_to (meaning (script (g ∷ []) (run_stmt (assign_expr (codes "x") no_keys (int_expr (pos 1))) then run_stmt (call_expr (codes "g") no_exprs) then say x then no_stmts)) asks_nothing 10) (codes "1")
unfolding meaning statements ◌then_do◌ value values function_named arguments_of digits
own_variables = (refl, refl)

-- `function h() { h(); } h();`: with few units they run out, and with many the 257th open call is refused
abbrev h : PlainFunction
h = record { name_of = codes "h"; params_of = []; body_of = run_stmt (call_expr (codes "h") no_exprs) then no_stmts }

runs_out : (meaning (script (h ∷ []) (run_stmt (call_expr (codes "h") no_exprs) then no_stmts)) asks_nothing 100).end ≡ Spent
unfolding meaning statements ◌then_do◌ value values function_named arguments_of digits
runs_out = refl

too_deep : (meaning (script (h ∷ []) (run_stmt (call_expr (codes "h") no_exprs) then no_stmts)) asks_nothing 1000).end ≡ Deep
unfolding meaning statements ◌then_do◌ value values function_named arguments_of digits
too_deep = refl

-- 256 open calls take a unit for the statement and one for the call, each; one unit less is not enough for the 257th
not_yet_deep : (meaning (script (h ∷ []) (run_stmt (call_expr (codes "h") no_exprs) then no_stmts)) asks_nothing 513).end ≡ Spent
unfolding meaning statements ◌then_do◌ value values function_named arguments_of digits
not_yet_deep = refl

just_deep : (meaning (script (h ∷ []) (run_stmt (call_expr (codes "h") no_exprs) then no_stmts)) asks_nothing 514).end ≡ Deep
unfolding meaning statements ◌then_do◌ value values function_named arguments_of digits
just_deep = refl

-- `if (isset($_GET['q'])) { echo 'a'; } else { echo 'b'; }`
abbrev asks : PlainProgram
asks = script [] (if_stmt (more_arms (isset_expr (one (member_expr (super_expr Get) (text_expr (codes "q"))))) (say (text_expr (codes "a")) then no_stmts) no_arms) (say (text_expr (codes "b")) then no_stmts) then no_stmts)

with_q : comes_to (meaning asks asks_q 10) (codes "a")
unfolding meaning statements ◌then_do◌ value values function_named arguments_of digits
with_q = (refl, refl)

without_q : comes_to (meaning asks asks_nothing 10) (codes "b")
unfolding meaning statements ◌then_do◌ value values function_named arguments_of digits
without_q = (refl, refl)

-- two statements take two units: with one the run is spent
one_unit : meaning asks asks_nothing 1 ≡ record { printed = []; end = Spent }
unfolding meaning statements ◌then_do◌ value values function_named arguments_of digits
one_unit = refl

-- `for ($x = 0; $x < 3; $x++) { if ($x === 1) continue; .. }` goes on with `$x++`
abbrev counting : PlainStmts → PlainStmts
counting body = for_stmt (one (assign_expr (codes "x") no_keys (int_expr (pos 0)))) (some_expr (compare_expr Less x (int_expr (pos 3)))) (one (step_expr (codes "x") true false)) body then no_stmts

continued : comes_to (meaning (script [] (counting (if_stmt (more_arms (arith_expr Rem x (int_expr (pos 2))) (continue_stmt then no_stmts) no_arms) no_stmts then say x then no_stmts))) asks_nothing 30) (codes "02")
unfolding meaning statements ◌then_do◌ value values function_named arguments_of digits
continued = (refl, refl)

broken_off : comes_to (meaning (script [] (counting (say x then break_stmt then no_stmts))) asks_nothing 30) (codes "0")
unfolding meaning statements ◌then_do◌ value values function_named arguments_of digits
broken_off = (refl, refl)

-- a statement, and a turn with a statement for each of three: seven units; with six the third turn has no unit for its statement
seven : comes_to (meaning (script [] (counting (say x then no_stmts))) asks_nothing 7) (codes "012")
unfolding meaning statements ◌then_do◌ value values function_named arguments_of digits
seven = (refl, refl)

six : meaning (script [] (counting (say x then no_stmts))) asks_nothing 6 ≡ record { printed = codes "01"; end = Spent }
unfolding meaning statements ◌then_do◌ value values function_named arguments_of digits
six = refl

-- `do { echo 'a'; } while (false);` makes one turn
once : comes_to (meaning (script [] (do_while_stmt (say (text_expr (codes "a")) then no_stmts) (flag_expr false) then no_stmts)) asks_nothing 10) (codes "a")
unfolding meaning statements ◌then_do◌ value values function_named arguments_of digits
once = (refl, refl)

-- `echo $x++, $x, ++$x;` from 0
steps : comes_to (meaning (script [] (run_stmt (assign_expr (codes "x") no_keys (int_expr (pos 0))) then echo_stmt (more_exprs (step_expr (codes "x") true false) (more_exprs x (one (step_expr (codes "x") true true)))) then no_stmts)) asks_nothing 10) (codes "012")
unfolding meaning statements ◌then_do◌ value values function_named arguments_of digits
steps = (refl, refl)

-- `true || $x = 1` and `false && $x = 1` do not evaluate their right sides
not_needed : comes_to (meaning (script [] (run_stmt (or_expr (flag_expr true) (assign_expr (codes "x") no_keys (int_expr (pos 1)))) then run_stmt (and_expr (flag_expr false) (assign_expr (codes "x") no_keys (int_expr (pos 1)))) then say x then no_stmts)) asks_nothing 10) []
unfolding meaning statements ◌then_do◌ value values function_named arguments_of digits
not_needed = (refl, refl)

-- `function e() { while (true) { echo 'a'; exit('b'); } } e(); echo 'c';` ends the whole run
abbrev e : PlainFunction
e = record { name_of = codes "e"; params_of = []; body_of = while_stmt (flag_expr true) (say (text_expr (codes "a")) then quit_stmt (some_expr (text_expr (codes "b"))) then no_stmts) then no_stmts }

exits : comes_to (meaning (script (e ∷ []) (run_stmt (call_expr (codes "e") no_exprs) then say (text_expr (codes "c")) then no_stmts)) asks_nothing 20) (codes "ab")
unfolding meaning statements ◌then_do◌ value values function_named arguments_of digits
exits = (refl, refl)

-- `exit;` prints nothing, and `exit($x);` of what is no text faults
exits_silently : comes_to (meaning (script [] (inline_stmt (codes "a") then quit_stmt no_expr then inline_stmt (codes "b") then no_stmts)) asks_nothing 20) (codes "a")
unfolding meaning statements ◌then_do◌ value values function_named arguments_of digits
exits_silently = (refl, refl)

exits_with_null : (meaning (script [] (quit_stmt (some_expr x) then no_stmts)) asks_nothing 20).end ≡ Faulted WrongType
unfolding meaning statements ◌then_do◌ value values function_named arguments_of digits
exits_with_null = refl

-- `echo substr('abc', -2), ucfirst('ab'), urlencode('a b~');` prints `bcAba+b%7E`: PHP's functions take no unit
functions : meaning (script [] (echo_stmt (more_exprs (call_expr (codes "substr") (more_exprs (text_expr (codes "abc")) (one (neg_expr (int_expr (pos 2)))))) (more_exprs (call_expr (codes "ucfirst") (one (text_expr (codes "ab")))) (one (call_expr (codes "urlencode") (one (text_expr (codes "a b~"))))))) then no_stmts)) asks_nothing 1 ≡ record { printed = codes "bcAba+b%7E"; end = Ended }
unfolding meaning statements ◌then_do◌ value values function_named arguments_of digits
functions = refl

-- a call evaluates its arguments from the left, and the first fault counts: `strlen([])` before `1 % 0`
first_argument : (meaning (script [] (run_stmt (call_expr (codes "str_repeat") (more_exprs (call_expr (codes "strlen") (one (array_expr no_items))) (one (arith_expr Rem (int_expr (pos 1)) (int_expr (pos 0)))))) then no_stmts)) asks_nothing 5).end ≡ Faulted WrongType
unfolding meaning statements ◌then_do◌ value values function_named arguments_of digits
first_argument = refl

-- two loops in one another: `break` leaves the inner one, and what stands behind it still runs
abbrev y : PlainExpr
y = var_expr (codes "y")

abbrev counted : List ℕ → ℕ → PlainStmts → PlainStmt
counted name n body =
    for_stmt (one (assign_expr name no_keys (int_expr (pos 0)))) (some_expr (compare_expr Less (var_expr name) (int_expr (pos n)))) (one (step_expr name true false)) body

inner_break : comes_to (meaning (script [] (counted (codes "x") 2 (counted (codes "y") 3 (say y then break_stmt then no_stmts) then say (text_expr (codes "-")) then no_stmts) then say (text_expr (codes ".")) then no_stmts)) asks_nothing 40) (codes "0-0-.")
unfolding meaning statements ◌then_do◌ value values function_named arguments_of digits
inner_break = (refl, refl)

-- `function r($a, $b = -2) { while (true) { return $a . $b; } } echo r('p') . r('q', 'r');`
abbrev r : PlainFunction
r = record { name_of = codes "r"; params_of = record { name_of = codes "a"; default_of = no_expr } ∷ record { name_of = codes "b"; default_of = some_expr (neg_expr (int_expr (pos 2))) } ∷ []; body_of = while_stmt (flag_expr true) (return_stmt (some_expr (join_expr (more_exprs (var_expr (codes "a")) (one (var_expr (codes "b")))))) then no_stmts) then no_stmts }

returned_from_a_loop : comes_to (meaning (script (r ∷ []) (say (join_expr (more_exprs (call_expr (codes "r") (one (text_expr (codes "p")))) (one (call_expr (codes "r") (more_exprs (text_expr (codes "q")) (one (text_expr (codes "r")))))))) then no_stmts)) asks_nothing 20) (codes "p-2qr")
unfolding meaning statements ◌then_do◌ value values function_named arguments_of digits
returned_from_a_loop = (refl, refl)

-- `foreach (['k' => 1, 5 => 2] as $x => $y) { echo $x, $y; }` takes a unit, and for each member one for the turn and one for the statement
abbrev keyed : PlainStmts
keyed = each_stmt (array_expr (more_items (some_expr (text_expr (codes "k"))) (int_expr (pos 1)) (more_items (some_expr (int_expr (pos 5))) (int_expr (pos 2)) no_items))) (Some (codes "x")) (codes "y") (echo_stmt (more_exprs x (one y)) then no_stmts) then no_stmts

with_keys : comes_to (meaning (script [] keyed) asks_nothing 5) (codes "k152")
unfolding meaning statements ◌then_do◌ value values function_named arguments_of digits
with_keys = (refl, refl)

four_units : meaning (script [] keyed) asks_nothing 4 ≡ record { printed = codes "k1"; end = Spent }
unfolding meaning statements ◌then_do◌ value values function_named arguments_of digits
four_units = refl

-- `echo 'a', 1 % 0;` prints `a` before the second value is evaluated
printed_one_by_one : meaning (script [] (echo_stmt (more_exprs (text_expr (codes "a")) (one (arith_expr Rem (int_expr (pos 1)) (int_expr (pos 0))))) then no_stmts)) asks_nothing 5 ≡ record { printed = codes "a"; end = Faulted ZeroDivisor }
unfolding meaning statements ◌then_do◌ value values function_named arguments_of digits
printed_one_by_one = refl

-- a call takes its unit after its arguments: `f(1 % 0);` with one unit faults
arguments_first : (meaning (script (f ∷ []) (run_stmt (call_expr (codes "f") (one (arith_expr Rem (int_expr (pos 1)) (int_expr (pos 0))))) then no_stmts)) asks_nothing 1).end ≡ Faulted ZeroDivisor
unfolding meaning statements ◌then_do◌ value values function_named arguments_of digits
arguments_first = refl

-- `$x['a']['b'] = 1; $x['a']['b'] .= 2; echo $x['a']['b'];`
abbrev a_b : PlainPath
a_b = more_keys (some_expr (text_expr (codes "a"))) (more_keys (some_expr (text_expr (codes "b"))) no_keys)

along_a_path : comes_to (meaning (script [] (run_stmt (assign_expr (codes "x") a_b (int_expr (pos 1))) then run_stmt (update_expr Join (codes "x") a_b (int_expr (pos 2))) then say (member_expr (member_expr x (text_expr (codes "a"))) (text_expr (codes "b"))) then no_stmts)) asks_nothing 10) (codes "12")
unfolding meaning statements ◌then_do◌ value values function_named arguments_of digits
along_a_path = (refl, refl)

-- `function p($a) { echo $a; return $a; } $x[p('k')] = p('v');` evaluates the subscript before the value
abbrev p : PlainFunction
p = record { name_of = codes "p"; params_of = record { name_of = codes "a"; default_of = no_expr } ∷ []; body_of = say (var_expr (codes "a")) then return_stmt (some_expr (var_expr (codes "a"))) then no_stmts }

abbrev p_of : List ℕ → PlainExpr
p_of t = call_expr (codes "p") (one (text_expr t))

subscript_first : comes_to (meaning (script (p ∷ []) (run_stmt (assign_expr (codes "x") (more_keys (some_expr (p_of (codes "k"))) no_keys) (p_of (codes "v"))) then no_stmts)) asks_nothing 20) (codes "kv")
unfolding meaning statements ◌then_do◌ value values function_named arguments_of digits
subscript_first = (refl, refl)

-- operands from the left: `p('1') - p('2')` prints `12`, and the difference is -1
operands_from_the_left : comes_to (meaning (script (p ∷ []) (say (arith_expr Sub (p_of (codes "1")) (p_of (codes "2"))) then no_stmts)) asks_nothing 20) (codes "12-1")
unfolding meaning statements ◌then_do◌ value values function_named arguments_of digits
operands_from_the_left = (refl, refl)

-- two turns of `do { echo 'a'; } while (!$x && $x = true);`: a unit for the statement, and two for each turn
abbrev twice : PlainStmts
twice = do_while_stmt (say (text_expr (codes "a")) then no_stmts) (and_expr (not_expr x) (assign_expr (codes "x") no_keys (flag_expr true))) then no_stmts

two_turns : comes_to (meaning (script [] twice) asks_nothing 5) (codes "aa")
unfolding meaning statements ◌then_do◌ value values function_named arguments_of digits
two_turns = (refl, refl)

four_are_not_enough : meaning (script [] twice) asks_nothing 4 ≡ record { printed = codes "a"; end = Spent }
unfolding meaning statements ◌then_do◌ value values function_named arguments_of digits
four_are_not_enough = refl

-- `if (false) .. elseif (true) { echo 'b'; } else ..`
second_arm : comes_to (meaning (script [] (if_stmt (more_arms (flag_expr false) (say (text_expr (codes "a")) then no_stmts) (more_arms (flag_expr true) (say (text_expr (codes "b")) then no_stmts) no_arms)) (say (text_expr (codes "c")) then no_stmts) then no_stmts)) asks_nothing 5) (codes "b")
unfolding meaning statements ◌then_do◌ value values function_named arguments_of digits
second_arm = (refl, refl)

-- `isset($x, $_GET['q'])` is false where one of them is null
one_is_null : comes_to (meaning (script [] (say (choice_expr (isset_expr (more_exprs x (one (member_expr (super_expr Get) (text_expr (codes "q")))))) (some_expr (text_expr (codes "a"))) (text_expr (codes "b"))) then no_stmts)) asks_q 5) (codes "b")
unfolding meaning statements ◌then_do◌ value values function_named arguments_of digits
one_is_null = (refl, refl)

-- `$_GET` is seen in functions, and `$_POST` is another array
abbrev q : PlainFunction
q = record { name_of = codes "q"; params_of = []; body_of = echo_stmt (more_exprs (member_expr (super_expr Get) (text_expr (codes "q"))) (one (member_expr (super_expr Post) (text_expr (codes "q"))))) then no_stmts }

seen_in_functions : comes_to (meaning (script (q ∷ []) (run_stmt (call_expr (codes "q") no_exprs) then no_stmts)) asks_q 5) (codes "v")
unfolding meaning statements ◌then_do◌ value values function_named arguments_of digits
seen_in_functions = (refl, refl)

-- `$x = false; $x[0] = 1;` faults
written_into_false : (meaning (script [] (run_stmt (assign_expr (codes "x") no_keys (flag_expr false)) then run_stmt (assign_expr (codes "x") (more_keys (some_expr (int_expr (pos 0))) no_keys) (int_expr (pos 1))) then no_stmts)) asks_nothing 5).end ≡ Faulted BadIndex
unfolding meaning statements ◌then_do◌ value values function_named arguments_of digits
written_into_false = refl

-- `$x = 3; exit($x);` faults, and `echo array(1);` prints `Array`
exit_of_a_number : (meaning (script [] (run_stmt (assign_expr (codes "x") no_keys (int_expr (pos 3))) then quit_stmt (some_expr x) then no_stmts)) asks_nothing 5).end ≡ Faulted WrongType
unfolding meaning statements ◌then_do◌ value values function_named arguments_of digits
exit_of_a_number = refl

echo_of_an_array : comes_to (meaning (script [] (say (array_expr (more_items no_expr (int_expr (pos 1)) no_items)) then no_stmts)) asks_nothing 5) (codes "Array")
unfolding meaning statements ◌then_do◌ value values function_named arguments_of digits
echo_of_an_array = (refl, refl)

-- `2 <= 2`, `2 < 2`, `'1' == '01'`, `'1' === '01'` and `0 ?: 'z'`
compared : comes_to (meaning (script [] (echo_stmt (more_exprs (compare_expr LessEqual (int_expr (pos 2)) (int_expr (pos 2))) (more_exprs (compare_expr Less (int_expr (pos 2)) (int_expr (pos 2))) (more_exprs (compare_expr Equal (text_expr (codes "1")) (text_expr (codes "01"))) (more_exprs (compare_expr Identical (text_expr (codes "1")) (text_expr (codes "01"))) (one (choice_expr (int_expr (pos 0)) no_expr (text_expr (codes "z")))))))) then no_stmts)) asks_nothing 5) (codes "11z")
unfolding meaning statements ◌then_do◌ value values function_named arguments_of digits
compared = (refl, refl)

-- What a reader of statements has made. A row of statements with one that is too high is not kept.
use Rattle.std.specs.Prelude.{ℕ, ◌+◌, ◌&&◌, max, nat_lt, nat_le, Bool, true, false, List, [], ◌∷◌, Option, Some, None, if◌then◌else◌, zero, suc}
use Rattle.std.specs.Str.{str_to_ascii_lowercase}
use Rattle.text_base.specs.declared.limits.TheConstants.{HEIGHT_LIMIT}
use Rattle.php_syntax.specs.Trees.{MaybeExpr, no_expr, some_expr, PlainExprs, PlainStmt, inline_stmt, echo_stmt, run_stmt, if_stmt, while_stmt, do_while_stmt, for_stmt, each_stmt, break_stmt, continue_stmt, return_stmt, include_stmt, quit_stmt, PlainStmts, no_stmts, more_stmts, PlainArms, no_arms, more_arms, PlainParam, PlainFunction, PlainFile}
use Rattle.script_grammar.specs.Statements.{is_status}
use Rattle.script_grammar.specs.Rules.{is_writable, maybe_writable, is_utf8, is_new_name}
use Rattle.php_syntax.specs.Height.{stmts_height, params_height}
use Rattle.expr_machine.specs.Values.{PlainValue, known_value, execute, gather_exprs, take_values}
use Rattle.stmt_machine.specs.declared.frame.Loop.{Loop}
use Rattle.stmt_machine.specs.declared.frame.Loop.TheVariants as loop
use Rattle.stmt_machine.specs.Actions.{StmtAction, value_action, open_action, inline_action, echo_action, run_action, if_action, loop_action, do_action, break_action, continue_action, return_action, include_action, exit_action, function_action, parameter_action, function_body_action, function_end_action}

-- statements in a row with the height of the highest, where each is at most 200 high
abbrev pub Row : Type 0
Row = Option (PlainStmts × ℕ)

-- the row of statements
abbrev pub row_of : PlainStmts → Row
row_of ss = if nat_le (stmts_height ss) HEIGHT_LIMIT then Some (ss, stmts_height ss) else None

-- a body that is being read: whether it stands in a loop and in a function, and its statements so far
pub record PlainBody : Type 0 where
  pub in_loop : Bool
  pub in_function : Bool
  pub row : Row

-- the functions so far, with the height of the highest, where each is at most 200 high
abbrev pub Functions : Type 0
Functions = Option (List PlainFunction × ℕ)

-- What was made: the values, the last one first; the bodies that are open, the innermost first; the function whose parameters and body are
-- read, if one is; and the functions.
pub record Made : Type 0 where
  pub values : List PlainValue
  pub bodies : List PlainBody
  pub header : Option (List ℕ × List PlainParam)
  pub functions : Functions

-- at the beginning of a file
abbrev pub nothing_made : Made
nothing_made = record {
  values = [];
  bodies = record { in_loop = false; in_function = false; row = Some (no_stmts, 0) } ∷ [];
  header = None;
  functions = Some ([], 0);
}

-- the same with these values
abbrev pub with_values : List PlainValue → Made → Made
with_values vs m = record { values = vs; bodies = m.bodies; header = m.header; functions = m.functions }

-- the same with these open bodies
abbrev pub with_bodies : List PlainBody → Made → Made
with_bodies bs m = record { values = m.values; bodies = bs; header = m.header; functions = m.functions }

-- a body with these statements
abbrev pub with_row : Row → PlainBody → PlainBody
with_row r b = record { in_loop = b.in_loop; in_function = b.in_function; row = r }

-- statements and one more at the end
abbrev pub add_stmt : PlainStmts → PlainStmt → PlainStmts
add_stmt no_stmts s = more_stmts s no_stmts
add_stmt (more_stmts t ss) s = more_stmts t (add_stmt ss s)

-- a statement whose parts are at most so high, or one that is not kept
abbrev pub Node : Type 0
Node = Option (PlainStmt × ℕ)

-- a row with one more statement
abbrev pub add_node : Node → Row → Row
add_node (Some node) (Some row) = if nat_lt node.1 HEIGHT_LIMIT then Some (add_stmt row.0 node.0, max row.1 (node.1 + 1)) else None
add_node _ _ = None

-- the innermost body with one more statement
abbrev pub put_node : Node → List PlainBody → Made → Option Made
put_node n [] m = None
put_node n (b ∷ bs) m = Some (with_bodies (with_row (add_node n b.row) b ∷ bs) m)

-- the innermost body with one more statement; None where no body is open
abbrev pub put : Node → Made → Option Made
put n m = put_node n m.bodies m

-- a statement where a rule holds
abbrev pub put_if : Bool → Node → Made → Option Made
put_if true n m = put n m
put_if false n m = None

-- bodies off the stack, in the order in which they were read, and the others
abbrev pub take_bodies : ℕ → List Row → List PlainBody → Option (List Row × List PlainBody)
take_bodies zero row bs = Some (row, bs)
take_bodies (suc n) row [] = None
take_bodies (suc n) row (b ∷ bs) = take_bodies n (b.row ∷ row) bs

-- the arms of an `if` of their conditions and bodies, with the height of the highest part, where all are kept
abbrev pub add_arm : PlainValue → Row → Option (PlainArms × ℕ) → Option (PlainArms × ℕ)
add_arm (known_value e h) (Some row) (Some arms) = Some (more_arms e row.0 arms.0, max h (max row.1 arms.1))
add_arm _ _ _ = None

-- the arms of conditions and bodies in the same order; None where a part is not kept
abbrev pub gather_arms : List PlainValue → List Row → Option (PlainArms × ℕ)
gather_arms [] rows = Some (no_arms, 0)
gather_arms (c ∷ cs) [] = None
gather_arms (c ∷ cs) (row ∷ rows) = add_arm c row (gather_arms cs rows)

-- statements of their parts
abbrev pub echo_node : Option (PlainExprs × ℕ) → Node
echo_node None = None
echo_node (Some row) = Some (echo_stmt row.0, row.1)

-- an expression as a statement
abbrev pub run_node : PlainValue → Node
run_node (known_value e h) = Some (run_stmt e, h)
run_node _ = None

-- a `return` of a value
abbrev pub return_node : PlainValue → Node
return_node (known_value e h) = Some (return_stmt (some_expr e), h)
return_node _ = None

-- what `exit` prints: no status
abbrev pub quit_node : PlainValue → Node
quit_node (known_value e h) = if is_status e then Some (quit_stmt no_expr, 0) else Some (quit_stmt (some_expr e), h)
quit_node _ = None

-- an `if` of its arms and of the statements behind `else`
abbrev pub if_node : Option (PlainArms × ℕ) → Row → Node
if_node (Some arms) (Some row) = Some (if_stmt arms.0 row.0, max arms.1 row.1)
if_node _ _ = None

-- a `while` of its condition and its body
abbrev pub while_node : PlainValue → Row → Node
while_node (known_value e h) (Some row) = Some (while_stmt e row.0, max h row.1)
while_node _ _ = None

-- a `do` of its body and its condition
abbrev pub do_node : Row → PlainValue → Node
do_node (Some row) (known_value e h) = Some (do_while_stmt row.0 e, max row.1 h)
do_node _ _ = None

-- a `foreach` of its array, the variable of its key, if it has one, the variable of its value, and its body
abbrev pub each_node : PlainValue → Option (List ℕ) → List ℕ → Row → Node
each_node (known_value e h) k x (Some row) = Some (each_stmt e k x row.0, max h row.1)
each_node _ k x _ = None

-- the condition of a `for`, with its height
abbrev pub maybe_value : List PlainValue → Option (MaybeExpr × ℕ)
maybe_value [] = Some (no_expr, 0)
maybe_value (known_value e h ∷ []) = Some (some_expr e, h)
maybe_value _ = None

-- a `for` of its beginning, its condition, what stands behind each turn, and its body
abbrev pub for_node : Option (PlainExprs × ℕ) → Option (MaybeExpr × ℕ) → Option (PlainExprs × ℕ) → Row → Node
for_node (Some begin) (Some condition) (Some next) (Some row) =
    Some (for_stmt begin.0 condition.0 next.0 row.0, max begin.1 (max condition.1 (max next.1 row.1)))
for_node _ _ _ _ = None

-- what follows where there is something
abbrev pub on_some : {A B : Type 0} → Option A → (A → Option B) → Option B
on_some None next = None
on_some (Some a) next = next a

-- a new body, in a loop or as the one around it
abbrev pub open_body : Bool → List PlainBody → Made → Option Made
open_body l [] m = None
open_body l (b ∷ bs) m = Some (with_bodies (record {
  in_loop = if l then true else b.in_loop;
  in_function = b.in_function;
  row =
      Some (no_stmts, 0);
} ∷ b ∷ bs) m)

-- the last value
abbrev pub last_value : List PlainValue → Option (PlainValue × List PlainValue)
last_value [] = None
last_value (v ∷ vs) = Some (v, vs)

-- the innermost body and those around it
abbrev pub last_body : List PlainBody → Option (PlainBody × List PlainBody)
last_body [] = None
last_body (b ∷ bs) = Some (b, bs)

-- an `if` of so many arms, and of an `else`
abbrev pub put_if_stmt : ℕ → Row → List PlainBody → Made → Option Made
put_if_stmt n last bs m =
    on_some (take_bodies n [] bs) (λ bodies.
    on_some (take_values n [] m.values) (λ conditions.
    put (if_node (gather_arms conditions.0 bodies.0) last) (with_bodies bodies.1 (with_values conditions.1 m))))

-- an `if` of so many arms, with an `else` or without, from the bodies and conditions that were read last
abbrev pub apply_if : ℕ → Bool → Made → Option Made
apply_if n false m = put_if_stmt n (Some (no_stmts, 0)) m.bodies m
apply_if n true m = on_some (last_body m.bodies) (λ last. put_if_stmt n last.0.row last.1 m)

-- the end of a loop
abbrev pub apply_for : ℕ → Bool → ℕ → Row → Made → Option Made
apply_for b c n row m =
    on_some (take_values n [] m.values) (λ next.
    on_some (take_values (if c then 1 else 0) [] next.1) (λ condition.
    on_some (take_values b [] condition.1) (λ begin.
    put (for_node (gather_exprs begin.0) (maybe_value condition.0) (gather_exprs next.0) row) (with_values begin.1 m))))

-- the end of a loop whose body is this row, from the values that were read before it
abbrev pub apply_loop_body : Loop → Row → Made → Option Made
apply_loop_body loop.While row m = on_some (last_value m.values) (λ last. put (while_node last.0 row) (with_values last.1 m))
apply_loop_body (loop.For b c n) row m = apply_for b c n row m
apply_loop_body (loop.Each k x) row m =
    on_some (last_value m.values) (λ last. put_if (maybe_writable k && is_writable x) (each_node last.0 k x row) (with_values last.1 m))

-- the end of a loop: its body is the innermost one
abbrev pub apply_loop : Loop → Made → Option Made
apply_loop l m = on_some (last_body m.bodies) (λ last. apply_loop_body l last.0.row (with_bodies last.1 m))

-- the end of a `do`, from its body and its condition
abbrev pub apply_do : Made → Option Made
apply_do m =
    on_some (last_value m.values) (λ v.
    on_some (last_body m.bodies) (λ last. put (do_node last.0.row v.0) (with_bodies last.1 (with_values v.1 m))))

-- whether the innermost body stands in a loop, and in a function
abbrev pub stands_in_loop : List PlainBody → Bool
stands_in_loop [] = false
stands_in_loop (b ∷ bs) = b.in_loop

-- whether the innermost body stands in a function
abbrev pub stands_in_function : List PlainBody → Bool
stands_in_function [] = false
stands_in_function (b ∷ bs) = b.in_function

-- a `return`, with a value or without, which has to stand in a function
abbrev pub apply_return : Bool → Made → Option Made
apply_return false m = put_if (stands_in_function m.bodies) (Some (return_stmt no_expr, 0)) m
apply_return true m = on_some (last_value m.values) (λ last. put_if (stands_in_function m.bodies) (return_node last.0)
    (with_values last.1 m))

-- an `exit`, with an argument or without
abbrev pub apply_exit : Bool → Made → Option Made
apply_exit false m = put (Some (quit_stmt no_expr, 0)) m
apply_exit true m = on_some (last_value m.values) (λ last. put (quit_node last.0) (with_values last.1 m))

-- functions: the header, its parameters, its body and its end
abbrev pub with_header : Option (List ℕ × List PlainParam) → Made → Made
with_header h m = record { values = m.values; bodies = m.bodies; header = h; functions = m.functions }

-- parameters and one more at the end
abbrev pub add_param : List PlainParam → PlainParam → List PlainParam
add_param [] p = p ∷ []
add_param (q ∷ ps) p = q ∷ add_param ps p

-- one more parameter of the function that is being read: one that may be written, with a name of its own
abbrev pub apply_parameter : List ℕ → MaybeExpr → Option (List ℕ × List PlainParam) → Made → Option Made
apply_parameter x d None m = None
apply_parameter x d (Some header) m =
    if is_writable x && is_new_name x header.1 then Some (with_header (Some
    (header.0, add_param header.1 (record { name_of = x; default_of = d }))) m)
    else None

-- functions and one more at the end
abbrev pub add_function : List PlainFunction → PlainFunction → List PlainFunction
add_function [] f = f ∷ []
add_function (g ∷ fs) f = g ∷ add_function fs f

-- a function of its header and its body, with its name in lower case
abbrev pub function_of : List ℕ × List PlainParam → PlainStmts → PlainFunction
function_of header ss = record { name_of = str_to_ascii_lowercase header.0; params_of = header.1; body_of = ss }

-- the functions with one more, whose height is one more than that of its highest part
abbrev pub put_function : List ℕ × List PlainParam → Row → Functions → Functions
put_function header (Some row) (Some fs) =
    if nat_lt (max (params_height header.1) row.1) HEIGHT_LIMIT
    then Some (add_function fs.0 (function_of header row.0), max fs.1 (max (params_height header.1) row.1 + 1)) else None
put_function header _ _ = None

-- the end of the function that is being read: its body is the innermost one
abbrev pub end_function : Option (List ℕ × List PlainParam) → Made → Option Made
end_function None m = None
end_function (Some header) m =
    on_some (last_body m.bodies) (λ last. Some (record {
      values = m.values;
      bodies = last.1;
      header = None;
      functions =
          put_function header last.0.row m.functions;
    }))

-- what an action makes; nothing where it breaks a rule of the language
unfoldable pub apply_stmt : StmtAction → Made → Option Made
apply_stmt (value_action acts) m = on_some (execute acts m.values) (λ vs. Some (with_values vs m))
apply_stmt (open_action l) m = open_body l m.bodies m
apply_stmt (inline_action t) m = put (Some (inline_stmt t, 0)) m
apply_stmt (echo_action n) m = on_some (take_values n [] m.values) (λ row. put (echo_node (gather_exprs row.0)) (with_values row.1 m))
apply_stmt run_action m = on_some (last_value m.values) (λ last. put (run_node last.0) (with_values last.1 m))
apply_stmt (if_action n l) m = apply_if n l m
apply_stmt (loop_action l) m = apply_loop l m
apply_stmt do_action m = apply_do m
apply_stmt break_action m = put_if (stands_in_loop m.bodies) (Some (break_stmt, 0)) m
apply_stmt continue_action m = put_if (stands_in_loop m.bodies) (Some (continue_stmt, 0)) m
apply_stmt (return_action v) m = apply_return v m
apply_stmt (include_action t) m = put_if (is_utf8 t) (Some (include_stmt t, 0)) m
apply_stmt (exit_action v) m = apply_exit v m
apply_stmt (function_action f) m = Some (with_header (Some (f, [])) m)
apply_stmt (parameter_action x d) m = apply_parameter x d m.header m
apply_stmt function_body_action m =
    Some (with_bodies (record { in_loop = false; in_function = true; row = Some (no_stmts, 0) } ∷ m.bodies) m)
apply_stmt function_end_action m = end_function m.header m

-- the actions in turn
unfoldable pub execute_stmts : List StmtAction → Made → Option Made
execute_stmts [] m = Some m
execute_stmts (a ∷ acts) m = on_some (apply_stmt a m) (execute_stmts acts)

-- the tree of a file that was read, where it is at most 200 high
abbrev pub file_of_row : Row → Functions → Option PlainFile
file_of_row (Some row) (Some fs) =
    if nat_lt (max row.1 fs.1) HEIGHT_LIMIT then Some (record { body_of = row.0; functions_of = fs.0 }) else None
file_of_row _ _ = None

-- the tree of a file: the body that is left is that outside functions
abbrev pub file_of : Made → Option PlainFile
file_of m = on_some (last_body m.bodies) (λ last. file_of_row last.0.row m.functions)

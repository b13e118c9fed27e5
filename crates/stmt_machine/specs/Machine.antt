-- How the machine moves over the terminals of a file: from where it is, what it has begun, and what is left to read.
use Rattle.std.specs.Prelude.{ℕ, ◌+◌, ◌==◌, Bool, true, false, List, [], ◌∷◌, Option, Some, None, if◌then◌else◌}
use Rattle.php_syntax.specs.declared.token.Sign.{Sign}
use Rattle.php_syntax.specs.declared.token.Sign.TheVariants as sign
use Rattle.script_grammar.specs.declared.keyword.Keyword.{Keyword}
use Rattle.script_grammar.specs.declared.keyword.Keyword.TheVariants as word
use Rattle.php_syntax.specs.Trees.{PlainExpr, null_expr, flag_expr, int_expr, text_expr, neg_expr, no_expr, some_expr}
use Rattle.script_grammar.specs.Terminals.{Terminal, inline_terminal, variable_terminal, word_terminal, name_terminal, int_terminal, text_terminal, sign_terminal}
use Rattle.expr_machine.specs.Actions.{Action}
use Rattle.expr_machine.specs.Machine.{behind}
use Rattle.expr_machine.specs.Reading.{expr_at}
use Rattle.stmt_machine.specs.declared.frame.Loop.{Loop}
use Rattle.stmt_machine.specs.declared.frame.Loop.TheVariants as loop
use Rattle.stmt_machine.specs.declared.frame.Row.{Row}
use Rattle.stmt_machine.specs.declared.frame.Row.TheVariants as row
use Rattle.stmt_machine.specs.declared.frame.Focus.{Focus}
use Rattle.stmt_machine.specs.declared.frame.Focus.TheVariants as focus
use Rattle.stmt_machine.specs.declared.frame.Frame.{Frame}
use Rattle.stmt_machine.specs.declared.frame.Frame.TheVariants as frame
use Rattle.stmt_machine.specs.Actions.{StmtAction, value_action, open_action, inline_action, echo_action, run_action, if_action, loop_action, do_action, break_action, continue_action, return_action, include_action, exit_action, function_action, parameter_action, function_body_action, function_end_action}

-- A move leads to another place, with what is begun there and what is left to read, and does some actions; or the file is whole;
-- or no file goes on so.
pub data Move : Type 0 where
  moves : Focus → List Frame → List Terminal → List StmtAction → Move
  finished : Move
  stuck : Move

-- whether a colon, a semicolon or a closing bracket stands next
abbrev pub is_colon : Sign → Bool
is_colon sign.Colon = true
is_colon _ = false

-- whether a colon stands next
abbrev pub colon_next : List Terminal → Bool
colon_next (sign_terminal s ∷ r) = is_colon s
colon_next _ = false

-- whether the sign is a semicolon
abbrev pub is_semicolon : Sign → Bool
is_semicolon sign.Semicolon = true
is_semicolon _ = false

-- whether a semicolon stands next
abbrev pub semicolon_next : List Terminal → Bool
semicolon_next (sign_terminal s ∷ r) = is_semicolon s
semicolon_next _ = false

-- whether the sign is `)`
abbrev pub is_paren_end : Sign → Bool
is_paren_end sign.CloseParen = true
is_paren_end _ = false

-- whether `)` stands next
abbrev pub paren_end_next : List Terminal → Bool
paren_end_next (sign_terminal s ∷ r) = is_paren_end s
paren_end_next _ = false

-- an expression that the sign of a test has to follow, and what stands behind that sign
abbrev pub ended_by : (List Terminal → Bool) → Option (List Action × List Terminal) → Option (List Action × List Terminal)
ended_by test None = None
ended_by test (Some found) = if test found.1 then Some (found.0, behind found.1) else None

-- "(" e ")"
abbrev pub condition_at : List Terminal → Option (List Action × List Terminal)
condition_at (sign_terminal sign.OpenParen ∷ r) = ended_by paren_end_next (expr_at r)
condition_at _ = None

-- e ";"
abbrev pub statement_at : List Terminal → Option (List Action × List Terminal)
statement_at ts = ended_by semicolon_next (expr_at ts)

-- an expression as a statement, a print, and a return of a value
abbrev pub value_move : StmtAction → List Frame → Option (List Action × List Terminal) → Move
value_move a fs None = stuck
value_move a fs (Some found) = moves focus.Behind fs found.1 (value_action found.0 ∷ a ∷ [])

-- the first and each further expression of a row
abbrev pub listed_move : Row → ℕ → List Frame → Option (List Action × List Terminal) → Move
listed_move l n fs None = stuck
listed_move l n fs (Some found) = moves (focus.Listed l n) fs found.1 (value_action found.0 ∷ [])

-- an arm of an `if`, behind its condition
abbrev pub if_move : List Frame → Option (List Action × List Terminal) → Move
if_move fs None = stuck
if_move fs (Some found) =
    if colon_next found.1 then moves focus.Behind (frame.ColonArm 1 ∷ fs) (behind found.1) (value_action found.0 ∷ open_action false ∷ [])
    else moves focus.Begin (frame.Arm 1 ∷ fs) found.1 (value_action found.0 ∷ open_action false ∷ [])

-- the body of a loop, after some actions
abbrev pub body_move : Loop → List Frame → List Terminal → (List StmtAction → List StmtAction) → Move
body_move l fs ts before =
    if colon_next ts then moves focus.Behind (frame.ColonBody l ∷ fs) (behind ts) (before (open_action true ∷ []))
    else moves focus.Begin (frame.Body l ∷ fs) ts (before (open_action true ∷ []))

-- a `while` behind its condition
abbrev pub while_move : List Frame → Option (List Action × List Terminal) → Move
while_move fs None = stuck
while_move fs (Some found) = body_move loop.While fs found.1 (λ acts. value_action found.0 ∷ acts)

-- `foreach` behind its array
abbrev pub each_move : List Action → List Frame → List Terminal → Move
each_move acts fs (word_terminal word.As ∷ variable_terminal x ∷ sign_terminal sign.CloseParen ∷ r) =
    body_move (loop.Each None x) fs r (λ more. value_action acts ∷ more)
each_move acts fs (word_terminal word.As ∷ variable_terminal k ∷ sign_terminal sign.DoubleArrow ∷ variable_terminal x
    ∷ sign_terminal sign.CloseParen ∷ r) = body_move (loop.Each (Some k) x) fs r (λ more. value_action acts ∷ more)
each_move acts fs _ = stuck

-- a `foreach` behind its array expression
abbrev pub foreach_move : List Frame → Option (List Action × List Terminal) → Move
foreach_move fs None = stuck
foreach_move fs (Some found) = each_move found.0 fs found.1

-- what stands behind an opening bracket, and behind a semicolon
abbrev pub behind_paren : List Terminal → Option (List Terminal)
behind_paren (sign_terminal sign.OpenParen ∷ r) = Some r
behind_paren _ = None

-- a `foreach` behind its word, where a bracket has to stand and its array behind it
abbrev pub foreach_begin_move : List Frame → Option (List Terminal) → Move
foreach_begin_move fs None = stuck
foreach_begin_move fs (Some r) = foreach_move fs (expr_at r)

-- a `for` behind its word, where a bracket has to stand
abbrev pub for_begin_move : List Frame → Option (List Terminal) → Move
for_begin_move fs None = stuck
for_begin_move fs (Some r) = moves (focus.Start row.Begin) fs r []

-- a word and its semicolon
abbrev pub jump_move : StmtAction → List Frame → List Terminal → Move
jump_move a fs ts = if semicolon_next ts then moves focus.Behind fs (behind ts) (a ∷ []) else stuck

-- behind `return`: a semicolon, or an expression and a semicolon
abbrev pub return_move : List Frame → List Terminal → Move
return_move fs ts = if semicolon_next ts then moves focus.Behind fs (behind ts) (return_action false ∷ [])
    else value_move (return_action true) fs (statement_at ts)

-- behind `include` or `require`: a text, in brackets or not, and a semicolon
abbrev pub include_move : List Frame → List Terminal → Move
include_move fs (text_terminal t ∷ r) = jump_move (include_action t) fs r
include_move fs (sign_terminal sign.OpenParen ∷ text_terminal t ∷ sign_terminal sign.CloseParen ∷ r) = jump_move (include_action t) fs r
include_move fs _ = stuck

-- `exit` behind its opening bracket
abbrev pub argument_at : List Terminal → Option (List Action × List Terminal)
argument_at ts = ended_by semicolon_next (ended_by paren_end_next (expr_at ts))

-- behind `exit (`: the closing bracket at once, or an expression before it, and a semicolon
abbrev pub exit_parens_move : List Frame → List Terminal → Move
exit_parens_move fs ts = if paren_end_next ts then jump_move (exit_action false) fs (behind ts)
    else value_move (exit_action true) fs (argument_at ts)

-- behind `exit` or `die`: brackets, or a semicolon at once
abbrev pub exit_move : List Frame → List Terminal → Move
exit_move fs (sign_terminal sign.OpenParen ∷ r) = exit_parens_move fs r
exit_move fs ts = jump_move (exit_action false) fs ts

-- a statement that begins with a keyword
abbrev pub word_move : Keyword → List Frame → List Terminal → Move
word_move word.Echo fs r = listed_move row.Echo 1 fs (expr_at r)
word_move word.Print fs r = value_move (echo_action 1) fs (statement_at r)
word_move word.If fs r = if_move fs (condition_at r)
word_move word.While fs r = while_move fs (condition_at r)
word_move word.Do fs r = moves focus.Begin (frame.Do ∷ fs) r (open_action true ∷ [])
word_move word.For fs r = for_begin_move fs (behind_paren r)
word_move word.Foreach fs r = foreach_begin_move fs (behind_paren r)
word_move word.Break fs r = jump_move break_action fs r
word_move word.Continue fs r = jump_move continue_action fs r
word_move word.Return fs r = return_move fs r
word_move word.Include fs r = include_move fs r
word_move word.Require fs r = include_move fs r
word_move word.Exit fs r = exit_move fs r
word_move k fs r = value_move run_action fs (statement_at (word_terminal k ∷ r))

-- a statement that begins with a sign: an empty one, a block, or an expression
abbrev pub sign_move : Sign → List Frame → List Terminal → Move
sign_move sign.Semicolon fs r = moves focus.Behind fs r []
sign_move sign.OpenBrace fs r = moves focus.Behind (frame.Block ∷ fs) r []
sign_move s fs r = value_move run_action fs (statement_at (sign_terminal s ∷ r))

-- where a statement begins
abbrev pub begin_move : List Frame → List Terminal → Move
begin_move fs (inline_terminal t ∷ r) = moves focus.Behind fs r (inline_action t ∷ [])
begin_move fs (sign_terminal s ∷ r) = sign_move s fs r
begin_move fs (word_terminal k ∷ r) = word_move k fs r
begin_move fs ts = value_move run_action fs (statement_at ts)

-- whether a row ends next
abbrev pub row_end_next : Row → List Terminal → Bool
row_end_next row.Echo ts = semicolon_next ts
row_end_next row.Begin ts = semicolon_next ts
row_end_next (row.Next n c) ts = paren_end_next ts

-- where a row that may be empty begins
abbrev pub start_move : Row → List Frame → List Terminal → Move
start_move l fs ts = if row_end_next l ts then moves (focus.Listed l 0) fs ts [] else listed_move l 1 fs (expr_at ts)

-- behind the end of a row of so many expressions
abbrev pub row_end_move : Row → ℕ → List Frame → List Terminal → Move
row_end_move row.Echo n fs r = moves focus.Behind fs r (echo_action n ∷ [])
row_end_move row.Begin n fs r = moves (focus.Condition n) fs r []
row_end_move (row.Next b c) n fs r = body_move (loop.For b c n) fs r (λ acts. acts)

-- one more expression, where there is one before
abbrev pub more_move : Row → ℕ → List Frame → List Terminal → Move
more_move l n fs (sign_terminal sign.Comma ∷ r) = if n == 0 then stuck else listed_move l (n + 1) fs (expr_at r)
more_move l n fs _ = stuck

-- behind so many expressions of a row: its end, or a comma and one more
abbrev pub row_move : Row → ℕ → List Frame → List Terminal → Move
row_move l n fs ts = if row_end_next l ts then row_end_move l n fs (behind ts) else more_move l n fs ts

-- the condition of a `for`
abbrev pub for_condition_move : ℕ → List Frame → Option (List Action × List Terminal) → Move
for_condition_move n fs None = stuck
for_condition_move n fs (Some found) = moves (focus.Start (row.Next n true)) fs found.1 (value_action found.0 ∷ [])

-- a `for` behind the expressions of its beginning, which are so many: no condition, or one, and a semicolon
abbrev pub condition_move : ℕ → List Frame → List Terminal → Move
condition_move n fs ts = if semicolon_next ts then moves (focus.Start (row.Next n false)) fs (behind ts) []
    else for_condition_move n fs (statement_at ts)

-- a literal of one terminal
abbrev pub literal_word : Keyword → Option PlainExpr
literal_word word.True = Some (flag_expr true)
literal_word word.False = Some (flag_expr false)
literal_word word.Null = Some null_expr
literal_word _ = None

-- the literal that a terminal is, if it is one
abbrev pub literal_at : Terminal → Option PlainExpr
literal_at (int_terminal z) = Some (int_expr z)
literal_at (text_terminal t) = Some (text_expr t)
literal_at (word_terminal k) = literal_word k
literal_at _ = None

-- a parameter with this default; stuck, where it is no literal
abbrev pub default_move : List ℕ → Option PlainExpr → List Frame → List Terminal → Move
default_move x None fs r = stuck
default_move x (Some e) fs r = moves focus.BehindParameter fs r (parameter_action x (some_expr e) ∷ [])

-- a parameter with its default or without
abbrev pub parameter_move : List Frame → List Terminal → Move
parameter_move fs (variable_terminal x ∷ sign_terminal sign.Assign ∷ sign_terminal sign.Minus ∷ int_terminal z ∷ r) =
    default_move x (Some (neg_expr (int_expr z))) fs r
parameter_move fs (variable_terminal x ∷ sign_terminal sign.Assign ∷ t ∷ r) = default_move x (literal_at t) fs r
parameter_move fs (variable_terminal x ∷ r) = moves focus.BehindParameter fs r (parameter_action x no_expr ∷ [])
parameter_move fs _ = stuck

-- the end of the parameters and the brace behind it
abbrev pub function_body_move : List Frame → List Terminal → Move
function_body_move fs (sign_terminal sign.OpenBrace ∷ r) = moves focus.Behind (frame.Function ∷ fs) r (function_body_action ∷ [])
function_body_move fs _ = stuck

-- behind the `(` of a function: `)` at once, or the first parameter
abbrev pub parameters_move : List Frame → List Terminal → Move
parameters_move fs (sign_terminal sign.CloseParen ∷ r) = function_body_move fs r
parameters_move fs ts = moves focus.Parameter fs ts []

-- behind a parameter: `)`, or a comma and the next parameter
abbrev pub parameter_end_move : List Frame → List Terminal → Move
parameter_end_move fs (sign_terminal sign.CloseParen ∷ r) = function_body_move fs r
parameter_end_move fs (sign_terminal sign.Comma ∷ r) = moves focus.Parameter fs r []
parameter_end_move fs _ = stuck

-- between the parts of a file
abbrev pub function_move : List Terminal → Move
function_move (name_terminal f ∷ sign_terminal sign.OpenParen ∷ r) = moves focus.Parameters [] r (function_action f ∷ [])
function_move _ = stuck

-- between the parts of a file: its end, a function, or a statement
abbrev pub part_move : List Terminal → Move
part_move [] = finished
part_move (word_terminal word.Function ∷ r) = function_move r
part_move ts = moves focus.Begin [] ts []

-- behind the statement of an arm: `elseif`, `else if` (one more arm, or an `else` with an `if` in the form with `:`), `else`, or the end
abbrev pub elseif_move : ℕ → List Frame → Option (List Action × List Terminal) → Move
elseif_move n fs None = stuck
elseif_move n fs (Some found) = moves focus.Begin (frame.Arm (n + 1) ∷ fs) found.1 (value_action found.0 ∷ open_action false ∷ [])

-- `else if` behind so many arms and behind its condition: one more arm; with a colon there an `else` whose statement is an `if` with `:`
abbrev pub else_if_move : ℕ → List Frame → Option (List Action × List Terminal) → Move
else_if_move n fs None = stuck
else_if_move n fs (Some found) =
    if colon_next found.1 then moves focus.Behind (frame.ColonArm 1 ∷ frame.Else n ∷ fs) (behind found.1)
    (open_action false ∷ value_action found.0 ∷ open_action false ∷ [])
    else moves focus.Begin (frame.Arm (n + 1) ∷ fs) found.1 (open_action false ∷ value_action found.0 ∷ [])

-- behind the `else` of an `if` of so many arms
abbrev pub else_move : ℕ → List Frame → List Terminal → Move
else_move n fs (word_terminal word.If ∷ r) = else_if_move n fs (condition_at r)
else_move n fs ts = moves focus.Begin (frame.Else n ∷ fs) ts (open_action false ∷ [])

-- behind the statement of the last of so many arms
abbrev pub arm_move : ℕ → List Frame → List Terminal → Move
arm_move n fs (word_terminal word.ElseIf ∷ r) = elseif_move n fs (condition_at r)
arm_move n fs (word_terminal word.Else ∷ r) = else_move n fs r
arm_move n fs ts = moves focus.Behind fs ts (if_action n false ∷ [])

-- the same in the form with `:`
abbrev pub colon_elseif_move : ℕ → List Frame → Option (List Action × List Terminal) → Move
colon_elseif_move n fs None = stuck
colon_elseif_move n fs (Some found) =
    if colon_next found.1 then moves focus.Behind (frame.ColonArm (n + 1) ∷ fs) (behind found.1)
    (value_action found.0 ∷ open_action false ∷ [])
    else stuck

-- behind the `else` of an `if` of so many arms in the form with `:`, where a colon has to stand
abbrev pub colon_else_move : ℕ → List Frame → List Terminal → Move
colon_else_move n fs ts = if colon_next ts then moves focus.Behind (frame.ColonElse n ∷ fs) (behind ts) (open_action false ∷ []) else stuck

-- behind a statement, or none, of the last of so many arms in the form with `:`
abbrev pub colon_arm_move : ℕ → List Frame → List Terminal → Move
colon_arm_move n fs (word_terminal word.ElseIf ∷ r) = colon_elseif_move n fs (condition_at r)
colon_arm_move n fs (word_terminal word.Else ∷ r) = colon_else_move n fs r
colon_arm_move n fs (word_terminal word.EndIf ∷ r) = jump_move (if_action n false) fs r
colon_arm_move n fs ts = moves focus.Begin (frame.ColonArm n ∷ fs) ts []

-- behind a statement, or none, of the `else` in the form with `:`
abbrev pub colon_else_end_move : ℕ → List Frame → List Terminal → Move
colon_else_end_move n fs (word_terminal word.EndIf ∷ r) = jump_move (if_action n true) fs r
colon_else_end_move n fs ts = moves focus.Begin (frame.ColonElse n ∷ fs) ts []

-- the word that ends a loop
abbrev pub ends_loop : Loop → Keyword → Bool
ends_loop loop.While word.EndWhile = true
ends_loop (loop.For b c n) word.EndFor = true
ends_loop (loop.Each k x) word.EndForeach = true
ends_loop _ _ = false

-- behind a statement, or none, of a loop's body in the form with `:`
abbrev pub colon_body_move : Loop → List Frame → List Terminal → Move
colon_body_move l fs (word_terminal k ∷ r) =
    if ends_loop l k then jump_move (loop_action l) fs r
    else moves focus.Begin (frame.ColonBody l ∷ fs) (word_terminal k ∷ r) []
colon_body_move l fs ts = moves focus.Begin (frame.ColonBody l ∷ fs) ts []

-- `while` behind the body of a `do`
abbrev pub do_end_move : List Frame → Option (List Action × List Terminal) → Move
do_end_move fs None = stuck
do_end_move fs (Some found) =
    if semicolon_next found.1 then moves focus.Behind fs (behind found.1) (value_action found.0 ∷ do_action ∷ [])
    else stuck

-- behind the body of a `do`, where `while` has to stand
abbrev pub do_move : List Frame → List Terminal → Move
do_move fs (word_terminal word.While ∷ r) = do_end_move fs (condition_at r)
do_move fs _ = stuck

-- inside braces
abbrev pub block_move : List Frame → List Terminal → Move
block_move fs (sign_terminal sign.CloseBrace ∷ r) = moves focus.Behind fs r []
block_move fs ts = moves focus.Begin (frame.Block ∷ fs) ts []

-- behind a statement, or none, of a function's body
abbrev pub function_end_move : List Frame → List Terminal → Move
function_end_move fs (sign_terminal sign.CloseBrace ∷ r) = moves focus.Behind fs r (function_end_action ∷ [])
function_end_move fs ts = moves focus.Begin (frame.Function ∷ fs) ts []

-- behind a statement
abbrev pub behind_move : List Frame → List Terminal → Move
behind_move [] ts = part_move ts
behind_move (frame.Block ∷ fs) ts = block_move fs ts
behind_move (frame.Arm n ∷ fs) ts = arm_move n fs ts
behind_move (frame.Else n ∷ fs) ts = moves focus.Behind fs ts (if_action n true ∷ [])
behind_move (frame.ColonArm n ∷ fs) ts = colon_arm_move n fs ts
behind_move (frame.ColonElse n ∷ fs) ts = colon_else_end_move n fs ts
behind_move (frame.Body l ∷ fs) ts = moves focus.Behind fs ts (loop_action l ∷ [])
behind_move (frame.ColonBody l ∷ fs) ts = colon_body_move l fs ts
behind_move (frame.Do ∷ fs) ts = do_move fs ts
behind_move (frame.Function ∷ fs) ts = function_end_move fs ts

-- one move
unfoldable pub move : Focus → List Frame → List Terminal → Move
move focus.Begin fs ts = begin_move fs ts
move focus.Behind fs ts = behind_move fs ts
move (focus.Start l) fs ts = start_move l fs ts
move (focus.Listed l n) fs ts = row_move l n fs ts
move (focus.Condition n) fs ts = condition_move n fs ts
move focus.Parameters fs ts = parameters_move fs ts
move focus.Parameter fs ts = parameter_move fs ts
move focus.BehindParameter fs ts = parameter_end_move fs ts

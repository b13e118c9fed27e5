-- How the machine moves over the terminals of an expression: from where it is, what it has begun, and what is left to read.
use Rattle.std.specs.Prelude.{ℕ, ◌+◌, ◌==◌, ◌&&◌, Bool, true, false, List, [], ◌∷◌, Option, Some, None, codes, if◌then◌else◌}
use Rattle.std.specs.Str.{str_eq_ignore_ascii_case}
use Rattle.php_syntax.specs.declared.token.Sign.{Sign}
use Rattle.php_syntax.specs.declared.token.Sign.TheVariants as sign
use Rattle.script_grammar.specs.declared.keyword.Keyword.{Keyword}
use Rattle.script_grammar.specs.declared.keyword.Keyword.TheVariants as word
use Rattle.script_grammar.specs.declared.operator.Level.{Level}
use Rattle.script_grammar.specs.declared.operator.Level.TheVariants as level
use Rattle.script_grammar.specs.declared.operator.Operator.{Operator}
use Rattle.script_grammar.specs.declared.operator.Prefix.{Prefix}
use Rattle.php_syntax.specs.declared.tree.UpdateSign.{UpdateSign}
use Rattle.php_syntax.specs.Trees.{PlainExpr, int_expr, text_expr}
use Rattle.script_grammar.specs.Operators.{repeats, binary_operator, prefix_operator, update_sign, step_sign}
pub use Rattle.script_grammar.specs.Operators.{level_rank}
use Rattle.script_grammar.specs.Terminals.{Terminal, variable_terminal, word_terminal, name_terminal, int_terminal, text_terminal, template_terminal, sign_terminal, same_bytes}
use Rattle.script_grammar.specs.Expressions.{constant_of, is_escape}
use Rattle.expr_machine.specs.declared.frame.Brackets.{Brackets}
use Rattle.expr_machine.specs.declared.frame.Brackets.TheVariants as brackets
use Rattle.expr_machine.specs.declared.frame.Focus.{Focus}
use Rattle.expr_machine.specs.declared.frame.Focus.TheVariants as focus
use Rattle.expr_machine.specs.declared.frame.Frame.{Frame}
use Rattle.expr_machine.specs.declared.frame.Frame.TheVariants as frame
use Rattle.expr_machine.specs.Actions.{Action, leaf_action, absent_action, unkeyed_action, prefix_action, binary_action, join_action, coalesce_action, short_choice_action, full_choice_action, member_action, read_action, assign_action, update_action, step_action, isset_action, empty_action, array_action, call_action, template_actions}

-- A move leads to another place, with what is begun there and what is left to read, and does some actions; or the expression is whole;
-- or no expression goes on so.
pub data Move : Type 0 where
  moves : Focus → List Frame → List Terminal → List Action → Move
  finished : Move
  stuck : Move

-- where a whole chain of a level leads: it is an operand of the next looser level
abbrev pub looser : Level → Focus
looser level.Product = focus.Operand level.Sum
looser level.Sum = focus.Operand level.Join
looser level.Join = focus.Operand level.Order
looser level.Order = focus.Operand level.Equality
looser level.Equality = focus.Operand level.And
looser level.And = focus.Operand level.Or
looser level.Or = focus.Chain

-- how loose a value the last thing begun waits for: 0 is a unary operand, 1 to 7 an operand of that level, 8 a chain of `??`, 10 an
-- expression
abbrev pub wanted_rank : List Frame → ℕ
wanted_rank (frame.Prefix p ∷ fs) = 0
wanted_rank (frame.Operator l o ∷ fs) = level_rank l
wanted_rank (frame.Join n ∷ fs) = 3
wanted_rank (frame.Coalesce ∷ fs) = 8
wanted_rank (frame.ShortChoice ∷ fs) = 8
wanted_rank (frame.FullChoice ∷ fs) = 8
wanted_rank _ = 10

-- whether a sign closes the brackets of an array
abbrev pub closes : Brackets → Sign → Bool
closes brackets.Round sign.CloseParen = true
closes brackets.Square sign.CloseBracket = true
closes _ _ = false

-- whether the brackets of an array are closed next
abbrev pub closed_next : Brackets → List Terminal → Bool
closed_next b (sign_terminal s ∷ r) = closes b s
closed_next b _ = false

-- what stands behind the first terminal
abbrev pub behind : List Terminal → List Terminal
behind [] = []
behind (t ∷ r) = r

-- the first item of an array, or its end
abbrev pub array_move : Brackets → List Frame → List Terminal → Move
array_move b fs ts =
    if closed_next b ts then moves focus.Unary fs (behind ts) (array_action 0 ∷ [])
    else moves focus.Begin (frame.Item b 0 ∷ fs) ts []

-- a keyword that begins an operand
abbrev pub keyword_move : Keyword → List Frame → List Terminal → Move
keyword_move word.Isset fs (sign_terminal sign.OpenParen ∷ r) = moves focus.Begin (frame.Isset 0 ∷ fs) r []
keyword_move word.Empty fs (sign_terminal sign.OpenParen ∷ r) = moves focus.Begin (frame.Empty ∷ fs) r []
keyword_move word.Array fs (sign_terminal sign.OpenParen ∷ r) = array_move brackets.Round fs r
keyword_move _ fs ts = stuck

-- a keyword where an operand begins: a constant's value, or what `isset`, `empty` and `array` begin
abbrev pub word_move : Option PlainExpr → Keyword → List Frame → List Terminal → Move
word_move (Some e) k fs ts = moves focus.Unary fs ts (leaf_action e ∷ [])
word_move None k fs ts = keyword_move k fs ts

-- the name of a function, which brackets have to follow
abbrev pub call_move : List ℕ → List Frame → List Terminal → Move
call_move f fs (sign_terminal sign.OpenParen ∷ sign_terminal sign.CloseParen ∷ r) = moves focus.Subscripted fs r (call_action f 0 ∷ [])
call_move f fs (sign_terminal sign.OpenParen ∷ r) = moves focus.Begin (frame.Argument f 0 ∷ fs) r []
call_move f fs ts = stuck

-- `++` or `--`, which a variable has to follow
abbrev pub step_move : Bool → List Frame → List Terminal → Move
step_move up fs (variable_terminal x ∷ r) = moves focus.Unary fs r (step_action x up true ∷ [])
step_move up fs ts = stuck

-- an opening bracket where an operand begins: `(` an expression in brackets, `[` an array
abbrev pub bracket_move : Sign → List Frame → List Terminal → Move
bracket_move sign.OpenParen fs ts = moves focus.Begin (frame.Parens ∷ fs) ts []
bracket_move sign.OpenBracket fs ts = array_move brackets.Square fs ts
bracket_move _ fs ts = stuck

-- a sign where an operand begins: a prefix operator, `++` or `--`, or an opening bracket
abbrev pub sign_move : Option Prefix → Option Bool → Sign → List Frame → List Terminal → Move
sign_move (Some p) up s fs ts = moves focus.Begin (frame.Prefix p ∷ fs) ts []
sign_move None (Some up) s fs ts = step_move up fs ts
sign_move None None s fs ts = bracket_move s fs ts

-- where an expression or an operand begins
abbrev pub begin_move : List Frame → List Terminal → Move
begin_move fs (variable_terminal x ∷ r) = moves (focus.Place x 0 false) fs r []
begin_move fs (int_terminal z ∷ r) = moves focus.Unary fs r (leaf_action (int_expr z) ∷ [])
begin_move fs (text_terminal t ∷ r) = moves focus.Unary fs r (leaf_action (text_expr t) ∷ [])
begin_move fs (template_terminal ps ∷ r) = moves focus.Unary fs r (template_actions ps [])
begin_move fs (word_terminal k ∷ r) = word_move (constant_of k) k fs r
begin_move fs (name_terminal f ∷ r) = call_move f fs r
begin_move fs (sign_terminal s ∷ r) = sign_move (prefix_operator s) (step_sign s) s fs r
begin_move fs _ = stuck

-- a variable with keys that nothing goes on with is an operand, where no key is left out
abbrev pub operand_move : List ℕ → ℕ → Bool → List Frame → List Terminal → Move
operand_move x n true fs ts = stuck
operand_move x n false fs ts = moves focus.Unary fs ts (read_action x n ∷ [])

-- `[` behind a variable: a key, or none
abbrev pub key_move : List ℕ → ℕ → Bool → List Frame → List Terminal → Move
key_move x n gap fs (sign_terminal sign.CloseBracket ∷ r) = moves (focus.Place x (n + 1) true) fs r (absent_action ∷ [])
key_move x n gap fs ts = moves focus.Begin (frame.Key x n gap ∷ fs) ts []

-- Behind a variable and its keys: one more key; where a whole expression is wanted an assignment; `++` and `--` where there is no key.
abbrev pub updated_move : Option UpdateSign → Option Bool → List ℕ → ℕ → Bool → List Frame → Sign → List Terminal → Move
updated_move (Some u) up x n gap fs s r =
    if wanted_rank fs == 10 then moves focus.Begin (frame.Update u x n ∷ fs) r []
    else operand_move x n gap fs (sign_terminal s ∷ r)
updated_move None (Some up) x n gap fs s r =
    if n == 0 then moves focus.Unary fs r (step_action x up false ∷ [])
    else operand_move x n gap fs (sign_terminal s ∷ r)
updated_move None None x n gap fs s r = operand_move x n gap fs (sign_terminal s ∷ r)

-- behind a variable and so many keys, at a sign: one more key, an assignment where a whole expression is wanted, or the rest
abbrev pub placed_move : List ℕ → ℕ → Bool → List Frame → Sign → List Terminal → Move
placed_move x n gap fs sign.OpenBracket r = key_move x n gap fs r
placed_move x n gap fs sign.Assign r =
    if wanted_rank fs == 10 then moves focus.Begin (frame.Assign x n ∷ fs) r []
    else operand_move x n gap fs (sign_terminal sign.Assign ∷ r)
placed_move x n gap fs s r = updated_move (update_sign s) (step_sign s) x n gap fs s r

-- behind a variable and so many keys; `gap` says whether one of them is left out
abbrev pub place_move : List ℕ → ℕ → Bool → List Frame → List Terminal → Move
place_move x n gap fs (sign_terminal s ∷ r) = placed_move x n gap fs s r
place_move x n gap fs ts = operand_move x n gap fs ts

-- behind a value that subscripts may follow
abbrev pub subscripted_move : List Frame → List Terminal → Move
subscripted_move fs (sign_terminal sign.OpenBracket ∷ r) = moves focus.Begin (frame.Subscript ∷ fs) r []
subscripted_move fs ts = moves focus.Unary fs ts []

-- behind a unary operand
abbrev pub unary_move : List Frame → List Terminal → Move
unary_move (frame.Prefix p ∷ fs) ts = moves focus.Unary fs ts (prefix_action p ∷ [])
unary_move fs ts = moves (focus.Operand level.Product) fs ts []

-- the operator of a level, if one stands next
abbrev pub of_level : Level → Option (Level × Operator) → Option Operator
of_level l None = None
of_level l (Some (m, o)) = if level_rank m == level_rank l then Some o else None

-- the operator of this level that stands next, if one does
abbrev pub operator_next : Level → List Terminal → Option Operator
operator_next l (sign_terminal s ∷ r) = of_level l (binary_operator s)
operator_next l _ = None

-- behind an operand that begins a chain of its level, or goes on with one that leans left
abbrev pub begun_frame : Level → Operator → Frame
begun_frame level.Join o = frame.Join 1
begun_frame l o = frame.Operator l o

-- behind an operand that begins a chain of its level: an operator that begins it, or none, so that the operand is the chain
abbrev pub chain_move : Option Operator → Level → List Frame → List Terminal → Move
chain_move (Some o) l fs ts = moves focus.Begin (begun_frame l o ∷ fs) (behind ts) []
chain_move None l fs ts = moves (looser l) fs ts []

-- behind the last operand so far of a chain of `.`
abbrev pub join_move : Option Operator → ℕ → List Frame → List Terminal → Move
join_move (Some o) n fs ts = moves focus.Begin (frame.Join (n + 1) ∷ fs) (behind ts) []
join_move None n fs ts = moves (looser level.Join) fs ts (join_action (n + 1) ∷ [])

-- behind the right operand of an operator
abbrev pub right_move : Level → List Frame → List Terminal → Move
right_move l (frame.Operator m o ∷ fs) ts = moves (if repeats m then focus.Operand m else looser m) fs ts (binary_action o ∷ [])
right_move l (frame.Join n ∷ fs) ts = join_move (operator_next level.Join ts) n fs ts
right_move l fs ts = stuck

-- behind an operand of a level
abbrev pub level_move : Level → List Frame → List Terminal → Move
level_move l fs ts = if wanted_rank fs == level_rank l then right_move l fs ts else chain_move (operator_next l ts) l fs ts

-- behind a chain of `||`
abbrev pub coalesce_move : List Frame → List Terminal → Move
coalesce_move fs (sign_terminal sign.Coalesce ∷ r) = moves focus.Begin (frame.Coalesce ∷ fs) r []
coalesce_move fs ts = moves focus.Coalesced fs ts []

-- behind a condition
abbrev pub question_move : List Frame → List Terminal → Move
question_move fs (sign_terminal sign.Question ∷ sign_terminal sign.Colon ∷ r) = moves focus.Begin (frame.ShortChoice ∷ fs) r []
question_move fs (sign_terminal sign.Question ∷ r) = moves focus.Begin (frame.Middle ∷ fs) r []
question_move fs ts = moves focus.Whole fs ts []

-- behind a chain of `??`
abbrev pub choice_move : List Frame → List Terminal → Move
choice_move (frame.Coalesce ∷ fs) ts = moves focus.Coalesced fs ts (coalesce_action ∷ [])
choice_move (frame.ShortChoice ∷ fs) ts = moves focus.Whole fs ts (short_choice_action ∷ [])
choice_move (frame.FullChoice ∷ fs) ts = moves focus.Whole fs ts (full_choice_action ∷ [])
choice_move fs ts = question_move fs ts

-- what stands behind `, ENT_QUOTES )` or `, ENT_QUOTES , 'UTF-8' )`, if that stands next
abbrev pub behind_charset : List ℕ → List Terminal → Option (List Terminal)
behind_charset t r = if str_eq_ignore_ascii_case t (codes "UTF-8") then Some r else None

-- what stands behind the further arguments of `htmlspecialchars` and the closing bracket, if these stand next
abbrev pub behind_quotes : List Terminal → Option (List Terminal)
behind_quotes (sign_terminal sign.Comma ∷ name_terminal q ∷ sign_terminal sign.CloseParen ∷ r) =
    if same_bytes q (codes "ENT_QUOTES") then Some r else None
behind_quotes (sign_terminal sign.Comma ∷ name_terminal q ∷ sign_terminal sign.Comma ∷ text_terminal t ∷ sign_terminal sign.CloseParen
    ∷ r) = if same_bytes q (codes "ENT_QUOTES") then behind_charset t r else None
behind_quotes _ = None

-- behind an argument of a call
abbrev pub next_argument_move : List ℕ → ℕ → List Frame → List Terminal → Move
next_argument_move f n fs (sign_terminal sign.CloseParen ∷ r) = moves focus.Subscripted fs r (call_action f (n + 1) ∷ [])
next_argument_move f n fs (sign_terminal sign.Comma ∷ r) = moves focus.Begin (frame.Argument f (n + 1) ∷ fs) r []
next_argument_move f n fs _ = stuck

-- behind the text of `htmlspecialchars`: with its further arguments the call is whole and has the text alone
abbrev pub escape_move : Option (List Terminal) → List ℕ → ℕ → List Frame → List Terminal → Move
escape_move (Some r) f n fs ts = moves focus.Subscripted fs r (call_action f 1 ∷ [])
escape_move None f n fs ts = next_argument_move f n fs ts

-- behind an argument of a call, before which there are so many
abbrev pub argument_move : List ℕ → ℕ → List Frame → List Terminal → Move
argument_move f n fs ts = escape_move (if is_escape f && n == 0 then behind_quotes ts else None) f n fs ts

-- what an item of an array does, before other actions: without a key its value is the only one
abbrev pub item_actions : Bool → List Action → List Action
item_actions true r = r
item_actions false r = unkeyed_action ∷ r

-- behind an item of an array: its end, with a comma before it or not, or the next item
abbrev pub next_item_move : Brackets → Bool → ℕ → List Frame → List Terminal → Move
next_item_move b keyed n fs (sign_terminal sign.Comma ∷ r) =
    if closed_next b r then moves focus.Unary fs (behind r) (item_actions keyed (array_action (n + 1) ∷ []))
    else moves focus.Begin (frame.Item b (n + 1) ∷ fs) r (item_actions keyed [])
next_item_move b keyed n fs ts = stuck

-- behind a whole item of an array, before which there are so many: the end at once, or a comma
abbrev pub item_end_move : Brackets → Bool → ℕ → List Frame → List Terminal → Move
item_end_move b keyed n fs ts =
    if closed_next b ts then moves focus.Unary fs (behind ts) (item_actions keyed (array_action (n + 1) ∷ []))
    else next_item_move b keyed n fs ts

-- behind an item of an array or its key: `=>`, and else it was the item
abbrev pub item_move : Brackets → ℕ → List Frame → List Terminal → Move
item_move b n fs (sign_terminal sign.DoubleArrow ∷ r) = moves focus.Begin (frame.KeyedItem b n ∷ fs) r []
item_move b n fs ts = item_end_move b false n fs ts

-- behind an operand of `isset`
abbrev pub isset_move : ℕ → List Frame → List Terminal → Move
isset_move n fs (sign_terminal sign.CloseParen ∷ r) = moves focus.Unary fs r (isset_action (n + 1) ∷ [])
isset_move n fs (sign_terminal sign.Comma ∷ r) = moves focus.Begin (frame.Isset (n + 1) ∷ fs) r []
isset_move n fs _ = stuck

-- behind a key in brackets
abbrev pub key_end_move : List ℕ → ℕ → Bool → List Frame → List Terminal → Move
key_end_move x n gap fs (sign_terminal sign.CloseBracket ∷ r) = moves (focus.Place x (n + 1) gap) fs r []
key_end_move x n gap fs _ = stuck

-- behind a value in brackets, which the sign has to close
abbrev pub subscript_end_move : List Frame → List Terminal → Move
subscript_end_move fs (sign_terminal sign.CloseBracket ∷ r) = moves focus.Subscripted fs r (member_action ∷ [])
subscript_end_move fs _ = stuck

-- behind an expression in round brackets, which subscripts may follow
abbrev pub parens_end_move : List Frame → List Terminal → Move
parens_end_move fs (sign_terminal sign.CloseParen ∷ r) = moves focus.Subscripted fs r []
parens_end_move fs _ = stuck

-- behind the operand of `empty`
abbrev pub empty_end_move : List Frame → List Terminal → Move
empty_end_move fs (sign_terminal sign.CloseParen ∷ r) = moves focus.Unary fs r (empty_action ∷ [])
empty_end_move fs _ = stuck

-- behind the value where a condition is true
abbrev pub middle_move : List Frame → List Terminal → Move
middle_move fs (sign_terminal sign.Colon ∷ r) = moves focus.Begin (frame.FullChoice ∷ fs) r []
middle_move fs _ = stuck

-- behind a whole expression
abbrev pub whole_move : List Frame → List Terminal → Move
whole_move [] ts = finished
whole_move (frame.Middle ∷ fs) ts = middle_move fs ts
whole_move (frame.Assign x n ∷ fs) ts = moves focus.Whole fs ts (assign_action x n ∷ [])
whole_move (frame.Update u x n ∷ fs) ts = moves focus.Whole fs ts (update_action u x n ∷ [])
whole_move (frame.Parens ∷ fs) ts = parens_end_move fs ts
whole_move (frame.Subscript ∷ fs) ts = subscript_end_move fs ts
whole_move (frame.Key x n gap ∷ fs) ts = key_end_move x n gap fs ts
whole_move (frame.Isset n ∷ fs) ts = isset_move n fs ts
whole_move (frame.Empty ∷ fs) ts = empty_end_move fs ts
whole_move (frame.Argument f n ∷ fs) ts = argument_move f n fs ts
whole_move (frame.Item b n ∷ fs) ts = item_move b n fs ts
whole_move (frame.KeyedItem b n ∷ fs) ts = item_end_move b true n fs ts
whole_move _ ts = stuck

-- one move
unfoldable pub move : Focus → List Frame → List Terminal → Move
move focus.Begin fs ts = begin_move fs ts
move (focus.Place x n gap) fs ts = place_move x n gap fs ts
move focus.Subscripted fs ts = subscripted_move fs ts
move focus.Unary fs ts = unary_move fs ts
move (focus.Operand l) fs ts = level_move l fs ts
move focus.Chain fs ts = coalesce_move fs ts
move focus.Coalesced fs ts = choice_move fs ts
move focus.Whole fs ts = whole_move fs ts

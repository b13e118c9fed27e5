-- Each move makes the weight less.
use Rattle.std.proofs.Common.{◌≡◌, ℕ, ◌+◌, ◌*◌, ◌<◌, ◌≤◌, Bool, true, false, if◌then◌else◌, ◌==◌, List, [], ◌∷◌, length, Option, Some, None, refl, arith}
use Rattle.std.proofs.lemmas.Bool.{eqb-true}
use Rattle.php_syntax.specs.declared.token.Sign.{Sign}
use Rattle.php_syntax.specs.declared.token.Sign.TheVariants as sign
use Rattle.script_grammar.specs.declared.keyword.Keyword.{Keyword}
use Rattle.script_grammar.specs.declared.keyword.Keyword.TheVariants as word
use Rattle.php_syntax.specs.declared.tree.UpdateSign.{UpdateSign}
use Rattle.script_grammar.specs.declared.operator.Level.{Level}
use Rattle.script_grammar.specs.declared.operator.Level.TheVariants as level
use Rattle.script_grammar.specs.declared.operator.Operator.{Operator}
use Rattle.script_grammar.specs.declared.operator.Prefix.{Prefix}
use Rattle.php_syntax.specs.Trees.{PlainExpr}
use Rattle.script_grammar.specs.Operators.{repeats, prefix_operator, update_sign, step_sign, level_rank}
use Rattle.script_grammar.specs.Terminals.{Terminal, variable_terminal, word_terminal, name_terminal, int_terminal, text_terminal, template_terminal, sign_terminal}
use Rattle.script_grammar.specs.Expressions.{constant_of}
use Rattle.expr_machine.specs.declared.frame.Brackets.{Brackets}
use Rattle.expr_machine.specs.declared.frame.Brackets.TheVariants as brackets
use Rattle.expr_machine.specs.declared.frame.Focus.TheVariants as focus
use Rattle.expr_machine.specs.declared.frame.Frame.{Frame}
use Rattle.expr_machine.specs.declared.frame.Frame.TheVariants as frame
use Rattle.expr_machine.specs.Machine.{Move, moves, finished, stuck, looser, wanted_rank, closed_next, behind, array_move, keyword_move, word_move, call_move, step_move, bracket_move, sign_move, begin_move, operand_move, key_move, updated_move, placed_move, place_move, subscripted_move, unary_move, operator_next, chain_move, join_move, right_move, level_move, coalesce_move, question_move, choice_move}
use Rattle.expr_machine.specs.Reading.{focus_weight, weight}

-- a move leads to a place of a weight below a bound
abbrev pub Lighter : ℕ → Move → Type 0
Lighter w (moves f fs ts acts) = weight f fs ts < w
Lighter w finished = Unit {0}
Lighter w stuck = Unit {0}

pub if_lighter : (b : Bool) (w : ℕ) (m n : Move) → Lighter w m → Lighter w n → Lighter w (if b then m else n)
if_lighter true w m n p q = p
if_lighter false w m n p q = q

pub behind_shorter : (ts : List Terminal) → length (behind ts) ≤ length ts
behind_shorter [] = omega arith
behind_shorter (t ∷ ts) = omega arith

-- where an expression or an operand begins
array_lighter : (b : Brackets) (fs : List Frame) (ts : List Terminal) (w : ℕ) → 64 * length ts + 2 * length fs + 16 < w → Lighter w (array_move b fs ts)
array_lighter b fs ts w h = if_lighter (closed_next b ts) w _ _ (omega (arith, behind_shorter ts)) (omega arith)

keyword_lighter : (k : Keyword) (fs : List Frame) (ts : List Terminal) (w : ℕ) → 64 * length ts + 2 * length fs + 16 < w → Lighter w (keyword_move k fs ts)
keyword_lighter word.Isset fs (sign_terminal sign.OpenParen ∷ r) w h = omega arith
keyword_lighter word.Empty fs (sign_terminal sign.OpenParen ∷ r) w h = omega arith
keyword_lighter word.Array fs (sign_terminal sign.OpenParen ∷ r) w h = array_lighter brackets.Round fs r w (omega arith)
keyword_lighter _ fs ts w h = tt

word_lighter : (found : Option PlainExpr) (k : Keyword) (fs : List Frame) (ts : List Terminal) (w : ℕ) → 64 * length ts + 2 * length fs + 16 < w → Lighter w (word_move found k fs ts)
word_lighter (Some e) k fs ts w h = omega arith
word_lighter None k fs ts w h = keyword_lighter k fs ts w h

call_lighter : (f : List ℕ) (fs : List Frame) (ts : List Terminal) (w : ℕ) → 64 * length ts + 2 * length fs + 16 < w → Lighter w (call_move f fs ts)
call_lighter f fs (sign_terminal sign.OpenParen ∷ sign_terminal sign.CloseParen ∷ r) w h = omega arith
call_lighter f fs (sign_terminal sign.OpenParen ∷ _) w h = omega arith
call_lighter f fs _ w h = tt

step_lighter : (up : Bool) (fs : List Frame) (ts : List Terminal) (w : ℕ) → 64 * length ts + 2 * length fs + 16 < w → Lighter w (step_move up fs ts)
step_lighter up fs (variable_terminal x ∷ r) w h = omega arith
step_lighter up fs _ w h = tt

bracket_lighter : (s : Sign) (fs : List Frame) (ts : List Terminal) (w : ℕ) → 64 * length ts + 2 * length fs + 16 < w → Lighter w (bracket_move s fs ts)
bracket_lighter sign.OpenParen fs ts w h = omega arith
bracket_lighter sign.OpenBracket fs ts w h = array_lighter brackets.Square fs ts w h
bracket_lighter _ fs ts w h = tt

sign_lighter : (p : Option Prefix) (up : Option Bool) (s : Sign) (fs : List Frame) (ts : List Terminal) (w : ℕ) → 64 * length ts + 2 * length fs + 16 < w → Lighter w (sign_move p up s fs ts)
sign_lighter (Some p) up s fs ts w h = omega arith
sign_lighter None (Some up) s fs ts w h = step_lighter up fs ts w h
sign_lighter None None s fs ts w h = bracket_lighter s fs ts w h

pub begin_lighter : (fs : List Frame) (ts : List Terminal) → Lighter (weight focus.Begin fs ts) (begin_move fs ts)
begin_lighter fs (variable_terminal x ∷ r) = omega arith
begin_lighter fs (int_terminal z ∷ r) = omega arith
begin_lighter fs (text_terminal t ∷ r) = omega arith
begin_lighter fs (template_terminal ps ∷ r) = omega arith
begin_lighter fs (word_terminal k ∷ r) = word_lighter (constant_of k) k fs r _ (omega arith)
begin_lighter fs (name_terminal f ∷ r) = call_lighter f fs r _ (omega arith)
begin_lighter fs (sign_terminal s ∷ r) = sign_lighter (prefix_operator s) (step_sign s) s fs r _ (omega arith)
begin_lighter fs _ = tt

-- behind a variable
operand_lighter : (x : List ℕ) (n : ℕ) (gap : Bool) (fs : List Frame) (ts : List Terminal) (w : ℕ) → 64 * length ts + 2 * length fs + 14 < w → Lighter w (operand_move x n gap fs ts)
operand_lighter x n true fs ts w h = tt
operand_lighter x n false fs ts w h = omega arith

key_lighter : (x : List ℕ) (n : ℕ) (gap : Bool) (fs : List Frame) (ts : List Terminal) (w : ℕ) → 64 * length ts + 2 * length fs + 16 < w → Lighter w (key_move x n gap fs ts)
key_lighter x n gap fs [] w h = omega arith
key_lighter x n gap fs (sign_terminal sign.CloseBracket ∷ r) w h = omega arith
key_lighter x n gap fs (sign_terminal _ ∷ r) w h = omega arith
key_lighter x n gap fs (_ ∷ r) w h = omega arith

updated_lighter : (u : Option UpdateSign) (up : Option Bool) (x : List ℕ) (n : ℕ) (gap : Bool) (fs : List Frame) (s : Sign) (r : List Terminal) (w : ℕ) → 64 + 64 * length r + 2 * length fs + 14 < w → Lighter w (updated_move u up x n gap fs s r)
updated_lighter (Some u) up x n gap fs s r w h = if_lighter (wanted_rank fs == 10) w _ _ (omega arith) (operand_lighter x n gap fs (sign_terminal s ∷ r) w (omega arith))
updated_lighter None (Some up) x n gap fs s r w h = if_lighter (n == 0) w _ _ (omega arith) (operand_lighter x n gap fs (sign_terminal s ∷ r) w (omega arith))
updated_lighter None None x n gap fs s r w h = operand_lighter x n gap fs (sign_terminal s ∷ r) w (omega arith)

placed_lighter : (x : List ℕ) (n : ℕ) (gap : Bool) (fs : List Frame) (s : Sign) (r : List Terminal) (w : ℕ) → 64 + 64 * length r + 2 * length fs + 14 < w → Lighter w (placed_move x n gap fs s r)
placed_lighter x n gap fs sign.OpenBracket r w h = key_lighter x n gap fs r w (omega arith)
placed_lighter x n gap fs sign.Assign r w h = if_lighter (wanted_rank fs == 10) w _ _ (omega arith) (operand_lighter x n gap fs (sign_terminal sign.Assign ∷ r) w (omega arith))
placed_lighter x n gap fs s r w h = updated_lighter (update_sign s) (step_sign s) x n gap fs s r w h

pub place_lighter : (x : List ℕ) (n : ℕ) (gap : Bool) (fs : List Frame) (ts : List Terminal) → Lighter (weight (focus.Place x n gap) fs ts) (place_move x n gap fs ts)
place_lighter x n gap fs [] = operand_lighter x n gap fs [] _ (omega arith)
place_lighter x n gap fs (sign_terminal s ∷ r) = placed_lighter x n gap fs s r _ (omega arith)
place_lighter x n gap fs (t ∷ r) = operand_lighter x n gap fs (t ∷ r) _ (omega arith)

-- behind operands
pub subscripted_lighter : (fs : List Frame) (ts : List Terminal) → Lighter (weight focus.Subscripted fs ts) (subscripted_move fs ts)
subscripted_lighter fs [] = omega arith
subscripted_lighter fs (sign_terminal sign.OpenBracket ∷ r) = omega arith
subscripted_lighter fs (sign_terminal _ ∷ r) = omega arith
subscripted_lighter fs (_ ∷ r) = omega arith

pub unary_lighter : (fs : List Frame) (ts : List Terminal) → Lighter (weight focus.Unary fs ts) (unary_move fs ts)
unary_lighter [] ts = omega arith
unary_lighter (frame.Prefix p ∷ fs) ts = omega arith
unary_lighter (_ ∷ fs) ts = omega arith

looser_lighter : (l : Level) → focus_weight (looser l) < focus_weight (focus.Operand l)
looser_lighter level.Or = omega arith
looser_lighter level.And = omega arith
looser_lighter level.Equality = omega arith
looser_lighter level.Order = omega arith
looser_lighter level.Join = omega arith
looser_lighter level.Sum = omega arith
looser_lighter level.Product = omega arith

operand_weight : (l : Level) → 6 ≤ focus_weight (focus.Operand l)
operand_weight level.Or = omega arith
operand_weight level.And = omega arith
operand_weight level.Equality = omega arith
operand_weight level.Order = omega arith
operand_weight level.Join = omega arith
operand_weight level.Sum = omega arith
operand_weight level.Product = omega arith

chain_lighter : (found : Option Operator) (l : Level) (fs : List Frame) (ts : List Terminal) → Lighter (weight (focus.Operand l) fs ts) (chain_move found l fs ts)
chain_lighter (Some o) l fs ts = omega (arith, behind_shorter ts, operand_weight l)
chain_lighter None l fs ts = omega (arith, looser_lighter l)

join_lighter : (found : Option Operator) (n : ℕ) (fs : List Frame) (ts : List Terminal) (w : ℕ) → 64 * length ts + 2 * length fs + 12 ≤ w → Lighter w (join_move found n fs ts)
join_lighter (Some o) n fs ts w h = omega (arith, behind_shorter ts)
join_lighter None n fs ts w h = omega arith

repeated_lighter : (b : Bool) (m : Level) → focus_weight (if b then focus.Operand m else looser m) ≤ focus_weight (focus.Operand m)
repeated_lighter true m = omega arith
repeated_lighter false m = omega (arith, looser_lighter m)

right_lighter : (l : Level) (fs : List Frame) (ts : List Terminal) → wanted_rank fs ≡ level_rank l → Lighter (weight (focus.Operand l) fs ts) (right_move l fs ts)
right_lighter l [] ts h = tt
right_lighter l (frame.Operator m o ∷ fs) ts h = omega (arith, repeated_lighter (repeats m) m)
right_lighter l (frame.Join n ∷ fs) ts h = join_lighter (operator_next level.Join ts) n fs ts _ (omega arith)
right_lighter l (_ ∷ fs) ts h = tt

pub level_lighter : (l : Level) (fs : List Frame) (ts : List Terminal) → Lighter (weight (focus.Operand l) fs ts) (level_move l fs ts)
level_lighter l fs ts = by_test (wanted_rank fs == level_rank l) refl
  where
    by_test : (b : Bool) → (wanted_rank fs == level_rank l) ≡ b → Lighter (weight (focus.Operand l) fs ts) (if b then right_move l fs ts else chain_move (operator_next l ts) l fs ts)
    by_test true e = right_lighter l fs ts (eqb-true (wanted_rank fs) (level_rank l) e)
    by_test false e = chain_lighter (operator_next l ts) l fs ts

-- behind chains
pub coalesce_lighter : (fs : List Frame) (ts : List Terminal) → Lighter (weight focus.Chain fs ts) (coalesce_move fs ts)
coalesce_lighter fs [] = omega arith
coalesce_lighter fs (sign_terminal sign.Coalesce ∷ r) = omega arith
coalesce_lighter fs (sign_terminal _ ∷ r) = omega arith
coalesce_lighter fs (_ ∷ r) = omega arith

question_lighter : (fs : List Frame) (ts : List Terminal) → Lighter (weight focus.Coalesced fs ts) (question_move fs ts)
question_lighter fs [] = omega arith
question_lighter fs (sign_terminal sign.Question ∷ []) = omega arith
question_lighter fs (sign_terminal sign.Question ∷ sign_terminal sign.Colon ∷ r) = omega arith
question_lighter fs (sign_terminal sign.Question ∷ sign_terminal _ ∷ r) = omega arith
question_lighter fs (sign_terminal sign.Question ∷ _ ∷ r) = omega arith
question_lighter fs (sign_terminal _ ∷ r) = omega arith
question_lighter fs (_ ∷ r) = omega arith

pub choice_lighter : (fs : List Frame) (ts : List Terminal) → Lighter (weight focus.Coalesced fs ts) (choice_move fs ts)
choice_lighter [] ts = question_lighter [] ts
choice_lighter (frame.Coalesce ∷ fs) ts = omega arith
choice_lighter (frame.ShortChoice ∷ fs) ts = omega arith
choice_lighter (frame.FullChoice ∷ fs) ts = omega arith
choice_lighter (f ∷ fs) ts = question_lighter (f ∷ fs) ts

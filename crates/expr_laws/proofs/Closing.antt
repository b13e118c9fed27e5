-- Each move behind a whole expression makes the weight less, and so does each move at all.
use Rattle.std.proofs.Common.{ℕ, ◌+◌, ◌*◌, ◌<◌, Bool, true, false, if◌then◌else◌, ◌&&◌, ◌==◌, List, [], ◌∷◌, length, Option, Some, None, arith}
use Rattle.std.specs.Prelude.{codes}
use Rattle.std.specs.Str.{str_eq_ignore_ascii_case}
use Rattle.php_syntax.specs.declared.token.Sign.TheVariants as sign
use Rattle.script_grammar.specs.Terminals.{Terminal, name_terminal, text_terminal, sign_terminal, same_bytes}
use Rattle.script_grammar.specs.Expressions.{is_escape}
use Rattle.expr_machine.specs.declared.frame.Brackets.{Brackets}
use Rattle.expr_machine.specs.declared.frame.Focus.{Focus}
use Rattle.expr_machine.specs.declared.frame.Focus.TheVariants as focus
use Rattle.expr_machine.specs.declared.frame.Frame.{Frame}
use Rattle.expr_machine.specs.declared.frame.Frame.TheVariants as frame
use Rattle.expr_machine.specs.Machine.{move, closed_next, behind_charset, behind_quotes, next_argument_move, escape_move, argument_move, next_item_move, item_end_move, item_move, isset_move, key_end_move, subscript_end_move, parens_end_move, empty_end_move, middle_move, whole_move}
use Rattle.expr_machine.specs.Reading.{weight}
use Rattle.expr_laws.proofs.Lighter.{Lighter, if_lighter, behind_shorter, begin_lighter, place_lighter, subscripted_lighter, unary_lighter, level_lighter, coalesce_lighter, choice_lighter}

-- behind an argument
abbrev Shorter : ℕ → Option (List Terminal) → Type 0
Shorter n None = Unit {0}
Shorter n (Some r) = length r < n

if_shorter : (b : Bool) (n : ℕ) (found : Option (List Terminal)) → Shorter n found → Shorter n (if b then found else None)
if_shorter true n found h = h
if_shorter false n found h = tt

quotes_shorter : (ts : List Terminal) → Shorter (length ts) (behind_quotes ts)
quotes_shorter (sign_terminal sign.Comma ∷ name_terminal q ∷ sign_terminal sign.CloseParen ∷ r) = if_shorter (same_bytes q (codes "ENT_QUOTES")) _ (Some r) (omega arith)
quotes_shorter (sign_terminal sign.Comma ∷ name_terminal q ∷ sign_terminal sign.Comma ∷ text_terminal t ∷ sign_terminal sign.CloseParen ∷ r) =
    if_shorter (same_bytes q (codes "ENT_QUOTES")) _ (behind_charset t r) (if_shorter (str_eq_ignore_ascii_case t (codes "UTF-8")) _ (Some r) (omega arith))
quotes_shorter _ = tt

next_argument_lighter : (f : List ℕ) (n : ℕ) (fs : List Frame) (ts : List Terminal) (w : ℕ) → 64 * length ts + 2 * length fs < w → Lighter w (next_argument_move f n fs ts)
next_argument_lighter f n fs (sign_terminal sign.CloseParen ∷ r) w h = omega arith
next_argument_lighter f n fs (sign_terminal sign.Comma ∷ r) w h = omega arith
next_argument_lighter f n fs _ w h = tt

escape_lighter : (found : Option (List Terminal)) (f : List ℕ) (n : ℕ) (fs : List Frame) (ts : List Terminal) (w : ℕ) → Shorter (length ts) found → 64 * length ts + 2 * length fs < w → Lighter w (escape_move found f n fs ts)
escape_lighter (Some r) f n fs ts w shorter h = omega arith
escape_lighter None f n fs ts w shorter h = next_argument_lighter f n fs ts w h

argument_lighter : (f : List ℕ) (n : ℕ) (fs : List Frame) (ts : List Terminal) (w : ℕ) → 64 * length ts + 2 * length fs < w → Lighter w (argument_move f n fs ts)
argument_lighter f n fs ts w h = escape_lighter _ f n fs ts w (if_shorter (is_escape f && (n == 0)) _ (behind_quotes ts) (quotes_shorter ts)) h

-- behind an item
next_item_lighter : (b : Brackets) (keyed : Bool) (n : ℕ) (fs : List Frame) (ts : List Terminal) (w : ℕ) → 64 * length ts + 2 * length fs < w → Lighter w (next_item_move b keyed n fs ts)
next_item_lighter b keyed n fs (sign_terminal sign.Comma ∷ r) w h = if_lighter (closed_next b r) w _ _ (omega (arith, behind_shorter r)) (omega arith)
next_item_lighter b keyed n fs _ w h = tt

item_end_lighter : (b : Brackets) (keyed : Bool) (n : ℕ) (fs : List Frame) (ts : List Terminal) (w : ℕ) → 64 * length ts + 2 * length fs < w → Lighter w (item_end_move b keyed n fs ts)
item_end_lighter b keyed n fs [] w h = tt
item_end_lighter b keyed n fs (t ∷ r) w h = if_lighter (closed_next b (t ∷ r)) w _ _ (omega arith) (next_item_lighter b keyed n fs (t ∷ r) w h)

item_lighter : (b : Brackets) (n : ℕ) (fs : List Frame) (ts : List Terminal) (w : ℕ) → 64 * length ts + 2 * length fs < w → Lighter w (item_move b n fs ts)
item_lighter b n fs [] w h = tt
item_lighter b n fs (sign_terminal sign.DoubleArrow ∷ r) w h = omega arith
item_lighter b n fs (sign_terminal s ∷ r) w h = item_end_lighter b false n fs (sign_terminal s ∷ r) w h
item_lighter b n fs (t ∷ r) w h = item_end_lighter b false n fs (t ∷ r) w h

-- behind what brackets close
isset_lighter : (n : ℕ) (fs : List Frame) (ts : List Terminal) (w : ℕ) → 64 * length ts + 2 * length fs < w → Lighter w (isset_move n fs ts)
isset_lighter n fs (sign_terminal sign.CloseParen ∷ r) w h = omega arith
isset_lighter n fs (sign_terminal sign.Comma ∷ r) w h = omega arith
isset_lighter n fs _ w h = tt

key_end_lighter : (x : List ℕ) (n : ℕ) (gap : Bool) (fs : List Frame) (ts : List Terminal) (w : ℕ) → 64 * length ts + 2 * length fs < w → Lighter w (key_end_move x n gap fs ts)
key_end_lighter x n gap fs (sign_terminal sign.CloseBracket ∷ r) w h = omega arith
key_end_lighter x n gap fs _ w h = tt

subscript_end_lighter : (fs : List Frame) (ts : List Terminal) (w : ℕ) → 64 * length ts + 2 * length fs < w → Lighter w (subscript_end_move fs ts)
subscript_end_lighter fs (sign_terminal sign.CloseBracket ∷ r) w h = omega arith
subscript_end_lighter fs _ w h = tt

parens_end_lighter : (fs : List Frame) (ts : List Terminal) (w : ℕ) → 64 * length ts + 2 * length fs < w → Lighter w (parens_end_move fs ts)
parens_end_lighter fs (sign_terminal sign.CloseParen ∷ r) w h = omega arith
parens_end_lighter fs _ w h = tt

empty_end_lighter : (fs : List Frame) (ts : List Terminal) (w : ℕ) → 64 * length ts + 2 * length fs < w → Lighter w (empty_end_move fs ts)
empty_end_lighter fs (sign_terminal sign.CloseParen ∷ r) w h = omega arith
empty_end_lighter fs _ w h = tt

middle_lighter : (fs : List Frame) (ts : List Terminal) (w : ℕ) → 64 * length ts + 2 * length fs < w → Lighter w (middle_move fs ts)
middle_lighter fs (sign_terminal sign.Colon ∷ r) w h = omega arith
middle_lighter fs _ w h = tt

-- behind a whole expression
whole_lighter : (fs : List Frame) (ts : List Terminal) → Lighter (weight focus.Whole fs ts) (whole_move fs ts)
whole_lighter [] ts = tt
whole_lighter (frame.Middle ∷ fs) ts = middle_lighter fs ts _ (omega arith)
whole_lighter (frame.Assign x n ∷ fs) ts = omega arith
whole_lighter (frame.Update u x n ∷ fs) ts = omega arith
whole_lighter (frame.Parens ∷ fs) ts = parens_end_lighter fs ts _ (omega arith)
whole_lighter (frame.Subscript ∷ fs) ts = subscript_end_lighter fs ts _ (omega arith)
whole_lighter (frame.Key x n gap ∷ fs) ts = key_end_lighter x n gap fs ts _ (omega arith)
whole_lighter (frame.Isset n ∷ fs) ts = isset_lighter n fs ts _ (omega arith)
whole_lighter (frame.Empty ∷ fs) ts = empty_end_lighter fs ts _ (omega arith)
whole_lighter (frame.Argument f n ∷ fs) ts = argument_lighter f n fs ts _ (omega arith)
whole_lighter (frame.Item b n ∷ fs) ts = item_lighter b n fs ts _ (omega arith)
whole_lighter (frame.KeyedItem b n ∷ fs) ts = item_end_lighter b true n fs ts _ (omega arith)
whole_lighter _ ts = tt

-- each move
pub move_lighter : (f : Focus) (fs : List Frame) (ts : List Terminal) → Lighter (weight f fs ts) (move f fs ts)
unfolding move
move_lighter focus.Begin fs ts = begin_lighter fs ts
move_lighter (focus.Place x n gap) fs ts = place_lighter x n gap fs ts
move_lighter focus.Subscripted fs ts = subscripted_lighter fs ts
move_lighter focus.Unary fs ts = unary_lighter fs ts
move_lighter (focus.Operand l) fs ts = level_lighter l fs ts
move_lighter focus.Chain fs ts = coalesce_lighter fs ts
move_lighter focus.Coalesced fs ts = choice_lighter fs ts
move_lighter focus.Whole fs ts = whole_lighter fs ts

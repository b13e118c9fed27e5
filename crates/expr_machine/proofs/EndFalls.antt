-- The same of the moves behind a chain of `||` and behind a whole expression, and of each move.
use Rattle.std.proofs.Common.{◌≡◌, ℕ, ◌+◌, ◌<◌, ◌≤◌, Bool, true, false, suc, List, [], ◌∷◌, length, refl, arith}
use Rattle.std.specs.Prelude.{Option, Some, None, codes, if◌then◌else◌, ◌==◌, ◌&&◌}
use Rattle.std.specs.Str.{str_eq_ignore_ascii_case}
use Rattle.php_syntax.specs.declared.token.Sign.TheVariants as sign
use Rattle.script_grammar.specs.Terminals.{Terminal, name_terminal, text_terminal, sign_terminal, same_bytes}
use Rattle.script_grammar.specs.Expressions.{is_escape}
use Rattle.expr_machine.specs.declared.frame.Brackets.{Brackets}
use Rattle.expr_machine.specs.declared.frame.Focus.{Focus}
use Rattle.expr_machine.specs.declared.frame.Focus.TheVariants as focus
use Rattle.expr_machine.specs.declared.frame.Frame.{Frame}
use Rattle.expr_machine.specs.declared.frame.Frame.TheVariants as frame
use Rattle.expr_machine.specs.Machine.{Move, moves, finished, stuck, move, closed_next, coalesce_move, question_move, choice_move, behind_charset, behind_quotes, next_argument_move, escape_move, argument_move, next_item_move, item_end_move, item_move, isset_move, key_end_move, subscript_end_move, parens_end_move, empty_end_move, middle_move, whole_move}
use Rattle.expr_machine.specs.Reading.{weight}
use Rattle.expr_machine.proofs.Falls.{Falls, Moves_on, if_falls, behind_falls, begin_falls, place_falls, subscripted_falls, unary_falls, level_falls}

coalesce_falls : (fs : List Frame) (ts : List Terminal) → Moves_on focus.Chain fs ts (coalesce_move fs ts)
coalesce_falls fs (sign_terminal sign.Coalesce ∷ r) = (omega arith, omega arith)
coalesce_falls fs ts = (omega arith, omega arith)

question_falls : (fs : List Frame) (ts : List Terminal) → Moves_on focus.Coalesced fs ts (question_move fs ts)
question_falls fs (sign_terminal sign.Question ∷ sign_terminal sign.Colon ∷ r) = (omega arith, omega arith)
question_falls fs (sign_terminal sign.Question ∷ r) = (omega arith, omega arith)
question_falls fs ts = (omega arith, omega arith)

choice_falls : (fs : List Frame) (ts : List Terminal) → Moves_on focus.Coalesced fs ts (choice_move fs ts)
choice_falls (frame.Coalesce ∷ fs) ts = (omega arith, omega arith)
choice_falls (frame.ShortChoice ∷ fs) ts = (omega arith, omega arith)
choice_falls (frame.FullChoice ∷ fs) ts = (omega arith, omega arith)
choice_falls fs ts = question_falls fs ts

-- the further arguments that say what is so anyway leave fewer terminals
abbrev pub Leaves : ℕ → Option (List Terminal) → Type 0
Leaves n None = Unit {0}
Leaves n (Some r) = length r < n

if_leaves : (n : ℕ) (b : Bool) (x y : Option (List Terminal)) → Leaves n x → Leaves n y → Leaves n (if b then x else y)
if_leaves n true x y p q = p
if_leaves n false x y p q = q

charset_leaves : (t : List ℕ) (r : List Terminal) (n : ℕ) → length r < n → Leaves n (behind_charset t r)
charset_leaves t r n h = if_leaves n (str_eq_ignore_ascii_case t (codes "UTF-8")) (Some r) None h tt

five_more : (r : List Terminal) → length r < suc (suc (suc (suc (suc (length r)))))
five_more r = omega arith

three_more : (r : List Terminal) → length r < suc (suc (suc (length r)))
three_more r = omega arith

quotes_leave : (ts : List Terminal) → Leaves (length ts) (behind_quotes ts)
quotes_leave (sign_terminal sign.Comma ∷ name_terminal q ∷ sign_terminal sign.CloseParen ∷ r) = if_leaves _ (same_bytes q (codes "ENT_QUOTES")) (Some r) None (three_more r) tt
quotes_leave (sign_terminal sign.Comma ∷ name_terminal q ∷ sign_terminal sign.Comma ∷ text_terminal t ∷ sign_terminal sign.CloseParen ∷ r) = if_leaves _ (same_bytes q (codes "ENT_QUOTES")) (behind_charset t r) None (charset_leaves t r _ (five_more r)) tt
quotes_leave _ = tt

next_argument_falls : (f : List ℕ) (n : ℕ) (fs : List Frame) (ts : List Terminal) → Moves_on focus.Whole (frame.Argument f n ∷ fs) ts (next_argument_move f n fs ts)
next_argument_falls f n fs (sign_terminal sign.CloseParen ∷ r) = (omega arith, omega arith)
next_argument_falls f n fs (sign_terminal sign.Comma ∷ r) = (omega arith, omega arith)
next_argument_falls f n fs _ = tt

escape_falls : (found : Option (List Terminal)) (f : List ℕ) (n : ℕ) (fs : List Frame) (ts : List Terminal) → Leaves (length ts) found → Moves_on focus.Whole (frame.Argument f n ∷ fs) ts (escape_move found f n fs ts)
escape_falls (Some r) f n fs ts h = (omega arith, omega arith)
escape_falls None f n fs ts h = next_argument_falls f n fs ts

argument_falls : (f : List ℕ) (n : ℕ) (fs : List Frame) (ts : List Terminal) → Moves_on focus.Whole (frame.Argument f n ∷ fs) ts (argument_move f n fs ts)
argument_falls f n fs ts = escape_falls (if is_escape f && n == 0 then behind_quotes ts else None) f n fs ts (if_leaves _ (is_escape f && n == 0) (behind_quotes ts) None (quotes_leave ts) tt)

next_item_falls : (b : Brackets) (keyed : Bool) (n : ℕ) (f : Frame) (fs : List Frame) (ts : List Terminal) → Moves_on focus.Whole (f ∷ fs) ts (next_item_move b keyed n fs ts)
next_item_falls b keyed n f fs (sign_terminal sign.Comma ∷ r) =
    let h = behind_falls r in
    if_falls _ _ _ (closed_next b r) _ _ (omega arith, omega arith) (omega arith, omega arith)
next_item_falls b keyed n f fs ts = tt

item_end_falls : (b : Brackets) (keyed : Bool) (n : ℕ) (f : Frame) (fs : List Frame) (ts : List Terminal) → Moves_on focus.Whole (f ∷ fs) ts (item_end_move b keyed n fs ts)
item_end_falls b keyed n f fs [] = tt
item_end_falls b keyed n f fs (t ∷ r) = if_falls _ _ _ (closed_next b (t ∷ r)) _ (next_item_move b keyed n fs (t ∷ r)) (omega arith, omega arith) (next_item_falls b keyed n f fs (t ∷ r))

item_falls : (b : Brackets) (n : ℕ) (f : Frame) (fs : List Frame) (ts : List Terminal) → Moves_on focus.Whole (f ∷ fs) ts (item_move b n fs ts)
item_falls b n f fs (sign_terminal sign.DoubleArrow ∷ r) = (omega arith, omega arith)
item_falls b n f fs ts = item_end_falls b false n f fs ts

isset_falls : (n : ℕ) (fs : List Frame) (ts : List Terminal) → Moves_on focus.Whole (frame.Isset n ∷ fs) ts (isset_move n fs ts)
isset_falls n fs (sign_terminal sign.CloseParen ∷ r) = (omega arith, omega arith)
isset_falls n fs (sign_terminal sign.Comma ∷ r) = (omega arith, omega arith)
isset_falls n fs _ = tt

key_end_falls : (x : List ℕ) (n : ℕ) (gap : Bool) (fs : List Frame) (ts : List Terminal) → Moves_on focus.Whole (frame.Key x n gap ∷ fs) ts (key_end_move x n gap fs ts)
key_end_falls x n gap fs (sign_terminal sign.CloseBracket ∷ r) = (omega arith, omega arith)
key_end_falls x n gap fs _ = tt

subscript_end_falls : (fs : List Frame) (ts : List Terminal) → Moves_on focus.Whole (frame.Subscript ∷ fs) ts (subscript_end_move fs ts)
subscript_end_falls fs (sign_terminal sign.CloseBracket ∷ r) = (omega arith, omega arith)
subscript_end_falls fs _ = tt

parens_end_falls : (fs : List Frame) (ts : List Terminal) → Moves_on focus.Whole (frame.Parens ∷ fs) ts (parens_end_move fs ts)
parens_end_falls fs (sign_terminal sign.CloseParen ∷ r) = (omega arith, omega arith)
parens_end_falls fs _ = tt

empty_end_falls : (fs : List Frame) (ts : List Terminal) → Moves_on focus.Whole (frame.Empty ∷ fs) ts (empty_end_move fs ts)
empty_end_falls fs (sign_terminal sign.CloseParen ∷ r) = (omega arith, omega arith)
empty_end_falls fs _ = tt

middle_falls : (fs : List Frame) (ts : List Terminal) → Moves_on focus.Whole (frame.Middle ∷ fs) ts (middle_move fs ts)
middle_falls fs (sign_terminal sign.Colon ∷ r) = (omega arith, omega arith)
middle_falls fs _ = tt

whole_falls : (fs : List Frame) (ts : List Terminal) → Moves_on focus.Whole fs ts (whole_move fs ts)
whole_falls [] ts = omega arith
whole_falls (frame.Middle ∷ fs) ts = middle_falls fs ts
whole_falls (frame.Assign x n ∷ fs) ts = (omega arith, omega arith)
whole_falls (frame.Update u x n ∷ fs) ts = (omega arith, omega arith)
whole_falls (frame.Parens ∷ fs) ts = parens_end_falls fs ts
whole_falls (frame.Subscript ∷ fs) ts = subscript_end_falls fs ts
whole_falls (frame.Key x n gap ∷ fs) ts = key_end_falls x n gap fs ts
whole_falls (frame.Isset n ∷ fs) ts = isset_falls n fs ts
whole_falls (frame.Empty ∷ fs) ts = empty_end_falls fs ts
whole_falls (frame.Argument f n ∷ fs) ts = argument_falls f n fs ts
whole_falls (frame.Item b n ∷ fs) ts = item_falls b n (frame.Item b n) fs ts
whole_falls (frame.KeyedItem b n ∷ fs) ts = item_end_falls b true n (frame.KeyedItem b n) fs ts
whole_falls _ ts = tt

-- how many terminals a run takes at least from a place: one where an expression begins
abbrev pub taken : Focus → ℕ
taken focus.Begin = 1
taken _ = 0

-- a move that leaves n terminals of a list, or fewer
abbrev pub Goes_down : Focus → List Frame → List Terminal → Move → Type 0
Goes_down f fs ts (moves g gs r acts) = (weight g gs r < weight f fs ts) × (length r + taken f ≤ length ts)
Goes_down f fs ts finished = length ts + taken f ≤ length ts
Goes_down f fs ts stuck = Unit {0}

from_begin : (fs : List Frame) (t : Terminal) (r : List Terminal) (m : Move) → Falls (weight focus.Begin fs (t ∷ r)) (length r) (suc (length r)) m → Goes_down focus.Begin fs (t ∷ r) m
from_begin fs t r (moves g gs s acts) h = (omega arith, omega arith)
from_begin fs t r finished h = omega arith
from_begin fs t r stuck h = tt

elsewhere : (f : Focus) (fs : List Frame) (ts : List Terminal) (m : Move) → taken f ≡ 0 → Moves_on f fs ts m → Goes_down f fs ts m
elsewhere f fs ts (moves g gs s acts) e h = (omega arith, omega arith)
elsewhere f fs ts finished e h = omega arith
elsewhere f fs ts stuck e h = tt

pub move_goes_down : (f : Focus) (fs : List Frame) (ts : List Terminal) → Goes_down f fs ts (move f fs ts)
unfolding move
move_goes_down focus.Begin fs [] = tt
move_goes_down focus.Begin fs (t ∷ r) = from_begin fs t r (move focus.Begin fs (t ∷ r)) (begin_falls fs t r (suc (length r)))
move_goes_down (focus.Place x n gap) fs ts = elsewhere (focus.Place x n gap) fs ts (move (focus.Place x n gap) fs ts) refl (place_falls x n gap fs ts)
move_goes_down focus.Subscripted fs ts = elsewhere focus.Subscripted fs ts (move focus.Subscripted fs ts) refl (subscripted_falls fs ts)
move_goes_down focus.Unary fs ts = elsewhere focus.Unary fs ts (move focus.Unary fs ts) refl (unary_falls fs ts)
move_goes_down (focus.Operand l) fs ts = elsewhere (focus.Operand l) fs ts (move (focus.Operand l) fs ts) refl (level_falls l fs ts)
move_goes_down focus.Chain fs ts = elsewhere focus.Chain fs ts (move focus.Chain fs ts) refl (coalesce_falls fs ts)
move_goes_down focus.Coalesced fs ts = elsewhere focus.Coalesced fs ts (move focus.Coalesced fs ts) refl (choice_falls fs ts)
move_goes_down focus.Whole fs ts = elsewhere focus.Whole fs ts (move focus.Whole fs ts) refl (whole_falls fs ts)

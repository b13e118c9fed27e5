-- The moves by the terminal that stands next, or that does not.
use Rattle.std.proofs.Common.{◌≡◌, ◌≢◌, ℕ, Bool, true, false, List, [], ◌∷◌, refl, sym}
use Rattle.std.specs.Prelude.{Option, None, codes, if◌then◌else◌}
use Rattle.php_syntax.specs.declared.token.Sign.{Sign}
use Rattle.php_syntax.specs.declared.token.Sign.TheVariants as sign
use Rattle.script_grammar.specs.declared.keyword.Keyword.{Keyword}
use Rattle.script_grammar.specs.declared.keyword.Keyword.TheVariants as word
use Rattle.script_grammar.specs.declared.operator.Level.{Level}
use Rattle.script_grammar.specs.Operators.{update_sign, step_sign}
use Rattle.script_grammar.specs.Terminals.{Terminal, variable_terminal, name_terminal, text_terminal, sign_terminal, same_bytes}
use Rattle.expr_machine.specs.declared.frame.Brackets.{Brackets}
use Rattle.expr_machine.specs.declared.frame.Focus.TheVariants as focus
use Rattle.expr_machine.specs.declared.frame.Frame.{Frame}
use Rattle.expr_machine.specs.declared.frame.Frame.TheVariants as frame
use Rattle.expr_machine.specs.Machine.{moves, stuck, subscripted_move, coalesce_move, question_move, middle_move, next_argument_move, isset_move, key_end_move, subscript_end_move, parens_end_move, empty_end_move, item_move, item_end_move, next_item_move, keyword_move, call_move, step_move, bracket_move, key_move, operand_move, updated_move, placed_move, place_move, operator_next, closed_next, behind_quotes}
use Rattle.expr_parser.specs.Heads.{quotes_end}

-- a sign does not stand next, and none does
abbrev pub NotNext : Sign → List Terminal → Type 0
NotNext s ts = (r : List Terminal) → ts ≢ sign_terminal s ∷ r

abbrev pub NoSign : List Terminal → Type 0
NoSign ts = (s : Sign) (r : List Terminal) → ts ≢ sign_terminal s ∷ r

pub subscripted_other : (fs : List Frame) (ts : List Terminal) → NotNext sign.OpenBracket ts → subscripted_move fs ts ≡ moves focus.Unary fs ts []
subscripted_other fs (sign_terminal sign.OpenBracket ∷ r) h = absurd (h r refl)
subscripted_other fs ts h = refl

pub coalesce_other : (fs : List Frame) (ts : List Terminal) → NotNext sign.Coalesce ts → coalesce_move fs ts ≡ moves focus.Coalesced fs ts []
coalesce_other fs (sign_terminal sign.Coalesce ∷ r) h = absurd (h r refl)
coalesce_other fs ts h = refl

pub question_other : (fs : List Frame) (ts : List Terminal) → NotNext sign.Question ts → question_move fs ts ≡ moves focus.Whole fs ts []
question_other fs (sign_terminal sign.Question ∷ r) h = absurd (h r refl)
question_other fs ts h = refl

pub question_middle : (fs : List Frame) (r : List Terminal) → NotNext sign.Colon r → question_move fs (sign_terminal sign.Question ∷ r) ≡ moves focus.Begin (frame.Middle ∷ fs) r []
question_middle fs (sign_terminal sign.Colon ∷ r) h = absurd (h r refl)
question_middle fs r h = refl

pub middle_other : (fs : List Frame) (ts : List Terminal) → NotNext sign.Colon ts → middle_move fs ts ≡ stuck
middle_other fs (sign_terminal sign.Colon ∷ r) h = absurd (h r refl)
middle_other fs ts h = refl

pub next_argument_other : (f : List ℕ) (n : ℕ) (fs : List Frame) (ts : List Terminal) → NotNext sign.CloseParen ts → NotNext sign.Comma ts → next_argument_move f n fs ts ≡ stuck
next_argument_other f n fs (sign_terminal sign.CloseParen ∷ r) h k = absurd (h r refl)
next_argument_other f n fs (sign_terminal sign.Comma ∷ r) h k = absurd (k r refl)
next_argument_other f n fs ts h k = refl

pub isset_other : (n : ℕ) (fs : List Frame) (ts : List Terminal) → NotNext sign.CloseParen ts → NotNext sign.Comma ts → isset_move n fs ts ≡ stuck
isset_other n fs (sign_terminal sign.CloseParen ∷ r) h k = absurd (h r refl)
isset_other n fs (sign_terminal sign.Comma ∷ r) h k = absurd (k r refl)
isset_other n fs ts h k = refl

pub key_end_other : (x : List ℕ) (n : ℕ) (gap : Bool) (fs : List Frame) (ts : List Terminal) → NotNext sign.CloseBracket ts → key_end_move x n gap fs ts ≡ stuck
key_end_other x n gap fs (sign_terminal sign.CloseBracket ∷ r) h = absurd (h r refl)
key_end_other x n gap fs ts h = refl

pub subscript_end_other : (fs : List Frame) (ts : List Terminal) → NotNext sign.CloseBracket ts → subscript_end_move fs ts ≡ stuck
subscript_end_other fs (sign_terminal sign.CloseBracket ∷ r) h = absurd (h r refl)
subscript_end_other fs ts h = refl

pub parens_end_other : (fs : List Frame) (ts : List Terminal) → NotNext sign.CloseParen ts → parens_end_move fs ts ≡ stuck
parens_end_other fs (sign_terminal sign.CloseParen ∷ r) h = absurd (h r refl)
parens_end_other fs ts h = refl

pub empty_end_other : (fs : List Frame) (ts : List Terminal) → NotNext sign.CloseParen ts → empty_end_move fs ts ≡ stuck
empty_end_other fs (sign_terminal sign.CloseParen ∷ r) h = absurd (h r refl)
empty_end_other fs ts h = refl

pub item_other : (b : Brackets) (n : ℕ) (fs : List Frame) (ts : List Terminal) → NotNext sign.DoubleArrow ts → item_move b n fs ts ≡ item_end_move b false n fs ts
item_other b n fs (sign_terminal sign.DoubleArrow ∷ r) h = absurd (h r refl)
item_other b n fs ts h = refl

pub next_item_other : (b : Brackets) (keyed : Bool) (n : ℕ) (fs : List Frame) (ts : List Terminal) → NotNext sign.Comma ts → next_item_move b keyed n fs ts ≡ stuck
next_item_other b keyed n fs (sign_terminal sign.Comma ∷ r) h = absurd (h r refl)
next_item_other b keyed n fs ts h = refl

pub key_other : (x : List ℕ) (n : ℕ) (gap : Bool) (fs : List Frame) (ts : List Terminal) → NotNext sign.CloseBracket ts → key_move x n gap fs ts ≡ moves focus.Begin (frame.Key x n gap ∷ fs) ts []
key_other x n gap fs (sign_terminal sign.CloseBracket ∷ r) h = absurd (h r refl)
key_other x n gap fs ts h = refl

pub call_other : (f : List ℕ) (fs : List Frame) (ts : List Terminal) → NotNext sign.OpenParen ts → call_move f fs ts ≡ stuck
call_other f fs (sign_terminal sign.OpenParen ∷ r) h = absurd (h r refl)
call_other f fs ts h = refl

pub call_open : (f : List ℕ) (fs : List Frame) (r : List Terminal) → NotNext sign.CloseParen r → call_move f fs (sign_terminal sign.OpenParen ∷ r) ≡ moves focus.Begin (frame.Argument f 0 ∷ fs) r []
call_open f fs (sign_terminal sign.CloseParen ∷ r) h = absurd (h r refl)
call_open f fs r h = refl

pub isset_word_other : (fs : List Frame) (ts : List Terminal) → NotNext sign.OpenParen ts → keyword_move word.Isset fs ts ≡ stuck
isset_word_other fs (sign_terminal sign.OpenParen ∷ r) h = absurd (h r refl)
isset_word_other fs ts h = refl

pub empty_word_other : (fs : List Frame) (ts : List Terminal) → NotNext sign.OpenParen ts → keyword_move word.Empty fs ts ≡ stuck
empty_word_other fs (sign_terminal sign.OpenParen ∷ r) h = absurd (h r refl)
empty_word_other fs ts h = refl

pub array_word_other : (fs : List Frame) (ts : List Terminal) → NotNext sign.OpenParen ts → keyword_move word.Array fs ts ≡ stuck
array_word_other fs (sign_terminal sign.OpenParen ∷ r) h = absurd (h r refl)
array_word_other fs ts h = refl

pub keyword_other : (k : Keyword) (fs : List Frame) (ts : List Terminal) → NotNext sign.OpenParen ts → keyword_move k fs ts ≡ stuck
keyword_other word.Isset fs ts h = isset_word_other fs ts h
keyword_other word.Empty fs ts h = empty_word_other fs ts h
keyword_other word.Array fs ts h = array_word_other fs ts h
keyword_other k fs ts h = refl

pub keyword_stuck : (k : Keyword) (fs : List Frame) (ts : List Terminal) → k ≢ word.Isset → k ≢ word.Empty → k ≢ word.Array → keyword_move k fs ts ≡ stuck
keyword_stuck word.Isset fs ts h i j = absurd (h refl)
keyword_stuck word.Empty fs ts h i j = absurd (i refl)
keyword_stuck word.Array fs ts h i j = absurd (j refl)
keyword_stuck k fs ts h i j = refl

pub step_other : (up : Bool) (fs : List Frame) (ts : List Terminal) → ((x : List ℕ) (r : List Terminal) → ts ≢ variable_terminal x ∷ r) → step_move up fs ts ≡ stuck
step_other up fs (variable_terminal x ∷ r) h = absurd (h x r refl)
step_other up fs ts h = refl

pub bracket_stuck : (s : Sign) (fs : List Frame) (ts : List Terminal) → s ≢ sign.OpenParen → s ≢ sign.OpenBracket → bracket_move s fs ts ≡ stuck
bracket_stuck sign.OpenParen fs ts h k = absurd (h refl)
bracket_stuck sign.OpenBracket fs ts h k = absurd (k refl)
bracket_stuck s fs ts h k = refl

pub place_other : (x : List ℕ) (n : ℕ) (gap : Bool) (fs : List Frame) (ts : List Terminal) → NoSign ts → place_move x n gap fs ts ≡ operand_move x n gap fs ts
place_other x n gap fs (sign_terminal s ∷ r) h = absurd (h s r refl)
place_other x n gap fs ts h = refl

pub placed_other : (x : List ℕ) (n : ℕ) (gap : Bool) (fs : List Frame) (s : Sign) (r : List Terminal) → s ≢ sign.OpenBracket → s ≢ sign.Assign → placed_move x n gap fs s r ≡ updated_move (update_sign s) (step_sign s) x n gap fs s r
placed_other x n gap fs sign.OpenBracket r h k = absurd (h refl)
placed_other x n gap fs sign.Assign r h k = absurd (k refl)
placed_other x n gap fs s r h k = refl

pub operator_next_other : (l : Level) (ts : List Terminal) → NoSign ts → operator_next l ts ≡ None
operator_next_other l (sign_terminal s ∷ r) h = absurd (h s r refl)
operator_next_other l ts h = refl

pub closed_next_other : (b : Brackets) (ts : List Terminal) → NoSign ts → closed_next b ts ≡ false
closed_next_other b (sign_terminal s ∷ r) h = absurd (h s r refl)
closed_next_other b ts h = refl

-- the further arguments of a call

pub quotes_end_other : (ts : List Terminal) → NotNext sign.CloseParen ts → NotNext sign.Comma ts → quotes_end ts ≡ None
quotes_end_other (sign_terminal sign.CloseParen ∷ r) h k = absurd (h r refl)
quotes_end_other (sign_terminal sign.Comma ∷ r) h k = absurd (k r refl)
quotes_end_other ts h k = refl

pub quotes_end_text : (ts : List Terminal) → ((t : List ℕ) (r : List Terminal) → ts ≢ text_terminal t ∷ r) → quotes_end (sign_terminal sign.Comma ∷ ts) ≡ None
quotes_end_text (text_terminal t ∷ r) h = absurd (h t r refl)
quotes_end_text ts h = refl

pub quotes_end_close : (t : List ℕ) (ts : List Terminal) → NotNext sign.CloseParen ts → quotes_end (sign_terminal sign.Comma ∷ text_terminal t ∷ ts) ≡ None
quotes_end_close t (sign_terminal sign.CloseParen ∷ r) h = absurd (h r refl)
quotes_end_close t ts h = refl

pub quotes_other : (ts : List Terminal) → NotNext sign.Comma ts → behind_quotes ts ≡ None
quotes_other (sign_terminal sign.Comma ∷ r) h = absurd (h r refl)
quotes_other ts h = refl

pub quotes_name : (ts : List Terminal) → ((w : List ℕ) (r : List Terminal) → ts ≢ name_terminal w ∷ r) → behind_quotes (sign_terminal sign.Comma ∷ ts) ≡ None
quotes_name (name_terminal w ∷ r) h = absurd (h w r refl)
quotes_name ts h = refl

same_none : (b : Bool) (x : Option (List Terminal)) → x ≡ None → None ≡ (if b then x else None)
same_none true x e = sym e
same_none false x e = refl

pub quotes_by : (q : List ℕ) (r : List Terminal) → behind_quotes (sign_terminal sign.Comma ∷ name_terminal q ∷ r) ≡ (if same_bytes q (codes "ENT_QUOTES") then quotes_end r else None)
quotes_by q (sign_terminal sign.CloseParen ∷ r) = refl
quotes_by q (sign_terminal sign.Comma ∷ text_terminal t ∷ sign_terminal sign.CloseParen ∷ r) = refl
quotes_by q r = same_none (same_bytes q (codes "ENT_QUOTES")) (quotes_end r) refl

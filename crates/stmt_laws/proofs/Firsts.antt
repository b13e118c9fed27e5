-- What the machine does by the terminal with which an expression or a statement begins.
use Rattle.std.proofs.Common.{◌≡◌, ℕ, Bool, true, false, if◌then◌else◌, List, [], ◌∷◌, refl, ap}
use Rattle.php_syntax.specs.declared.token.Sign.{Sign}
use Rattle.php_syntax.specs.declared.token.Sign.TheVariants as sign
use Rattle.script_grammar.specs.declared.keyword.Keyword.{Keyword}
use Rattle.script_grammar.specs.declared.keyword.Keyword.TheVariants as word
use Rattle.script_grammar.specs.Terminals.{Terminal, inline_terminal, word_terminal, sign_terminal}
use Rattle.script_grammar.specs.Statements.{is_include, StmtForm, semicolon_form, inline_form, block_form, echo_form, print_form, run_form, if_form, colon_if_form, while_form, do_form, for_form, each_form, break_form, continue_form, return_form, include_form, include_parens_form, exit_form, exit_parens_form, stmt_terminals}
use Rattle.stmt_machine.specs.declared.frame.Loop.{Loop}
use Rattle.stmt_machine.specs.declared.frame.Loop.TheVariants as loop
use Rattle.stmt_machine.specs.declared.frame.Row.{Row}
use Rattle.stmt_machine.specs.declared.frame.Row.TheVariants as row
use Rattle.stmt_machine.specs.declared.frame.Focus.TheVariants as focus
use Rattle.stmt_machine.specs.declared.frame.Frame.{Frame}
use Rattle.stmt_machine.specs.declared.frame.Frame.TheVariants as frame
use Rattle.stmt_machine.specs.Actions.{run_action, open_action, loop_action}
use Rattle.stmt_machine.specs.Machine.{moves, move, colon_next, semicolon_next, row_end_next, statement_at, value_move, word_move, sign_move, else_move, ends_loop, jump_move}
use Rattle.stmt_machine.specs.Reading.{else_next}
use Rattle.stmt_laws.proofs.Opening.{value_sign, value_word, value_first, expr_first}

-- a sign, a word and a list of terminals that may begin a statement
abbrev pub stmt_sign : Sign → Bool
stmt_sign sign.CloseBrace = false
stmt_sign sign.Colon = false
stmt_sign _ = true

abbrev pub stmt_word : Keyword → Bool
stmt_word word.Function = false
stmt_word word.ElseIf = false
stmt_word word.Else = false
stmt_word word.EndIf = false
stmt_word word.EndWhile = false
stmt_word word.EndFor = false
stmt_word word.EndForeach = false
stmt_word _ = true

abbrev pub stmt_first : List Terminal → Bool
stmt_first [] = false
stmt_first (word_terminal k ∷ r) = stmt_word k
stmt_first (sign_terminal s ∷ r) = stmt_sign s
stmt_first (_ ∷ r) = true

-- an expression as a statement
value_sign_moves : (s : Sign) (fs : List Frame) (r : List Terminal) → value_sign s ≡ true → sign_move s fs r ≡ value_move run_action fs (statement_at (sign_terminal s ∷ r))
value_sign_moves sign.Semicolon fs r h = absurd cc
value_sign_moves sign.OpenBrace fs r h = absurd cc
value_sign_moves _ fs r h = refl

value_word_moves : (k : Keyword) (fs : List Frame) (r : List Terminal) → value_word k ≡ true → word_move k fs r ≡ value_move run_action fs (statement_at (word_terminal k ∷ r))
value_word_moves word.True fs r h = refl
value_word_moves word.False fs r h = refl
value_word_moves word.Null fs r h = refl
value_word_moves word.PhpEol fs r h = refl
value_word_moves word.PhpIntMax fs r h = refl
value_word_moves word.PhpIntMin fs r h = refl
value_word_moves word.Isset fs r h = refl
value_word_moves word.Empty fs r h = refl
value_word_moves word.Array fs r h = refl
value_word_moves _ fs r h = absurd cc

pub value_begins : (fs : List Frame) (ts : List Terminal) → value_first ts ≡ true → move focus.Begin fs ts ≡ value_move run_action fs (statement_at ts)
unfolding move
value_begins fs [] h = absurd cc
value_begins fs (inline_terminal t ∷ r) h = absurd cc
value_begins fs (word_terminal k ∷ r) h = value_word_moves k fs r h
value_begins fs (sign_terminal s ∷ r) h = value_sign_moves s fs r h
value_begins fs (_ ∷ r) h = refl

-- no expression begins with a semicolon, a closing bracket or a colon
pub value_no_semicolon : (ts : List Terminal) → value_first ts ≡ true → semicolon_next ts ≡ false
value_no_semicolon [] h = refl
value_no_semicolon (sign_terminal sign.Semicolon ∷ r) h = absurd cc
value_no_semicolon (sign_terminal _ ∷ r) h = refl
value_no_semicolon (_ ∷ r) h = refl

pub value_no_end : (l : Row) (ts : List Terminal) → value_first ts ≡ true → row_end_next l ts ≡ false
value_no_end row.Echo ts h = value_no_semicolon ts h
value_no_end row.Begin ts h = value_no_semicolon ts h
value_no_end (row.Next n c) [] h = refl
value_no_end (row.Next n c) (sign_terminal sign.CloseParen ∷ r) h = absurd cc
value_no_end (row.Next n c) (sign_terminal _ ∷ r) h = refl
value_no_end (row.Next n c) (_ ∷ r) h = refl

-- an `else` before an expression
else_word : (k : Keyword) (n : ℕ) (fs : List Frame) (r : List Terminal) → value_word k ≡ true → else_move n fs (word_terminal k ∷ r) ≡ moves focus.Begin (frame.Else n ∷ fs) (word_terminal k ∷ r) (open_action false ∷ [])
else_word word.If n fs r h = absurd cc
else_word _ n fs r h = refl

pub else_value : (n : ℕ) (fs : List Frame) (ts : List Terminal) → value_first ts ≡ true → else_move n fs ts ≡ moves focus.Begin (frame.Else n ∷ fs) ts (open_action false ∷ [])
else_value n fs [] h = refl
else_value n fs (word_terminal k ∷ r) h = else_word k n fs r h
else_value n fs (_ ∷ r) h = refl

-- each statement begins so
value_stmt_word : (k : Keyword) → value_word k ≡ true → stmt_word k ≡ true
value_stmt_word word.Function h = absurd cc
value_stmt_word word.ElseIf h = absurd cc
value_stmt_word word.Else h = absurd cc
value_stmt_word word.EndIf h = absurd cc
value_stmt_word word.EndWhile h = absurd cc
value_stmt_word word.EndFor h = absurd cc
value_stmt_word word.EndForeach h = absurd cc
value_stmt_word _ h = refl

value_stmt_sign : (s : Sign) → value_sign s ≡ true → stmt_sign s ≡ true
value_stmt_sign sign.CloseBrace h = absurd cc
value_stmt_sign sign.Colon h = absurd cc
value_stmt_sign _ h = refl

value_stmt : (ts : List Terminal) → value_first ts ≡ true → stmt_first ts ≡ true
value_stmt [] h = absurd cc
value_stmt (word_terminal k ∷ r) h = value_stmt_word k h
value_stmt (sign_terminal s ∷ r) h = value_stmt_sign s h
value_stmt (_ ∷ r) h = refl

include_first : (k : Keyword) → is_include k ≡ true → stmt_word k ≡ true
include_first word.Include is = refl
include_first word.Require is = refl
include_first _ is = absurd cc

pub stmt_begins : (s : StmtForm) (r : List Terminal) → stmt_first (stmt_terminals s r) ≡ true
unfolding stmt_terminals
stmt_begins semicolon_form r = refl
stmt_begins (inline_form t) r = refl
stmt_begins (block_form ss) r = refl
stmt_begins (echo_form e es) r = refl
stmt_begins (print_form e) r = refl
stmt_begins (run_form e) r = value_stmt _ (expr_first e (sign_terminal sign.Semicolon ∷ r))
stmt_begins (if_form e s a l) r = refl
stmt_begins (colon_if_form e ss a l) r = refl
stmt_begins (while_form e b) r = refl
stmt_begins (do_form s e) r = refl
stmt_begins (for_form begin e next b) r = refl
stmt_begins (each_form e v b) r = refl
stmt_begins break_form r = refl
stmt_begins continue_form r = refl
stmt_begins (return_form e) r = refl
stmt_begins (include_form k is t) r = include_first k is
stmt_begins (include_parens_form k is t) r = include_first k is
stmt_begins exit_form r = refl
stmt_begins (exit_parens_form e) r = refl

-- no statement begins with a colon or an `else`
pub stmt_no_colon : (ts : List Terminal) → stmt_first ts ≡ true → colon_next ts ≡ false
stmt_no_colon [] h = refl
stmt_no_colon (sign_terminal sign.Colon ∷ r) h = absurd cc
stmt_no_colon (sign_terminal _ ∷ r) h = refl
stmt_no_colon (_ ∷ r) h = refl

word_no_else : (k : Keyword) (r : List Terminal) → stmt_word k ≡ true → else_next (word_terminal k ∷ r) ≡ false
word_no_else word.Else r h = absurd cc
word_no_else word.ElseIf r h = absurd cc
word_no_else _ r h = refl

pub stmt_no_else : (ts : List Terminal) → stmt_first ts ≡ true → else_next ts ≡ false
stmt_no_else [] h = refl
stmt_no_else (word_terminal k ∷ r) h = word_no_else k r h
stmt_no_else (_ ∷ r) h = refl

-- Frames that hold many statements send each to where it begins.
pub block_sends : (fs : List Frame) (ts : List Terminal) → stmt_first ts ≡ true → move focus.Behind (frame.Block ∷ fs) ts ≡ moves focus.Begin (frame.Block ∷ fs) ts []
unfolding move
block_sends fs [] h = refl
block_sends fs (sign_terminal sign.CloseBrace ∷ r) h = absurd cc
block_sends fs (sign_terminal _ ∷ r) h = refl
block_sends fs (_ ∷ r) h = refl

pub function_sends : (fs : List Frame) (ts : List Terminal) → stmt_first ts ≡ true → move focus.Behind (frame.Function ∷ fs) ts ≡ moves focus.Begin (frame.Function ∷ fs) ts []
unfolding move
function_sends fs [] h = refl
function_sends fs (sign_terminal sign.CloseBrace ∷ r) h = absurd cc
function_sends fs (sign_terminal _ ∷ r) h = refl
function_sends fs (_ ∷ r) h = refl

pub colon_arm_sends : (n : ℕ) (fs : List Frame) (ts : List Terminal) → stmt_first ts ≡ true → move focus.Behind (frame.ColonArm n ∷ fs) ts ≡ moves focus.Begin (frame.ColonArm n ∷ fs) ts []
unfolding move
colon_arm_sends n fs [] h = refl
colon_arm_sends n fs (word_terminal word.ElseIf ∷ r) h = absurd cc
colon_arm_sends n fs (word_terminal word.Else ∷ r) h = absurd cc
colon_arm_sends n fs (word_terminal word.EndIf ∷ r) h = absurd cc
colon_arm_sends n fs (word_terminal _ ∷ r) h = refl
colon_arm_sends n fs (_ ∷ r) h = refl

pub colon_else_sends : (n : ℕ) (fs : List Frame) (ts : List Terminal) → stmt_first ts ≡ true → move focus.Behind (frame.ColonElse n ∷ fs) ts ≡ moves focus.Begin (frame.ColonElse n ∷ fs) ts []
unfolding move
colon_else_sends n fs [] h = refl
colon_else_sends n fs (word_terminal word.EndIf ∷ r) h = absurd cc
colon_else_sends n fs (word_terminal _ ∷ r) h = refl
colon_else_sends n fs (_ ∷ r) h = refl

word_goes_on : (l : Loop) (k : Keyword) → stmt_word k ≡ true → ends_loop l k ≡ false
word_goes_on loop.While word.EndWhile h = absurd cc
word_goes_on loop.While _ h = refl
word_goes_on (loop.For b c n) word.EndFor h = absurd cc
word_goes_on (loop.For b c n) _ h = refl
word_goes_on (loop.Each k x) word.EndForeach h = absurd cc
word_goes_on (loop.Each k x) _ h = refl

pub colon_body_sends : (l : Loop) (fs : List Frame) (ts : List Terminal) → stmt_first ts ≡ true → move focus.Behind (frame.ColonBody l ∷ fs) ts ≡ moves focus.Begin (frame.ColonBody l ∷ fs) ts []
unfolding move
colon_body_sends l fs [] h = refl
colon_body_sends l fs (word_terminal k ∷ r) h = ap (λ b. if b then jump_move (loop_action l) fs r else moves focus.Begin (frame.ColonBody l ∷ fs) (word_terminal k ∷ r) []) (word_goes_on l k h)
colon_body_sends l fs (_ ∷ r) h = refl

pub file_sends : (ts : List Terminal) → stmt_first ts ≡ true → move focus.Behind [] ts ≡ moves focus.Begin [] ts []
unfolding move
file_sends [] h = absurd cc
file_sends (word_terminal word.Function ∷ r) h = absurd cc
file_sends (word_terminal _ ∷ r) h = refl
file_sends (_ ∷ r) h = refl

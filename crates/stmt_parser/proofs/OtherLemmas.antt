-- The moves where what is looked for does not stand next.
use Rattle.std.proofs.Common.{◌≡◌, ◌≢◌, ℕ, Bool, true, false, List, [], ◌∷◌, refl, ap}
use Rattle.std.specs.Prelude.{Option, Some, None, if◌then◌else◌}
use Rattle.php_syntax.specs.declared.token.Sign.{Sign}
use Rattle.php_syntax.specs.declared.token.Sign.TheVariants as sign
use Rattle.script_grammar.specs.declared.keyword.Keyword.{Keyword}
use Rattle.script_grammar.specs.declared.keyword.Keyword.TheVariants as word
use Rattle.php_syntax.specs.Trees.{PlainExpr, no_expr}
use Rattle.script_grammar.specs.Terminals.{Terminal, inline_terminal, variable_terminal, word_terminal, name_terminal, int_terminal, text_terminal, sign_terminal}
use Rattle.stmt_machine.specs.declared.frame.Loop.{Loop}
use Rattle.stmt_machine.specs.declared.frame.Row.{Row}
use Rattle.stmt_machine.specs.declared.frame.Focus.TheVariants as focus
use Rattle.stmt_machine.specs.declared.frame.Frame.{Frame}
use Rattle.stmt_machine.specs.declared.frame.Frame.TheVariants as frame
use Rattle.stmt_machine.specs.Actions.{open_action, if_action, run_action, exit_action, parameter_action}
use Rattle.stmt_machine.specs.Machine.{moves, stuck, colon_next, semicolon_next, paren_end_next, condition_at, statement_at, behind_paren, value_move, word_move, sign_move, begin_move, include_move, exit_move, jump_move, more_move, literal_at, default_move, parameter_move, function_body_move, parameters_move, parameter_end_move, function_move, part_move, else_move, arm_move, colon_arm_move, colon_else_end_move, colon_body_move, do_move, block_move, function_end_move}
use Rattle.stmt_parser.specs.Nexts.{keyed_next, variable_next, each_next, colon_arm_end_next, included_next, with_rest, default_at, default_next}

-- a sign does not stand next
abbrev pub No : Sign → List Terminal → Type 0
No s ts = (r : List Terminal) → ts ≢ sign_terminal s ∷ r

abbrev pub NoWord : Keyword → List Terminal → Type 0
NoWord k ts = (r : List Terminal) → ts ≢ word_terminal k ∷ r

pub no_colon : (ts : List Terminal) → No sign.Colon ts → colon_next ts ≡ false
no_colon (sign_terminal sign.Colon ∷ r) h = absurd (h r refl)
no_colon _ h = refl

pub no_semicolon : (ts : List Terminal) → No sign.Semicolon ts → semicolon_next ts ≡ false
no_semicolon (sign_terminal sign.Semicolon ∷ r) h = absurd (h r refl)
no_semicolon _ h = refl

pub no_paren_end : (ts : List Terminal) → No sign.CloseParen ts → paren_end_next ts ≡ false
no_paren_end (sign_terminal sign.CloseParen ∷ r) h = absurd (h r refl)
no_paren_end _ h = refl

pub no_condition : (ts : List Terminal) → No sign.OpenParen ts → condition_at ts ≡ None
no_condition (sign_terminal sign.OpenParen ∷ r) h = absurd (h r refl)
no_condition _ h = refl

pub no_paren : (ts : List Terminal) → No sign.OpenParen ts → behind_paren ts ≡ None
no_paren (sign_terminal sign.OpenParen ∷ r) h = absurd (h r refl)
no_paren _ h = refl

-- foreach

pub keyed_none : (k : List ℕ) (fs : List Frame) (ts : List Terminal) → No sign.DoubleArrow ts → keyed_next k fs ts ≡ stuck
keyed_none k fs (sign_terminal sign.DoubleArrow ∷ variable_terminal x ∷ sign_terminal sign.CloseParen ∷ r) h = absurd (h _ refl)
keyed_none k fs _ h = refl

pub keyed_nameless : (k : List ℕ) (fs : List Frame) (ts : List Terminal) → ((x : List ℕ) (r : List Terminal) → ts ≢ variable_terminal x ∷ r) → keyed_next k fs (sign_terminal sign.DoubleArrow ∷ ts) ≡ stuck
keyed_nameless k fs (variable_terminal x ∷ sign_terminal sign.CloseParen ∷ r) h = absurd (h x _ refl)
keyed_nameless k fs _ h = refl

pub keyed_open : (k x : List ℕ) (fs : List Frame) (ts : List Terminal) → No sign.CloseParen ts → keyed_next k fs (sign_terminal sign.DoubleArrow ∷ variable_terminal x ∷ ts) ≡ stuck
keyed_open k x fs (sign_terminal sign.CloseParen ∷ r) h = absurd (h r refl)
keyed_open k x fs _ h = refl

pub variable_other : (x : List ℕ) (fs : List Frame) (ts : List Terminal) → No sign.CloseParen ts → variable_next x fs ts ≡ keyed_next x fs ts
variable_other x fs (sign_terminal sign.CloseParen ∷ r) h = absurd (h r refl)
variable_other x fs _ h = refl

pub each_none : (fs : List Frame) (ts : List Terminal) → NoWord word.As ts → each_next fs ts ≡ stuck
each_none fs (word_terminal word.As ∷ variable_terminal x ∷ r) h = absurd (h _ refl)
each_none fs _ h = refl

pub each_nameless : (fs : List Frame) (ts : List Terminal) → ((x : List ℕ) (r : List Terminal) → ts ≢ variable_terminal x ∷ r) → each_next fs (word_terminal word.As ∷ ts) ≡ stuck
each_nameless fs (variable_terminal x ∷ r) h = absurd (h x r refl)
each_nameless fs _ h = refl

-- include

pub included_none : (fs : List Frame) (ts : List Terminal) → ((t : List ℕ) (r : List Terminal) → ts ≢ text_terminal t ∷ r) → included_next fs ts ≡ stuck
included_none fs (text_terminal t ∷ sign_terminal sign.CloseParen ∷ r) h = absurd (h t _ refl)
included_none fs _ h = refl

pub included_open : (t : List ℕ) (fs : List Frame) (ts : List Terminal) → No sign.CloseParen ts → included_next fs (text_terminal t ∷ ts) ≡ stuck
included_open t fs (sign_terminal sign.CloseParen ∷ r) h = absurd (h r refl)
included_open t fs _ h = refl

pub include_parens : (fs : List Frame) (ts : List Terminal) → include_move fs (sign_terminal sign.OpenParen ∷ ts) ≡ included_next fs ts
include_parens fs (text_terminal t ∷ sign_terminal sign.CloseParen ∷ r) = refl
include_parens fs _ = refl

pub include_other : (fs : List Frame) (ts : List Terminal) → ((t : List ℕ) (r : List Terminal) → ts ≢ text_terminal t ∷ r) → No sign.OpenParen ts → include_move fs ts ≡ stuck
include_other fs (text_terminal t ∷ r) h k = absurd (h t r refl)
include_other fs (sign_terminal sign.OpenParen ∷ r) h k = absurd (k r refl)
include_other fs _ h k = refl

-- where a statement begins

pub exit_plain : (fs : List Frame) (ts : List Terminal) → No sign.OpenParen ts → exit_move fs ts ≡ jump_move (exit_action false) fs ts
exit_plain fs (sign_terminal sign.OpenParen ∷ r) h = absurd (h r refl)
exit_plain fs _ h = refl

pub word_other : (k : Keyword) (fs : List Frame) (r : List Terminal) → k ≢ word.Echo → k ≢ word.Print → k ≢ word.If → k ≢ word.While → k ≢ word.Do → k ≢ word.For → k ≢ word.Foreach → k ≢ word.Break → k ≢ word.Continue → k ≢ word.Return → k ≢ word.Include → k ≢ word.Require → k ≢ word.Exit → word_move k fs r ≡ value_move run_action fs (statement_at (word_terminal k ∷ r))
word_other word.Echo fs r a b c d e f g h i j l m n = absurd (a refl)
word_other word.Print fs r a b c d e f g h i j l m n = absurd (b refl)
word_other word.If fs r a b c d e f g h i j l m n = absurd (c refl)
word_other word.While fs r a b c d e f g h i j l m n = absurd (d refl)
word_other word.Do fs r a b c d e f g h i j l m n = absurd (e refl)
word_other word.For fs r a b c d e f g h i j l m n = absurd (f refl)
word_other word.Foreach fs r a b c d e f g h i j l m n = absurd (g refl)
word_other word.Break fs r a b c d e f g h i j l m n = absurd (h refl)
word_other word.Continue fs r a b c d e f g h i j l m n = absurd (i refl)
word_other word.Return fs r a b c d e f g h i j l m n = absurd (j refl)
word_other word.Include fs r a b c d e f g h i j l m n = absurd (l refl)
word_other word.Require fs r a b c d e f g h i j l m n = absurd (m refl)
word_other word.Exit fs r a b c d e f g h i j l m n = absurd (n refl)
word_other k fs r a b c d e f g h i j l m n = refl

pub sign_other : (s : Sign) (fs : List Frame) (r : List Terminal) → s ≢ sign.Semicolon → s ≢ sign.OpenBrace → sign_move s fs r ≡ value_move run_action fs (statement_at (sign_terminal s ∷ r))
sign_other sign.Semicolon fs r a b = absurd (a refl)
sign_other sign.OpenBrace fs r a b = absurd (b refl)
sign_other s fs r a b = refl

pub begin_other : (fs : List Frame) (ts : List Terminal) → ((s : Sign) (r : List Terminal) → ts ≢ sign_terminal s ∷ r) → ((k : Keyword) (r : List Terminal) → ts ≢ word_terminal k ∷ r) → ((t : List ℕ) (r : List Terminal) → ts ≢ inline_terminal t ∷ r) → begin_move fs ts ≡ value_move run_action fs (statement_at ts)
begin_other fs (inline_terminal t ∷ r) a b c = absurd (c t r refl)
begin_other fs (sign_terminal s ∷ r) a b c = absurd (a s r refl)
begin_other fs (word_terminal k ∷ r) a b c = absurd (b k r refl)
begin_other fs ts a b c = refl

pub more_none : (l : Row) (k : ℕ) (fs : List Frame) (ts : List Terminal) → No sign.Comma ts → more_move l k fs ts ≡ stuck
more_none l k fs (sign_terminal sign.Comma ∷ r) h = absurd (h r refl)
more_none l k fs _ h = refl

-- functions

default_found : (x : List ℕ) (found : Option PlainExpr) (fs : List Frame) (r : List Terminal) → default_move x found fs r ≡ default_next x fs (with_rest found r)
default_found x None fs r = refl
default_found x (Some e) fs r = refl

pub parameter_default : (x : List ℕ) (fs : List Frame) (t : Terminal) (r : List Terminal) → parameter_move fs (variable_terminal x ∷ sign_terminal sign.Assign ∷ t ∷ r) ≡ default_next x fs (default_at (t ∷ r))
parameter_default x fs (sign_terminal sign.Minus) (int_terminal z ∷ r) = refl
parameter_default x fs t r = default_found x (literal_at t) fs r

pub parameter_plain : (x : List ℕ) (fs : List Frame) (ts : List Terminal) → No sign.Assign ts → parameter_move fs (variable_terminal x ∷ ts) ≡ moves focus.BehindParameter fs ts (parameter_action x no_expr ∷ [])
parameter_plain x fs (sign_terminal sign.Assign ∷ r) h = absurd (h r refl)
parameter_plain x fs _ h = refl

pub parameter_none : (fs : List Frame) (ts : List Terminal) → ((x : List ℕ) (r : List Terminal) → ts ≢ variable_terminal x ∷ r) → parameter_move fs ts ≡ stuck
parameter_none fs (variable_terminal x ∷ r) h = absurd (h x r refl)
parameter_none fs _ h = refl

pub function_body_none : (fs : List Frame) (ts : List Terminal) → No sign.OpenBrace ts → function_body_move fs ts ≡ stuck
function_body_none fs (sign_terminal sign.OpenBrace ∷ r) h = absurd (h r refl)
function_body_none fs _ h = refl

pub parameters_some : (fs : List Frame) (ts : List Terminal) → No sign.CloseParen ts → parameters_move fs ts ≡ moves focus.Parameter fs ts []
parameters_some fs (sign_terminal sign.CloseParen ∷ r) h = absurd (h r refl)
parameters_some fs _ h = refl

pub parameter_end_none : (fs : List Frame) (ts : List Terminal) → No sign.CloseParen ts → No sign.Comma ts → parameter_end_move fs ts ≡ stuck
parameter_end_none fs (sign_terminal sign.CloseParen ∷ r) h k = absurd (h r refl)
parameter_end_none fs (sign_terminal sign.Comma ∷ r) h k = absurd (k r refl)
parameter_end_none fs _ h k = refl

pub function_nameless : (ts : List Terminal) → ((f : List ℕ) (r : List Terminal) → ts ≢ name_terminal f ∷ r) → function_move ts ≡ stuck
function_nameless (name_terminal f ∷ sign_terminal sign.OpenParen ∷ r) h = absurd (h f _ refl)
function_nameless _ h = refl

pub function_closed : (f : List ℕ) (ts : List Terminal) → No sign.OpenParen ts → function_move (name_terminal f ∷ ts) ≡ stuck
function_closed f (sign_terminal sign.OpenParen ∷ r) h = absurd (h r refl)
function_closed f _ h = refl

pub part_stmt : (t : Terminal) (r : List Terminal) → NoWord word.Function (t ∷ r) → part_move (t ∷ r) ≡ moves focus.Begin [] (t ∷ r) []
part_stmt (word_terminal word.Function) r h = absurd (h r refl)
part_stmt _ r h = refl

pub function_end_none : (fs : List Frame) (ts : List Terminal) → No sign.CloseBrace ts → function_end_move fs ts ≡ moves focus.Begin (frame.Function ∷ fs) ts []
function_end_none fs (sign_terminal sign.CloseBrace ∷ r) h = absurd (h r refl)
function_end_none fs _ h = refl

-- arms

pub else_plain : (k : ℕ) (fs : List Frame) (ts : List Terminal) → NoWord word.If ts → else_move k fs ts ≡ moves focus.Begin (frame.Else k ∷ fs) ts (open_action false ∷ [])
else_plain k fs (word_terminal word.If ∷ r) h = absurd (h r refl)
else_plain k fs _ h = refl

pub arm_end : (k : ℕ) (fs : List Frame) (ts : List Terminal) → NoWord word.ElseIf ts → NoWord word.Else ts → arm_move k fs ts ≡ moves focus.Behind fs ts (if_action k false ∷ [])
arm_end k fs (word_terminal word.ElseIf ∷ r) h g = absurd (h r refl)
arm_end k fs (word_terminal word.Else ∷ r) h g = absurd (g r refl)
arm_end k fs _ h g = refl

pub colon_arm_other : (k : ℕ) (fs : List Frame) (ts : List Terminal) → NoWord word.ElseIf ts → NoWord word.Else ts → colon_arm_move k fs ts ≡ colon_arm_end_next k fs ts
colon_arm_other k fs (word_terminal word.ElseIf ∷ r) h g = absurd (h r refl)
colon_arm_other k fs (word_terminal word.Else ∷ r) h g = absurd (g r refl)
colon_arm_other k fs (word_terminal word.EndIf ∷ r) h g = refl
colon_arm_other k fs _ h g = refl

pub colon_arm_none : (k : ℕ) (fs : List Frame) (ts : List Terminal) → NoWord word.EndIf ts → colon_arm_end_next k fs ts ≡ moves focus.Begin (frame.ColonArm k ∷ fs) ts []
colon_arm_none k fs (word_terminal word.EndIf ∷ r) h = absurd (h r refl)
colon_arm_none k fs _ h = refl

pub colon_else_none : (k : ℕ) (fs : List Frame) (ts : List Terminal) → NoWord word.EndIf ts → colon_else_end_move k fs ts ≡ moves focus.Begin (frame.ColonElse k ∷ fs) ts []
colon_else_none k fs (word_terminal word.EndIf ∷ r) h = absurd (h r refl)
colon_else_none k fs _ h = refl

-- the other ends

pub colon_body_none : (l : Loop) (fs : List Frame) (ts : List Terminal) → ((k : Keyword) (r : List Terminal) → ts ≢ word_terminal k ∷ r) → colon_body_move l fs ts ≡ moves focus.Begin (frame.ColonBody l ∷ fs) ts []
colon_body_none l fs (word_terminal k ∷ r) h = absurd (h k r refl)
colon_body_none l fs _ h = refl

pub do_none : (fs : List Frame) (ts : List Terminal) → NoWord word.While ts → do_move fs ts ≡ stuck
do_none fs (word_terminal word.While ∷ r) h = absurd (h r refl)
do_none fs _ h = refl

pub block_none : (fs : List Frame) (ts : List Terminal) → No sign.CloseBrace ts → block_move fs ts ≡ moves focus.Begin (frame.Block ∷ fs) ts []
block_none fs (sign_terminal sign.CloseBrace ∷ r) h = absurd (h r refl)
block_none fs _ h = refl

-- tests

pub if_false : {A : Type 0} (b : Bool) (x y : A) → b ≡ false → (if b then x else y) ≡ y
if_false b x y e = ap (λ v. if v then x else y) e

pub if_true : {A : Type 0} (b : Bool) (x y : A) → b ≡ true → (if b then x else y) ≡ x
if_true b x y e = ap (λ v. if v then x else y) e

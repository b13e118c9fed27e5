-- Each move from where a statement or a row begins makes the weight less.
use Rattle.std.proofs.Common.{◌≡◌, ℕ, ◌+◌, ◌*◌, ◌<◌, ◌≤◌, Bool, true, false, suc, List, [], ◌∷◌, length, refl, arith}
use Rattle.std.specs.Prelude.{Option, Some, None, if◌then◌else◌, ◌==◌}
use Rattle.php_syntax.specs.declared.token.Sign.{Sign}
use Rattle.php_syntax.specs.declared.token.Sign.TheVariants as sign
use Rattle.script_grammar.specs.declared.keyword.Keyword.{Keyword}
use Rattle.script_grammar.specs.declared.keyword.Keyword.TheVariants as word
use Rattle.script_grammar.specs.Terminals.{Terminal, inline_terminal, variable_terminal, word_terminal, text_terminal, sign_terminal}
use Rattle.expr_machine.specs.Actions.{Action}
use Rattle.expr_machine.specs.Machine.{behind}
use Rattle.expr_machine.specs.Reading.{expr_at}
use Rattle.stmt_machine.specs.declared.frame.Loop.{Loop}
use Rattle.stmt_machine.specs.declared.frame.Loop.TheVariants as loop
use Rattle.stmt_machine.specs.declared.frame.Row.{Row}
use Rattle.stmt_machine.specs.declared.frame.Row.TheVariants as row
use Rattle.stmt_machine.specs.declared.frame.Focus.TheVariants as focus
use Rattle.stmt_machine.specs.declared.frame.Frame.{Frame}
use Rattle.stmt_machine.specs.Actions.{StmtAction, value_action, run_action, echo_action, break_action, continue_action, return_action, include_action, exit_action}
use Rattle.stmt_machine.specs.Machine.{Move, moves, finished, stuck, colon_next, semicolon_next, paren_end_next, ended_by, condition_at, statement_at, value_move, listed_move, if_move, body_move, while_move, each_move, foreach_move, behind_paren, foreach_begin_move, for_begin_move, jump_move, return_move, include_move, argument_at, exit_parens_move, exit_move, word_move, sign_move, begin_move, row_end_next, start_move, row_end_move, more_move, row_move, for_condition_move, condition_move}
use Rattle.stmt_machine.specs.Reading.{weight}

-- a move leads to a weight below w
abbrev pub Falls : ℕ → Move → Type 0
Falls w (moves g gs r acts) = weight g gs r < w
Falls w finished = Unit {0}
Falls w stuck = Unit {0}

-- what stands behind an expression is shorter than n
abbrev pub Shorter : ℕ → Option (List Action × List Terminal) → Type 0
Shorter n None = Unit {0}
Shorter n (Some found) = length found.1 < n

-- the law of expressions
abbrev pub ReadsShorter : Type 0
ReadsShorter = (ts : List Terminal) (acts : List Action) (r : List Terminal) → expr_at ts ≡ Some (acts, r) → length r < length ts

pub test_falls : (w : ℕ) (b : Bool) (x y : Move) → (b ≡ true → Falls w x) → Falls w y → Falls w (if b then x else y)
test_falls w true x y p q = p refl
test_falls w false x y p q = q

pub if_falls : (w : ℕ) (b : Bool) (x y : Move) → Falls w x → Falls w y → Falls w (if b then x else y)
if_falls w true x y p q = p
if_falls w false x y p q = q

pub weaker : (w v : ℕ) (m : Move) → Falls w m → w ≤ v → Falls v m
weaker w v (moves g gs r acts) h p = omega arith
weaker w v finished h p = tt
weaker w v stuck h p = tt

pub behind_shorter : (ts : List Terminal) → length (behind ts) ≤ length ts
behind_shorter [] = omega arith
behind_shorter (t ∷ r) = omega arith

-- what stands behind an expression

read_short : (ts : List Terminal) (found : Option (List Action × List Terminal)) → ReadsShorter → expr_at ts ≡ found → Shorter (length ts) found
read_short ts None law e = tt
read_short ts (Some found) law e = law ts found.0 found.1 e

pub expr_short : ReadsShorter → (ts : List Terminal) → Shorter (length ts) (expr_at ts)
expr_short law ts = read_short ts (expr_at ts) law refl

pub short_weaker : (n k : ℕ) (found : Option (List Action × List Terminal)) → Shorter n found → n ≤ k → Shorter k found
short_weaker n k None h p = tt
short_weaker n k (Some found) h p = omega arith

tested_short : (n : ℕ) (b : Bool) (found : List Action × List Terminal) → length found.1 < n → Shorter n (if b then Some (found.0, behind found.1) else None)
tested_short n true found h = let p = behind_shorter found.1 in omega arith
tested_short n false found h = tt

ended_short : (n : ℕ) (test : List Terminal → Bool) (found : Option (List Action × List Terminal)) → Shorter n found → Shorter n (ended_by test found)
ended_short n test None h = tt
ended_short n test (Some found) h = tested_short n (test found.1) found h

pub condition_short : ReadsShorter → (ts : List Terminal) → Shorter (length ts) (condition_at ts)
condition_short law (sign_terminal sign.OpenParen ∷ r) = short_weaker (length r) (suc (length r)) (ended_by paren_end_next (expr_at r)) (ended_short (length r) paren_end_next (expr_at r) (expr_short law r)) (omega arith)
condition_short law _ = tt

pub statement_short : ReadsShorter → (ts : List Terminal) → Shorter (length ts) (statement_at ts)
statement_short law ts = ended_short (length ts) semicolon_next (expr_at ts) (expr_short law ts)

pub argument_short : ReadsShorter → (ts : List Terminal) → Shorter (length ts) (argument_at ts)
argument_short law ts = ended_short (length ts) semicolon_next (ended_by paren_end_next (expr_at ts)) (ended_short (length ts) paren_end_next (expr_at ts) (expr_short law ts))

-- moves behind an expression

-- the weight of n terminals and some frames
abbrev pub most : ℕ → List Frame → ℕ
most n fs = 64 * n + 2 * length fs

pub value_falls : (a : StmtAction) (fs : List Frame) (n : ℕ) (found : Option (List Action × List Terminal)) → Shorter n found → Falls (most n fs) (value_move a fs found)
value_falls a fs n None h = tt
value_falls a fs n (Some found) h = omega arith

pub listed_falls : (l : Row) (k : ℕ) (fs : List Frame) (n : ℕ) (found : Option (List Action × List Terminal)) → Shorter n found → Falls (most n fs) (listed_move l k fs found)
listed_falls l k fs n None h = tt
listed_falls l k fs n (Some found) h = omega arith

if_move_falls : (fs : List Frame) (n : ℕ) (found : Option (List Action × List Terminal)) → Shorter n found → Falls (most n fs) (if_move fs found)
if_move_falls fs n None h = tt
if_move_falls fs n (Some found) h =
    let p = behind_shorter found.1 in
    if_falls _ (colon_next found.1) _ _ (omega arith) (omega arith)

pub body_falls : (l : Loop) (fs : List Frame) (ts : List Terminal) (before : List StmtAction → List StmtAction) (n : ℕ) → length ts < n → Falls (most n fs) (body_move l fs ts before)
body_falls l fs ts before n h =
    let p = behind_shorter ts in
    if_falls _ (colon_next ts) _ _ (omega arith) (omega arith)

while_falls : (fs : List Frame) (n : ℕ) (found : Option (List Action × List Terminal)) → Shorter n found → Falls (most n fs) (while_move fs found)
while_falls fs n None h = tt
while_falls fs n (Some found) h = body_falls loop.While fs found.1 (λ acts. value_action found.0 ∷ acts) n h

each_falls : (acts : List Action) (fs : List Frame) (n : ℕ) (ts : List Terminal) → length ts < n → Falls (most n fs) (each_move acts fs ts)
each_falls acts fs n (word_terminal word.As ∷ variable_terminal x ∷ sign_terminal sign.CloseParen ∷ r) h = body_falls (loop.Each None x) fs r (λ more. value_action acts ∷ more) n (omega arith)
each_falls acts fs n (word_terminal word.As ∷ variable_terminal k ∷ sign_terminal sign.DoubleArrow ∷ variable_terminal x ∷ sign_terminal sign.CloseParen ∷ r) h = body_falls (loop.Each (Some k) x) fs r (λ more. value_action acts ∷ more) n (omega arith)
each_falls acts fs n _ h = tt

foreach_falls : (fs : List Frame) (n : ℕ) (found : Option (List Action × List Terminal)) → Shorter n found → Falls (most n fs) (foreach_move fs found)
foreach_falls fs n None h = tt
foreach_falls fs n (Some found) h = each_falls found.0 fs n found.1 h

foreach_begin_falls : ReadsShorter → (fs : List Frame) (ts : List Terminal) → Falls (most (suc (length ts)) fs) (foreach_begin_move fs (behind_paren ts))
foreach_begin_falls law fs (sign_terminal sign.OpenParen ∷ r) = weaker (most (length r) fs) _ (foreach_move fs (expr_at r)) (foreach_falls fs (length r) (expr_at r) (expr_short law r)) (omega arith)
foreach_begin_falls law fs _ = tt

for_begin_falls : (fs : List Frame) (ts : List Terminal) → Falls (most (suc (length ts)) fs) (for_begin_move fs (behind_paren ts))
for_begin_falls fs (sign_terminal sign.OpenParen ∷ r) = omega arith
for_begin_falls fs _ = tt

pub jump_falls : (a : StmtAction) (fs : List Frame) (ts : List Terminal) → Falls (most (suc (length ts)) fs) (jump_move a fs ts)
jump_falls a fs ts =
    let p = behind_shorter ts in
    if_falls _ (semicolon_next ts) _ _ (omega arith) tt

return_falls : ReadsShorter → (fs : List Frame) (ts : List Terminal) → Falls (most (suc (length ts)) fs) (return_move fs ts)
return_falls law fs ts =
    let p = behind_shorter ts in
    if_falls _ (semicolon_next ts) _ (value_move (return_action true) fs (statement_at ts)) (omega arith)
    (weaker (most (length ts) fs) _ (value_move (return_action true) fs (statement_at ts)) (value_falls (return_action true) fs (length ts) (statement_at ts) (statement_short law ts)) (omega arith))

include_falls : (fs : List Frame) (ts : List Terminal) → Falls (most (suc (length ts)) fs) (include_move fs ts)
include_falls fs (text_terminal t ∷ r) = weaker (most (suc (length r)) fs) _ (jump_move (include_action t) fs r) (jump_falls (include_action t) fs r) (omega arith)
include_falls fs (sign_terminal sign.OpenParen ∷ text_terminal t ∷ sign_terminal sign.CloseParen ∷ r) = weaker (most (suc (length r)) fs) _ (jump_move (include_action t) fs r) (jump_falls (include_action t) fs r) (omega arith)
include_falls fs _ = tt

exit_parens_falls : ReadsShorter → (fs : List Frame) (ts : List Terminal) → Falls (most (suc (length ts)) fs) (exit_parens_move fs ts)
exit_parens_falls law fs ts =
    let p = behind_shorter ts in
    if_falls _ (paren_end_next ts) (jump_move (exit_action false) fs (behind ts)) (value_move (exit_action true) fs (argument_at ts))
    (weaker (most (suc (length (behind ts))) fs) _ (jump_move (exit_action false) fs (behind ts)) (jump_falls (exit_action false) fs (behind ts)) (omega arith))
    (weaker (most (length ts) fs) _ (value_move (exit_action true) fs (argument_at ts)) (value_falls (exit_action true) fs (length ts) (argument_at ts) (argument_short law ts)) (omega arith))

exit_falls : ReadsShorter → (fs : List Frame) (ts : List Terminal) → Falls (most (suc (length ts)) fs) (exit_move fs ts)
exit_falls law fs (sign_terminal sign.OpenParen ∷ r) = weaker (most (suc (length r)) fs) _ (exit_parens_move fs r) (exit_parens_falls law fs r) (omega arith)
exit_falls law fs ts = jump_falls (exit_action false) fs ts

-- a value at the beginning, and behind a word
here : ReadsShorter → (a : StmtAction) (fs : List Frame) (ts : List Terminal) → Falls (most (length ts) fs) (value_move a fs (statement_at ts))
here law a fs ts = value_falls a fs (length ts) (statement_at ts) (statement_short law ts)

word_falls : ReadsShorter → (k : Keyword) (fs : List Frame) (r : List Terminal) → Falls (most (suc (length r)) fs) (word_move k fs r)
word_falls law word.Echo fs r = listed_falls row.Echo 1 fs (suc (length r)) (expr_at r) (short_weaker (length r) _ (expr_at r) (expr_short law r) (omega arith))
word_falls law word.Print fs r = value_falls (echo_action 1) fs (suc (length r)) (statement_at r) (short_weaker (length r) _ (statement_at r) (statement_short law r) (omega arith))
word_falls law word.If fs r = if_move_falls fs (suc (length r)) (condition_at r) (short_weaker (length r) _ (condition_at r) (condition_short law r) (omega arith))
word_falls law word.While fs r = while_falls fs (suc (length r)) (condition_at r) (short_weaker (length r) _ (condition_at r) (condition_short law r) (omega arith))
word_falls law word.Do fs r = omega arith
word_falls law word.For fs r = for_begin_falls fs r
word_falls law word.Foreach fs r = foreach_begin_falls law fs r
word_falls law word.Break fs r = jump_falls break_action fs r
word_falls law word.Continue fs r = jump_falls continue_action fs r
word_falls law word.Return fs r = return_falls law fs r
word_falls law word.Include fs r = include_falls fs r
word_falls law word.Require fs r = include_falls fs r
word_falls law word.Exit fs r = exit_falls law fs r
word_falls law k fs r = here law run_action fs (word_terminal k ∷ r)

sign_falls : ReadsShorter → (s : Sign) (fs : List Frame) (r : List Terminal) → Falls (most (suc (length r)) fs) (sign_move s fs r)
sign_falls law sign.Semicolon fs r = omega arith
sign_falls law sign.OpenBrace fs r = omega arith
sign_falls law s fs r = here law run_action fs (sign_terminal s ∷ r)

pub begin_falls : ReadsShorter → (fs : List Frame) (ts : List Terminal) → Falls (most (length ts) fs) (begin_move fs ts)
begin_falls law fs (inline_terminal t ∷ r) = omega arith
begin_falls law fs (sign_terminal s ∷ r) = sign_falls law s fs r
begin_falls law fs (word_terminal k ∷ r) = word_falls law k fs r
begin_falls law fs ts = here law run_action fs ts

-- rows

pub semicolon_shorter : (ts : List Terminal) → semicolon_next ts ≡ true → length (behind ts) < length ts
semicolon_shorter [] e = absurd (cc)
semicolon_shorter (t ∷ r) e = omega arith

paren_end_shorter : (ts : List Terminal) → paren_end_next ts ≡ true → length (behind ts) < length ts
paren_end_shorter [] e = absurd (cc)
paren_end_shorter (t ∷ r) e = omega arith

row_end_shorter : (l : Row) (ts : List Terminal) → row_end_next l ts ≡ true → length (behind ts) < length ts
row_end_shorter row.Echo ts e = semicolon_shorter ts e
row_end_shorter row.Begin ts e = semicolon_shorter ts e
row_end_shorter (row.Next n c) ts e = paren_end_shorter ts e

pub start_falls : ReadsShorter → (l : Row) (fs : List Frame) (ts : List Terminal) → Falls (weight (focus.Start l) fs ts) (start_move l fs ts)
start_falls law l fs ts = if_falls _ (row_end_next l ts) _ (listed_move l 1 fs (expr_at ts)) (omega arith) (weaker (most (length ts) fs) _ (listed_move l 1 fs (expr_at ts)) (listed_falls l 1 fs (length ts) (expr_at ts) (expr_short law ts)) (omega arith))

row_end_falls : (l : Row) (k : ℕ) (fs : List Frame) (r : List Terminal) (n : ℕ) → length r < n → Falls (most n fs) (row_end_move l k fs r)
row_end_falls row.Echo k fs r n h = omega arith
row_end_falls row.Begin k fs r n h = omega arith
row_end_falls (row.Next b c) k fs r n h = body_falls (loop.For b c k) fs r (λ acts. acts) n h

more_falls : ReadsShorter → (l : Row) (k : ℕ) (fs : List Frame) (ts : List Terminal) → Falls (most (length ts) fs) (more_move l k fs ts)
more_falls law l k fs (sign_terminal sign.Comma ∷ r) = if_falls _ (k == 0) stuck (listed_move l (k + 1) fs (expr_at r)) tt (listed_falls l (k + 1) fs (suc (length r)) (expr_at r) (short_weaker (length r) _ (expr_at r) (expr_short law r) (omega arith)))
more_falls law l k fs _ = tt

pub row_falls : ReadsShorter → (l : Row) (k : ℕ) (fs : List Frame) (ts : List Terminal) → Falls (weight (focus.Listed l k) fs ts) (row_move l k fs ts)
row_falls law l k fs ts =
    weaker (most (length ts) fs) _ (row_move l k fs ts)
    (test_falls _ (row_end_next l ts) (row_end_move l k fs (behind ts)) (more_move l k fs ts) (λ e. row_end_falls l k fs (behind ts) (length ts) (row_end_shorter l ts e)) (more_falls law l k fs ts))
    (omega arith)

-- the condition of a `for`

for_condition_falls : (k : ℕ) (fs : List Frame) (n : ℕ) (found : Option (List Action × List Terminal)) → Shorter n found → Falls (most n fs) (for_condition_move k fs found)
for_condition_falls k fs n None h = tt
for_condition_falls k fs n (Some found) h = omega arith

-- it begins behind a semicolon
from_semicolon : (k : ℕ) (fs : List Frame) (ts : List Terminal) → length (behind ts) < length ts → weight (focus.Start (row.Next k false)) fs (behind ts) < most (length ts) fs
from_semicolon k fs ts h = omega arith

pub condition_falls : ReadsShorter → (k : ℕ) (fs : List Frame) (ts : List Terminal) → Falls (most (length ts) fs) (condition_move k fs ts)
condition_falls law k fs ts = test_falls _ (semicolon_next ts) _ (for_condition_move k fs (statement_at ts)) (λ e. from_semicolon k fs ts (semicolon_shorter ts e)) (for_condition_falls k fs (length ts) (statement_at ts) (statement_short law ts))

-- Each move behind a statement and in a function makes the weight less.
use Rattle.std.proofs.Common.{ℕ, ◌<◌, true, false, suc, List, [], ◌∷◌, length, arith}
use Rattle.std.specs.Prelude.{Option, Some, None}
use Rattle.php_syntax.specs.declared.token.Sign.TheVariants as sign
use Rattle.script_grammar.specs.declared.keyword.Keyword.TheVariants as word
use Rattle.php_syntax.specs.Trees.{PlainExpr, neg_expr, int_expr}
use Rattle.script_grammar.specs.Terminals.{Terminal, variable_terminal, word_terminal, name_terminal, int_terminal, sign_terminal}
use Rattle.expr_machine.specs.Actions.{Action}
use Rattle.stmt_machine.specs.declared.frame.Loop.{Loop}
use Rattle.stmt_machine.specs.declared.frame.Focus.{Focus}
use Rattle.stmt_machine.specs.declared.frame.Focus.TheVariants as focus
use Rattle.stmt_machine.specs.declared.frame.Frame.{Frame}
use Rattle.stmt_machine.specs.declared.frame.Frame.TheVariants as frame
use Rattle.stmt_machine.specs.Actions.{StmtAction, if_action, loop_action}
use Rattle.stmt_machine.specs.Machine.{Move, move, colon_next, semicolon_next, condition_at, jump_move, literal_at, default_move, parameter_move, function_body_move, parameters_move, parameter_end_move, function_move, part_move, elseif_move, else_if_move, else_move, arm_move, colon_elseif_move, colon_else_move, colon_arm_move, colon_else_end_move, ends_loop, colon_body_move, do_end_move, do_move, block_move, function_end_move, behind_move}
use Rattle.stmt_machine.specs.Reading.{weight}
use Rattle.stmt_machine.proofs.Falls.{Falls, Shorter, ReadsShorter, if_falls, weaker, behind_shorter, condition_short, most, jump_falls, begin_falls, start_falls, row_falls, condition_falls}

-- functions

default_falls : (x : List ℕ) (found : Option PlainExpr) (fs : List Frame) (r : List Terminal) (n : ℕ) → length r < n → Falls (most n fs) (default_move x found fs r)
default_falls x None fs r n h = tt
default_falls x (Some e) fs r n h = omega arith

parameter_falls : (fs : List Frame) (ts : List Terminal) → Falls (most (length ts) fs) (parameter_move fs ts)
parameter_falls fs (variable_terminal x ∷ sign_terminal sign.Assign ∷ sign_terminal sign.Minus ∷ int_terminal z ∷ r) = default_falls x (Some (neg_expr (int_expr z))) fs r (suc (suc (suc (suc (length r))))) (omega arith)
parameter_falls fs (variable_terminal x ∷ sign_terminal sign.Assign ∷ t ∷ r) = default_falls x (literal_at t) fs r (suc (suc (suc (length r)))) (omega arith)
parameter_falls fs (variable_terminal x ∷ r) = omega arith
parameter_falls fs _ = tt

function_body_falls : (fs : List Frame) (ts : List Terminal) → Falls (most (length ts) fs) (function_body_move fs ts)
function_body_falls fs (sign_terminal sign.OpenBrace ∷ r) = omega arith
function_body_falls fs _ = tt

parameters_falls : (fs : List Frame) (ts : List Terminal) → Falls (weight focus.Parameters fs ts) (parameters_move fs ts)
parameters_falls fs (sign_terminal sign.CloseParen ∷ r) = weaker (most (length r) fs) _ (function_body_move fs r) (function_body_falls fs r) (omega arith)
parameters_falls fs ts = omega arith

parameter_end_falls : (fs : List Frame) (ts : List Terminal) → Falls (most (length ts) fs) (parameter_end_move fs ts)
parameter_end_falls fs (sign_terminal sign.CloseParen ∷ r) = weaker (most (length r) fs) _ (function_body_move fs r) (function_body_falls fs r) (omega arith)
parameter_end_falls fs (sign_terminal sign.Comma ∷ r) = omega arith
parameter_end_falls fs _ = tt

function_falls : (ts : List Terminal) → Falls (most (suc (length ts)) []) (function_move ts)
function_falls (name_terminal f ∷ sign_terminal sign.OpenParen ∷ r) = omega arith
function_falls _ = tt

part_falls : (ts : List Terminal) → Falls (weight focus.Behind [] ts) (part_move ts)
part_falls [] = tt
part_falls (word_terminal word.Function ∷ r) = weaker (most (suc (length r)) []) _ (function_move r) (function_falls r) (omega arith)
part_falls ts = omega arith

-- arms

elseif_falls : (k : ℕ) (fs : List Frame) (n : ℕ) (found : Option (List Action × List Terminal)) → Shorter n found → Falls (most (suc n) fs) (elseif_move k fs found)
elseif_falls k fs n None h = tt
elseif_falls k fs n (Some found) h = omega arith

else_if_falls : (k : ℕ) (fs : List Frame) (n : ℕ) (found : Option (List Action × List Terminal)) → Shorter n found → Falls (most (suc n) fs) (else_if_move k fs found)
else_if_falls k fs n None h = tt
else_if_falls k fs n (Some found) h =
    let p = behind_shorter found.1 in
    if_falls _ (colon_next found.1) _ _ (omega arith) (omega arith)

else_falls : ReadsShorter → (k : ℕ) (fs : List Frame) (ts : List Terminal) → Falls (most (suc (length ts)) fs) (else_move k fs ts)
else_falls law k fs (word_terminal word.If ∷ r) = weaker (most (suc (length r)) fs) _ (else_if_move k fs (condition_at r)) (else_if_falls k fs (length r) (condition_at r) (condition_short law r)) (omega arith)
else_falls law k fs ts = omega arith

arm_falls : ReadsShorter → (k : ℕ) (fs : List Frame) (ts : List Terminal) → Falls (weight focus.Behind (frame.Arm k ∷ fs) ts) (arm_move k fs ts)
arm_falls law k fs (word_terminal word.ElseIf ∷ r) = weaker (most (suc (length r)) fs) _ (elseif_move k fs (condition_at r)) (elseif_falls k fs (length r) (condition_at r) (condition_short law r)) (omega arith)
arm_falls law k fs (word_terminal word.Else ∷ r) = weaker (most (suc (length r)) fs) _ (else_move k fs r) (else_falls law k fs r) (omega arith)
arm_falls law k fs ts = omega arith

colon_elseif_falls : (k : ℕ) (fs : List Frame) (n : ℕ) (found : Option (List Action × List Terminal)) → Shorter n found → Falls (most (suc n) fs) (colon_elseif_move k fs found)
colon_elseif_falls k fs n None h = tt
colon_elseif_falls k fs n (Some found) h =
    let p = behind_shorter found.1 in
    if_falls _ (colon_next found.1) _ _ (omega arith) tt

colon_else_falls : (k : ℕ) (fs : List Frame) (ts : List Terminal) → Falls (most (suc (length ts)) fs) (colon_else_move k fs ts)
colon_else_falls k fs ts =
    let p = behind_shorter ts in
    if_falls _ (colon_next ts) _ _ (omega arith) tt

jumps : (a : StmtAction) (f : Frame) (fs : List Frame) (k : Terminal) (r : List Terminal) → Falls (weight focus.Behind (f ∷ fs) (k ∷ r)) (jump_move a fs r)
jumps a f fs k r = weaker (most (suc (length r)) fs) _ (jump_move a fs r) (jump_falls a fs r) (omega arith)

colon_arm_falls : ReadsShorter → (k : ℕ) (fs : List Frame) (ts : List Terminal) → Falls (weight focus.Behind (frame.ColonArm k ∷ fs) ts) (colon_arm_move k fs ts)
colon_arm_falls law k fs (word_terminal word.ElseIf ∷ r) = weaker (most (suc (length r)) fs) _ (colon_elseif_move k fs (condition_at r)) (colon_elseif_falls k fs (length r) (condition_at r) (condition_short law r)) (omega arith)
colon_arm_falls law k fs (word_terminal word.Else ∷ r) = weaker (most (suc (length r)) fs) _ (colon_else_move k fs r) (colon_else_falls k fs r) (omega arith)
colon_arm_falls law k fs (word_terminal word.EndIf ∷ r) = jumps (if_action k false) (frame.ColonArm k) fs (word_terminal word.EndIf) r
colon_arm_falls law k fs ts = omega arith

colon_else_end_falls : (k : ℕ) (fs : List Frame) (ts : List Terminal) → Falls (weight focus.Behind (frame.ColonElse k ∷ fs) ts) (colon_else_end_move k fs ts)
colon_else_end_falls k fs (word_terminal word.EndIf ∷ r) = jumps (if_action k true) (frame.ColonElse k) fs (word_terminal word.EndIf) r
colon_else_end_falls k fs ts = omega arith

-- the other ends

colon_body_falls : (l : Loop) (fs : List Frame) (ts : List Terminal) → Falls (weight focus.Behind (frame.ColonBody l ∷ fs) ts) (colon_body_move l fs ts)
colon_body_falls l fs (word_terminal k ∷ r) = if_falls _ (ends_loop l k) (jump_move (loop_action l) fs r) _ (jumps (loop_action l) (frame.ColonBody l) fs (word_terminal k) r) (omega arith)
colon_body_falls l fs ts = omega arith

do_end_falls : (fs : List Frame) (n : ℕ) (found : Option (List Action × List Terminal)) → Shorter n found → Falls (most (suc n) fs) (do_end_move fs found)
do_end_falls fs n None h = tt
do_end_falls fs n (Some found) h =
    let p = behind_shorter found.1 in
    if_falls _ (semicolon_next found.1) _ _ (omega arith) tt

do_falls : ReadsShorter → (fs : List Frame) (ts : List Terminal) → Falls (weight focus.Behind (frame.Do ∷ fs) ts) (do_move fs ts)
do_falls law fs (word_terminal word.While ∷ r) = weaker (most (suc (length r)) fs) _ (do_end_move fs (condition_at r)) (do_end_falls fs (length r) (condition_at r) (condition_short law r)) (omega arith)
do_falls law fs _ = tt

block_falls : (fs : List Frame) (ts : List Terminal) → Falls (weight focus.Behind (frame.Block ∷ fs) ts) (block_move fs ts)
block_falls fs (sign_terminal sign.CloseBrace ∷ r) = omega arith
block_falls fs ts = omega arith

function_end_falls : (fs : List Frame) (ts : List Terminal) → Falls (weight focus.Behind (frame.Function ∷ fs) ts) (function_end_move fs ts)
function_end_falls fs (sign_terminal sign.CloseBrace ∷ r) = omega arith
function_end_falls fs ts = omega arith

behind_falls : ReadsShorter → (fs : List Frame) (ts : List Terminal) → Falls (weight focus.Behind fs ts) (behind_move fs ts)
behind_falls law [] ts = part_falls ts
behind_falls law (frame.Block ∷ fs) ts = block_falls fs ts
behind_falls law (frame.Arm n ∷ fs) ts = arm_falls law n fs ts
behind_falls law (frame.Else n ∷ fs) ts = omega arith
behind_falls law (frame.ColonArm n ∷ fs) ts = colon_arm_falls law n fs ts
behind_falls law (frame.ColonElse n ∷ fs) ts = colon_else_end_falls n fs ts
behind_falls law (frame.Body l ∷ fs) ts = omega arith
behind_falls law (frame.ColonBody l ∷ fs) ts = colon_body_falls l fs ts
behind_falls law (frame.Do ∷ fs) ts = do_falls law fs ts
behind_falls law (frame.Function ∷ fs) ts = function_end_falls fs ts

-- from any place

plain_falls : (f : Focus) (fs : List Frame) (ts : List Terminal) (m : Move) → Falls (most (length ts) fs) m → Falls (weight f fs ts) m
plain_falls f fs ts m h = weaker (most (length ts) fs) _ m h (omega arith)

pub move_falls : ReadsShorter → (f : Focus) (fs : List Frame) (ts : List Terminal) → Falls (weight f fs ts) (move f fs ts)
unfolding move
move_falls law focus.Begin fs ts = plain_falls focus.Begin fs ts (move focus.Begin fs ts) (begin_falls law fs ts)
move_falls law focus.Behind fs ts = behind_falls law fs ts
move_falls law (focus.Start l) fs ts = start_falls law l fs ts
move_falls law (focus.Listed l n) fs ts = row_falls law l n fs ts
move_falls law (focus.Condition n) fs ts = plain_falls (focus.Condition n) fs ts (move (focus.Condition n) fs ts) (condition_falls law n fs ts)
move_falls law focus.Parameters fs ts = parameters_falls fs ts
move_falls law focus.Parameter fs ts = plain_falls focus.Parameter fs ts (move focus.Parameter fs ts) (parameter_falls fs ts)
move_falls law focus.BehindParameter fs ts = plain_falls focus.BehindParameter fs ts (move focus.BehindParameter fs ts) (parameter_end_falls fs ts)

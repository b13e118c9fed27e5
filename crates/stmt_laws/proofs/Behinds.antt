-- The moves behind a statement carry what stands behind them.
use Rattle.std.proofs.Common.{◌≡◌, ℕ, ◌+◌, Bool, true, false, List, [], ◌∷◌, refl, subst}
use Rattle.std.specs.Prelude.{if◌then◌else◌}
use Rattle.php_syntax.specs.declared.token.Sign.TheVariants as sign
use Rattle.script_grammar.specs.declared.keyword.Keyword.{Keyword}
use Rattle.script_grammar.specs.declared.keyword.Keyword.TheVariants as word
use Rattle.script_grammar.specs.Terminals.{Terminal, name_terminal, word_terminal, sign_terminal}
use Rattle.script_grammar.specs.Statements.{condition_terminals}
use Rattle.expr_machine.specs.Postfix.{expr_actions}
use Rattle.stmt_machine.specs.declared.frame.Loop.{Loop}
use Rattle.stmt_machine.specs.declared.frame.Loop.TheVariants as loop
use Rattle.stmt_machine.specs.declared.frame.Focus.TheVariants as focus
use Rattle.stmt_machine.specs.declared.frame.Frame.{Frame}
use Rattle.stmt_machine.specs.declared.frame.Frame.TheVariants as frame
use Rattle.stmt_machine.specs.Actions.{StmtAction, value_action, open_action, if_action, loop_action, do_action, function_end_action}
use Rattle.stmt_machine.specs.Machine.{moves, stuck, condition_at, function_move, part_move, elseif_move, else_if_move, else_move, arm_move, colon_elseif_move, colon_else_move, colon_arm_move, colon_else_end_move, ends_loop, jump_move, colon_body_move, do_end_move, do_move, block_move, function_end_move, behind_move}
use Rattle.stmt_laws.proofs.Shapes.{here}
use Rattle.stmt_laws.proofs.Stands.{FileRest, StmtsThen, BlockRest, FunctionRest, ArmRest, ColonArmRest, ColonElseRest, ColonBodyRest, DoRest, end_word, brace_then, word_then, Later, Carries}
use Rattle.stmt_laws.proofs.Built.{no_stmt, more_stmt}
use Rattle.stmt_laws.proofs.SoundBranches.{branch, arm_end, elseif_read, else_if_read, else_colon_if_read, else_read, colon_more, colon_end, colon_arm_read, colon_else_read}
use Rattle.stmt_laws.proofs.Parts.{file_end, stmt_part_read, function_part_read}
use Rattle.stmt_laws.proofs.Cases.{ExprSound, condition_case, semicolon_case, colon_case}
use Rattle.stmt_laws.proofs.SoundAhead.{false_true}
use Rattle.stmt_laws.proofs.SoundBegins.{jump_carries}

-- the parts of a file
function_carries : (ts : List Terminal) → Carries (function_move ts) (FileRest (word_terminal word.Function ∷ ts))
function_carries (name_terminal f ∷ sign_terminal sign.OpenParen ∷ r) = λ bs g. function_part_read f g
function_carries ts = tt

part_carries : (ts : List Terminal) → Carries (part_move ts) (FileRest ts)
part_carries [] = file_end
part_carries (word_terminal word.Function ∷ r) = function_carries r
part_carries ts = λ bs g. stmt_part_read g

-- arms
elseif_carries : ExprSound → (n : ℕ) (fs : List Frame) (ts : List Terminal) → Carries (elseif_move n fs (condition_at ts)) (ArmRest n (Later fs) (word_terminal word.ElseIf ∷ ts))
elseif_carries sound n fs ts =
    condition_case sound (λ o us. Carries (elseif_move n fs o) (ArmRest n (Later fs) (word_terminal word.ElseIf ∷ us))) (λ us. tt) (λ e r bs g. elseif_read n e (branch (n + 1) g)) ts

else_if_carries : ExprSound → (n : ℕ) (fs : List Frame) (ts : List Terminal) → Carries (else_if_move n fs (condition_at ts)) (ArmRest n (Later fs) (word_terminal word.Else ∷ word_terminal word.If ∷ ts))
else_if_carries sound n fs ts =
    condition_case sound (λ o us. Carries (else_if_move n fs o) (ArmRest n (Later fs) (word_terminal word.Else ∷ word_terminal word.If ∷ us))) (λ us. tt)
    (λ e r. colon_case
    (λ b left us. Carries
    (if b then moves focus.Behind (frame.ColonArm 1 ∷ frame.Else n ∷ fs) left (open_action false ∷ value_action (expr_actions e []) ∷ open_action false ∷ [])
    else moves focus.Begin (frame.Arm (n + 1) ∷ fs) us (open_action false ∷ value_action (expr_actions e []) ∷ []))
    (ArmRest n (Later fs) (word_terminal word.Else ∷ word_terminal word.If ∷ condition_terminals e us)))
    (λ left bs g. else_colon_if_read n e g)
    (λ us bs g. else_if_read n e (branch (n + 1) g))
    r)
    ts

else_carries : ExprSound → (n : ℕ) (fs : List Frame) (ts : List Terminal) → Carries (else_move n fs ts) (ArmRest n (Later fs) (word_terminal word.Else ∷ ts))
else_carries sound n fs (word_terminal word.If ∷ r) = else_if_carries sound n fs r
else_carries sound n fs ts = λ bs g. else_read n refl g

arm_carries : ExprSound → (n : ℕ) (fs : List Frame) (ts : List Terminal) → Carries (arm_move n fs ts) (ArmRest n (Later fs) ts)
arm_carries sound n fs (word_terminal word.ElseIf ∷ r) = elseif_carries sound n fs r
arm_carries sound n fs (word_terminal word.Else ∷ r) = else_carries sound n fs r
arm_carries sound n fs ts = λ bs g. arm_end n ts bs refl g

-- arms in the form with `:`
colon_elseif_carries : ExprSound → (n : ℕ) (fs : List Frame) (ts : List Terminal) → Carries (colon_elseif_move n fs (condition_at ts)) (ColonArmRest n (Later fs) (word_terminal word.ElseIf ∷ ts))
colon_elseif_carries sound n fs ts =
    condition_case sound (λ o us. Carries (colon_elseif_move n fs o) (ColonArmRest n (Later fs) (word_terminal word.ElseIf ∷ us))) (λ us. tt)
    (λ e r. colon_case
    (λ b left us. Carries (if b then moves focus.Behind (frame.ColonArm (n + 1) ∷ fs) left (value_action (expr_actions e []) ∷ open_action false ∷ []) else stuck)
    (ColonArmRest n (Later fs) (word_terminal word.ElseIf ∷ condition_terminals e us)))
    (λ left bs g. colon_arm_read n e g)
    (λ us. tt)
    r)
    ts

colon_else_carries : (n : ℕ) (fs : List Frame) (ts : List Terminal) → Carries (colon_else_move n fs ts) (ColonArmRest n (Later fs) (word_terminal word.Else ∷ ts))
colon_else_carries n fs ts =
    colon_case (λ b left us. Carries (if b then moves focus.Behind (frame.ColonElse n ∷ fs) left (open_action false ∷ []) else stuck) (ColonArmRest n (Later fs) (word_terminal word.Else ∷ us)))
    (λ left bs g. colon_else_read n g) (λ us. tt) ts

endif_carries : (n : ℕ) (fs : List Frame) (ts : List Terminal) → Carries (jump_move (if_action n false) fs ts) (ColonArmRest n (Later fs) (word_terminal word.EndIf ∷ ts))
endif_carries n fs ts = jump_carries (if_action n false) fs (λ us bs. ColonArmRest n (Later fs) (word_terminal word.EndIf ∷ us) bs) (λ r bs g. colon_end n r bs g) ts

colon_arm_carries : ExprSound → (n : ℕ) (fs : List Frame) (ts : List Terminal) → Carries (colon_arm_move n fs ts) (ColonArmRest n (Later fs) ts)
colon_arm_carries sound n fs (word_terminal word.ElseIf ∷ r) = colon_elseif_carries sound n fs r
colon_arm_carries sound n fs (word_terminal word.Else ∷ r) = colon_else_carries n fs r
colon_arm_carries sound n fs (word_terminal word.EndIf ∷ r) = endif_carries n fs r
colon_arm_carries sound n fs ts = λ bs g. colon_more n g

-- statements up to a word and a semicolon
word_end_carries : (k : Keyword) (a : StmtAction) (fs : List Frame) (ts : List Terminal)
    → Carries (jump_move a fs ts) (StmtsThen (word_then k) (λ bs. a ∷ bs) (Later fs) (word_terminal k ∷ ts))
word_end_carries k a fs ts =
    jump_carries a fs (λ us bs. StmtsThen (word_then k) (λ cs. a ∷ cs) (Later fs) (word_terminal k ∷ us) bs) (λ r bs g. no_stmt (word_then k) (λ cs. a ∷ cs) r bs g) ts

colon_else_end_carries : (n : ℕ) (fs : List Frame) (ts : List Terminal) → Carries (colon_else_end_move n fs ts) (ColonElseRest n (Later fs) ts)
colon_else_end_carries n fs (word_terminal word.EndIf ∷ r) = word_end_carries word.EndIf (if_action n true) fs r
colon_else_end_carries n fs ts = λ bs g. more_stmt (word_then word.EndIf) (λ cs. if_action n true ∷ cs) g

-- the word that ends a loop
ends_so : (l : Loop) (k : Keyword) → ends_loop l k ≡ true → end_word l ≡ k
ends_so loop.While word.EndWhile e = refl
ends_so (loop.For b c n) word.EndFor e = refl
ends_so (loop.Each x y) word.EndForeach e = refl
ends_so l k e = absurd (false_true e)

loop_end_carries : (l : Loop) (k : Keyword) → end_word l ≡ k → (fs : List Frame) (ts : List Terminal) → Carries (jump_move (loop_action l) fs ts) (ColonBodyRest l (Later fs) (word_terminal k ∷ ts))
loop_end_carries l k e fs ts = subst (λ w. Carries (jump_move (loop_action l) fs ts) (ColonBodyRest l (Later fs) (word_terminal w ∷ ts))) e (word_end_carries (end_word l) (loop_action l) fs ts)

loop_word_carries : (l : Loop) (k : Keyword) (b : Bool) → ends_loop l k ≡ b → (fs : List Frame) (ts : List Terminal)
    → Carries (if b then jump_move (loop_action l) fs ts else moves focus.Begin (frame.ColonBody l ∷ fs) (word_terminal k ∷ ts) []) (ColonBodyRest l (Later fs) (word_terminal k ∷ ts))
loop_word_carries l k true e fs ts = loop_end_carries l k (ends_so l k e) fs ts
loop_word_carries l k false e fs ts = λ bs g. more_stmt (word_then (end_word l)) (λ cs. loop_action l ∷ cs) g

colon_body_carries : (l : Loop) (fs : List Frame) (ts : List Terminal) → Carries (colon_body_move l fs ts) (ColonBodyRest l (Later fs) ts)
colon_body_carries l fs (word_terminal k ∷ r) = loop_word_carries l k (ends_loop l k) refl fs r
colon_body_carries l fs ts = λ bs g. more_stmt (word_then (end_word l)) (λ cs. loop_action l ∷ cs) g

-- `while` behind the body of a `do`
do_end_carries : ExprSound → (fs : List Frame) (ts : List Terminal) → Carries (do_end_move fs (condition_at ts)) (DoRest (Later fs) (word_terminal word.While ∷ ts))
do_end_carries sound fs ts =
    condition_case sound (λ o us. Carries (do_end_move fs o) (DoRest (Later fs) (word_terminal word.While ∷ us))) (λ us. tt)
    (λ e r. semicolon_case
    (λ b left us. Carries (if b then moves focus.Behind fs left (value_action (expr_actions e []) ∷ do_action ∷ []) else stuck) (DoRest (Later fs) (word_terminal word.While ∷ condition_terminals e us)))
    (λ left bs g. here e left bs tt g)
    (λ us. tt)
    r)
    ts

do_carries : ExprSound → (fs : List Frame) (ts : List Terminal) → Carries (do_move fs ts) (DoRest (Later fs) ts)
do_carries sound fs (word_terminal word.While ∷ r) = do_end_carries sound fs r
do_carries sound fs ts = tt

-- inside braces
block_carries : (fs : List Frame) (ts : List Terminal) → Carries (block_move fs ts) (BlockRest (Later fs) ts)
block_carries fs (sign_terminal sign.CloseBrace ∷ r) = λ bs g. no_stmt brace_then (λ cs. cs) r bs g
block_carries fs ts = λ bs g. more_stmt brace_then (λ cs. cs) g

function_end_carries : (fs : List Frame) (ts : List Terminal) → Carries (function_end_move fs ts) (FunctionRest (Later fs) ts)
function_end_carries fs (sign_terminal sign.CloseBrace ∷ r) = λ bs g. no_stmt brace_then (λ cs. function_end_action ∷ cs) r bs g
function_end_carries fs ts = λ bs g. more_stmt brace_then (λ cs. function_end_action ∷ cs) g

pub behind_carries : ExprSound → (fs : List Frame) (ts : List Terminal) → Carries (behind_move fs ts) (Later fs ts)
behind_carries sound [] ts = part_carries ts
behind_carries sound (frame.Block ∷ fs) ts = block_carries fs ts
behind_carries sound (frame.Arm n ∷ fs) ts = arm_carries sound n fs ts
behind_carries sound (frame.Else n ∷ fs) ts = λ bs g. here tt ts bs tt g
behind_carries sound (frame.ColonArm n ∷ fs) ts = colon_arm_carries sound n fs ts
behind_carries sound (frame.ColonElse n ∷ fs) ts = colon_else_end_carries n fs ts
behind_carries sound (frame.Body l ∷ fs) ts = λ bs g. here tt ts bs tt g
behind_carries sound (frame.ColonBody l ∷ fs) ts = colon_body_carries l fs ts
behind_carries sound (frame.Do ∷ fs) ts = do_carries sound fs ts
behind_carries sound (frame.Function ∷ fs) ts = function_end_carries fs ts

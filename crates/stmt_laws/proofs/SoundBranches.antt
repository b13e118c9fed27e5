-- Arms of an `if` before a rest, in the form with statements and in the one with `:`.
use Rattle.std.proofs.Common.{◌≡◌, ℕ, ◌+◌, Bool, true, false, not, List, ◌∷◌, refl, sym, subst}
use Rattle.std.proofs.lemmas.Bool.{and_from}
use Rattle.php_syntax.specs.declared.token.Sign.TheVariants as sign
use Rattle.script_grammar.specs.declared.keyword.Keyword.TheVariants as word
use Rattle.script_grammar.specs.Terminals.{Terminal, word_terminal, sign_terminal}
use Rattle.script_grammar.specs.Expressions.{ExprForm}
use Rattle.script_grammar.specs.Statements.{condition_terminals, StmtForm, semicolon_form, inline_form, block_form, echo_form, print_form, run_form, if_form, colon_if_form, while_form, do_form, for_form, each_form, break_form, continue_form, return_form, include_form, include_parens_form, exit_form, exit_parens_form, no_stmts_form, more_stmts_form, no_arms_form, elseif_form, else_if_form, no_else_form, else_form, no_colon_arms, colon_arm, no_colon_else, colon_else, stmt_terminals, takes_else, is_if, nearest}
use Rattle.stmt_machine.specs.Actions.{StmtAction, open_action, if_action}
use Rattle.stmt_machine.specs.Postfix.{value_actions, stmt_actions}
use Rattle.stmt_machine.specs.Reading.{else_next}
use Rattle.stmt_laws.proofs.Shapes.{Rest, Read, here, extend, pair}
use Rattle.stmt_laws.proofs.Stands.{StmtHolds, Begun, Done, ArmRest, Branch, BranchRest, ColonBranch, ColonArmRest, ColonElseRest}
use Rattle.stmt_laws.proofs.SoundAhead.{true_false, false_true, no_arm, no_colon_arm}

pub branch : {k : Rest} (n : ℕ) {r : List Terminal} {bs : List StmtAction} → Begun (ArmRest n k) r bs → BranchRest n k r bs
branch n q =
    pair (λ s x. record { stmt = s; further = x }) (λ r. r) (λ bs. bs) (λ s x r. refl) (λ s x bs. refl)
    (λ s x r h h'. record { stmt_holds = h.0; no_dangling = no_arm (takes_else s) x r h.1; further_hold = h' })
    q

pub arm_end : {k : Rest} (n : ℕ) (r : List Terminal) (bs : List StmtAction) → else_next r ≡ false → k r bs → ArmRest n k r (if_action n false ∷ bs)
unfolding stmt_terminals stmt_actions nearest takes_else
arm_end n r bs e g = here (record { arms = no_arms_form; last = no_else_form }) r bs (record { arms_hold = refl; last_holds = refl; promise = λ i. e }) g

pub elseif_read : {k : Rest} (n : ℕ) (e : ExprForm) {r : List Terminal} {bs : List StmtAction} → BranchRest (n + 1) k r bs
    → ArmRest n k (word_terminal word.ElseIf ∷ condition_terminals e r) (value_actions e (open_action false ∷ bs))
unfolding stmt_terminals stmt_actions nearest takes_else
elseif_read n e q =
    extend (λ (x : Branch). record { arms = elseif_form e x.stmt (x.further).arms; last = (x.further).last }) (λ r. word_terminal word.ElseIf ∷ condition_terminals e r) (λ bs. value_actions e (open_action false ∷ bs)) (λ x r. refl) (λ x bs. refl)
    (λ x r h. record { arms_hold = and_from _ _ h.stmt_holds (and_from _ _ h.no_dangling (h.further_hold).arms_hold); last_holds = (h.further_hold).last_holds; promise = (h.further_hold).promise })
    q

pub else_if_read : {k : Rest} (n : ℕ) (e : ExprForm) {r : List Terminal} {bs : List StmtAction} → BranchRest (n + 1) k r bs
    → ArmRest n k (word_terminal word.Else ∷ word_terminal word.If ∷ condition_terminals e r) (open_action false ∷ value_actions e bs)
unfolding stmt_terminals stmt_actions nearest takes_else
else_if_read n e q =
    extend (λ (x : Branch). record { arms = else_if_form e x.stmt (x.further).arms; last = (x.further).last }) (λ r. word_terminal word.Else ∷ word_terminal word.If ∷ condition_terminals e r) (λ bs. open_action false ∷ value_actions e bs) (λ x r. refl) (λ x bs. refl)
    (λ x r h. record { arms_hold = and_from _ _ h.stmt_holds (and_from _ _ h.no_dangling (h.further_hold).arms_hold); last_holds = (h.further_hold).last_holds; promise = (h.further_hold).promise })
    q

-- `else` and an `if` in the form with `:`
pub else_colon_if_read : {k : Rest} (n : ℕ) (e : ExprForm) {r : List Terminal} {bs : List StmtAction} → ColonArmRest 1 (Done (if_action n true) k) r bs
    → ArmRest n k (word_terminal word.Else ∷ word_terminal word.If ∷ condition_terminals e (sign_terminal sign.Colon ∷ r)) (open_action false ∷ value_actions e (open_action false ∷ bs))
unfolding stmt_terminals stmt_actions nearest takes_else
else_colon_if_read n e q =
    pair (λ (x : ColonBranch) u. record { arms = no_arms_form; last = else_form (colon_if_form e x.stmts x.arms x.last) }) (λ r. word_terminal word.Else ∷ word_terminal word.If ∷ condition_terminals e (sign_terminal sign.Colon ∷ r)) (λ bs. open_action false ∷ value_actions e (open_action false ∷ bs)) (λ x u r. refl) (λ x u bs. refl)
    (λ x u r h h'. record { arms_hold = refl; last_holds = and_from _ _ (and_from _ _ h.stmts_hold (and_from _ _ h.no_dangling (and_from _ _ h.arms_hold h.last_holds))) refl; promise = λ i. absurd (false_true i) })
    q

-- whether `if` stands next
abbrev pub if_next : List Terminal → Bool
if_next (word_terminal word.If ∷ r) = true
if_next _ = false

-- no statement but an `if` in the form with words has none of its words in front
no_if : (s : StmtForm) (r : List Terminal) → if_next (stmt_terminals s r) ≡ false → not (is_if s) ≡ true
unfolding stmt_terminals
no_if (if_form e s a l) r i = absurd (true_false i)
no_if semicolon_form r i = refl
no_if (inline_form t) r i = refl
no_if (block_form ss) r i = refl
no_if (echo_form e es) r i = refl
no_if (print_form e) r i = refl
no_if (run_form e) r i = refl
no_if (colon_if_form e ss a l) r i = refl
no_if (while_form e b) r i = refl
no_if (do_form s e) r i = refl
no_if (for_form b e n s) r i = refl
no_if (each_form e v b) r i = refl
no_if break_form r i = refl
no_if continue_form r i = refl
no_if (return_form e) r i = refl
no_if (include_form k is t) r i = refl
no_if (include_parens_form k is t) r i = refl
no_if exit_form r i = refl
no_if (exit_parens_form e) r i = refl

abbrev NoIf : StmtForm → List Terminal → Type 0
NoIf s r = StmtHolds s r × (not (is_if s) ≡ true)

begun_no_if : {k : Rest} {r : List Terminal} {bs : List StmtAction} → if_next r ≡ false → Begun k r bs → Read stmt_terminals stmt_actions NoIf (λ s. k) r bs
begun_no_if i q = record { form = q.form; left = q.left; later = q.later; reads = q.reads; does = q.does; holds = (q.holds, no_if q.form q.left (subst (λ ts. if_next ts ≡ false) (sym q.reads) i)); goes_on = q.goes_on }

pub else_read : {k : Rest} (n : ℕ) {r : List Terminal} {bs : List StmtAction} → if_next r ≡ false → Begun (Done (if_action n true) k) r bs → ArmRest n k (word_terminal word.Else ∷ r) (open_action false ∷ bs)
unfolding stmt_terminals stmt_actions nearest takes_else
else_read n i q =
    pair (λ s u. record { arms = no_arms_form; last = else_form s }) (λ r. word_terminal word.Else ∷ r) (λ bs. open_action false ∷ bs) (λ s u r. refl) (λ s u bs. refl)
    (λ s u r h h'. record { arms_hold = refl; last_holds = and_from _ _ (h.0).0 h.1; promise = (h.0).1 })
    (begun_no_if i q)

-- the form with `:`
pub colon_more : {k : Rest} (n : ℕ) {r : List Terminal} {bs : List StmtAction} → Begun (ColonArmRest n k) r bs → ColonArmRest n k r bs
unfolding stmt_terminals stmt_actions nearest
colon_more n q =
    pair (λ s (x : ColonBranch). record { stmts = more_stmts_form s x.stmts; arms = x.arms; last = x.last }) (λ r. r) (λ bs. bs) (λ s x r. refl) (λ s x bs. refl)
    (λ s x r h h'. record { stmts_hold = and_from _ _ h.0 h'.stmts_hold; no_dangling = no_colon_arm s x.stmts x.arms x.last r h.1 h'.no_dangling; arms_hold = h'.arms_hold; last_holds = h'.last_holds })
    q

pub colon_end : {k : Rest} (n : ℕ) (r : List Terminal) (bs : List StmtAction) → k r bs → ColonArmRest n k (word_terminal word.EndIf ∷ sign_terminal sign.Semicolon ∷ r) (if_action n false ∷ bs)
unfolding stmt_terminals stmt_actions nearest
colon_end n r bs g = here (record { stmts = no_stmts_form; arms = no_colon_arms; last = no_colon_else }) r bs (record { stmts_hold = refl; no_dangling = refl; arms_hold = refl; last_holds = refl }) g

pub colon_arm_read : {k : Rest} (n : ℕ) (e : ExprForm) {r : List Terminal} {bs : List StmtAction} → ColonArmRest (n + 1) k r bs
    → ColonArmRest n k (word_terminal word.ElseIf ∷ condition_terminals e (sign_terminal sign.Colon ∷ r)) (value_actions e (open_action false ∷ bs))
unfolding stmt_terminals stmt_actions nearest
colon_arm_read n e q =
    extend (λ (x : ColonBranch). record { stmts = no_stmts_form; arms = colon_arm e x.stmts x.arms; last = x.last }) (λ r. word_terminal word.ElseIf ∷ condition_terminals e (sign_terminal sign.Colon ∷ r)) (λ bs. value_actions e (open_action false ∷ bs)) (λ x r. refl) (λ x bs. refl)
    (λ x r h. record { stmts_hold = refl; no_dangling = refl; arms_hold = and_from _ _ h.stmts_hold (and_from _ _ h.no_dangling h.arms_hold); last_holds = h.last_holds })
    q

pub colon_else_read : {k : Rest} (n : ℕ) {r : List Terminal} {bs : List StmtAction} → ColonElseRest n k r bs → ColonArmRest n k (word_terminal word.Else ∷ sign_terminal sign.Colon ∷ r) (open_action false ∷ bs)
unfolding stmt_terminals stmt_actions nearest
colon_else_read n q =
    extend (λ ss. record { stmts = no_stmts_form; arms = no_colon_arms; last = colon_else ss }) (λ r. word_terminal word.Else ∷ sign_terminal sign.Colon ∷ r) (λ bs. open_action false ∷ bs) (λ x r. refl) (λ x bs. refl)
    (λ ss r h. record { stmts_hold = refl; no_dangling = refl; arms_hold = refl; last_holds = h })
    q

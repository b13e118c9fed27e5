-- Statements before a rest: each form, by its parts.
use Rattle.std.proofs.Common.{◌≡◌, ◌∙◌, ℕ, true, false, List, ◌∷◌, refl, sym}
use Rattle.std.proofs.lemmas.Bool.{and_from}
use Rattle.php_syntax.specs.declared.token.Sign.TheVariants as sign
use Rattle.script_grammar.specs.declared.keyword.Keyword.{Keyword}
use Rattle.script_grammar.specs.declared.keyword.Keyword.TheVariants as word
use Rattle.script_grammar.specs.Terminals.{Terminal, inline_terminal, word_terminal, text_terminal, sign_terminal}
use Rattle.script_grammar.specs.Expressions.{ExprForm, expr_terminals}
use Rattle.script_grammar.specs.Statements.{condition_terminals, nothing_form, something_form, semicolon_form, inline_form, block_form, print_form, run_form, if_form, colon_if_form, while_form, do_form, break_form, continue_form, return_form, is_include, include_form, include_parens_form, exit_form, exit_parens_form, no_stmts_form, more_stmts_form, stmt_body, colon_body, stmt_terminals, takes_else, nearest}
use Rattle.stmt_machine.specs.declared.frame.Loop.{Loop}
use Rattle.stmt_machine.specs.declared.frame.Loop.TheVariants as loop
use Rattle.stmt_machine.specs.Actions.{StmtAction, inline_action, echo_action, open_action, run_action, break_action, continue_action, return_action, include_action, exit_action, loop_action}
use Rattle.stmt_machine.specs.Postfix.{value_actions, stmt_actions}
use Rattle.stmt_laws.proofs.Shapes.{Rest, here, extend, pair}
use Rattle.stmt_laws.proofs.Stands.{Begun, StmtsThen, BlockRest, ColonBodyRest, Branch, BranchRest, ColonBranch, ColonArmRest, DoRest, LoopBody, Done}
use Rattle.stmt_laws.proofs.SoundAhead.{false_true, takes_last}

pub no_stmt : (c : List Terminal → List Terminal) (d : List StmtAction → List StmtAction) {k : Rest} (r : List Terminal) (bs : List StmtAction) → k r bs → StmtsThen c d k (c r) (d bs)
unfolding stmt_terminals stmt_actions nearest
no_stmt c d r bs g = here no_stmts_form r bs refl g

pub more_stmt : (c : List Terminal → List Terminal) (d : List StmtAction → List StmtAction) {k : Rest} {r : List Terminal} {bs : List StmtAction} → Begun (StmtsThen c d k) r bs → StmtsThen c d k r bs
unfolding stmt_terminals stmt_actions nearest
more_stmt c d q = pair more_stmts_form (λ r. r) (λ bs. bs) (λ s ss r. refl) (λ s ss bs. refl) (λ s ss r h h'. and_from _ _ h.0 h') q

pub semicolon_begun : {k : Rest} (r : List Terminal) (bs : List StmtAction) → k r bs → Begun k (sign_terminal sign.Semicolon ∷ r) bs
unfolding stmt_terminals stmt_actions nearest takes_else
semicolon_begun r bs g = here semicolon_form r bs (refl, λ e. absurd (false_true e)) g

pub inline_begun : {k : Rest} (t : List ℕ) (r : List Terminal) (bs : List StmtAction) → k r bs → Begun k (inline_terminal t ∷ r) (inline_action t ∷ bs)
unfolding stmt_terminals stmt_actions nearest takes_else
inline_begun t r bs g = here (inline_form t) r bs (refl, λ e. absurd (false_true e)) g

pub block_begun : {k : Rest} {r : List Terminal} {bs : List StmtAction} → BlockRest k r bs → Begun k (sign_terminal sign.OpenBrace ∷ r) bs
unfolding stmt_terminals stmt_actions nearest takes_else
block_begun q = extend block_form (λ r. sign_terminal sign.OpenBrace ∷ r) (λ bs. bs) (λ ss r. refl) (λ ss bs. refl) (λ ss r h. (h, λ e. absurd (false_true e))) q

pub print_begun : {k : Rest} (e : ExprForm) (r : List Terminal) (bs : List StmtAction) → k r bs
    → Begun k (word_terminal word.Print ∷ expr_terminals e (sign_terminal sign.Semicolon ∷ r)) (value_actions e (echo_action 1 ∷ bs))
unfolding stmt_terminals stmt_actions nearest takes_else
print_begun e r bs g = here (print_form e) r bs (refl, λ i. absurd (false_true i)) g

pub run_begun : {k : Rest} (e : ExprForm) (r : List Terminal) (bs : List StmtAction) → k r bs
    → Begun k (expr_terminals e (sign_terminal sign.Semicolon ∷ r)) (value_actions e (run_action ∷ bs))
unfolding stmt_terminals stmt_actions nearest takes_else
run_begun e r bs g = here (run_form e) r bs (refl, λ i. absurd (false_true i)) g

pub if_begun : {k : Rest} (e : ExprForm) {r : List Terminal} {bs : List StmtAction} → BranchRest 1 k r bs
    → Begun k (word_terminal word.If ∷ condition_terminals e r) (value_actions e (open_action false ∷ bs))
unfolding stmt_terminals stmt_actions nearest
if_begun e q =
    extend (λ (x : Branch). if_form e x.stmt (x.further).arms (x.further).last) (λ r. word_terminal word.If ∷ condition_terminals e r) (λ bs. value_actions e (open_action false ∷ bs)) (λ x r. refl) (λ x bs. refl)
    (λ x r h. (
      and_from _ _ h.stmt_holds (and_from _ _ h.no_dangling (and_from _ _ (h.further_hold).arms_hold (h.further_hold).last_holds)),
      λ i. (h.further_hold).promise (sym (takes_last e x.stmt (x.further).arms (x.further).last) ∙ i),
    ))
    q

pub colon_if_begun : {k : Rest} (e : ExprForm) {r : List Terminal} {bs : List StmtAction} → ColonArmRest 1 k r bs
    → Begun k (word_terminal word.If ∷ condition_terminals e (sign_terminal sign.Colon ∷ r)) (value_actions e (open_action false ∷ bs))
unfolding stmt_terminals stmt_actions nearest takes_else
colon_if_begun e q =
    extend (λ (x : ColonBranch). colon_if_form e x.stmts x.arms x.last) (λ r. word_terminal word.If ∷ condition_terminals e (sign_terminal sign.Colon ∷ r)) (λ bs. value_actions e (open_action false ∷ bs)) (λ x r. refl) (λ x bs. refl)
    (λ x r h. (and_from _ _ h.stmts_hold (and_from _ _ h.no_dangling (and_from _ _ h.arms_hold h.last_holds)), λ i. absurd (false_true i)))
    q

pub while_begun : {k : Rest} (e : ExprForm) {r : List Terminal} {bs : List StmtAction} → LoopBody loop.While k r bs
    → Begun k (word_terminal word.While ∷ condition_terminals e r) (value_actions e bs)
unfolding stmt_terminals stmt_actions nearest takes_else
while_begun e q = extend (while_form e) (λ r. word_terminal word.While ∷ condition_terminals e r) (value_actions e) (λ b r. refl) (λ b bs. refl) (λ b r h. h) q

pub do_begun : {k : Rest} {r : List Terminal} {bs : List StmtAction} → Begun (DoRest k) r bs → Begun k (word_terminal word.Do ∷ r) (open_action true ∷ bs)
unfolding stmt_terminals stmt_actions nearest takes_else
do_begun q = pair do_form (λ r. word_terminal word.Do ∷ r) (λ bs. open_action true ∷ bs) (λ s e r. refl) (λ s e bs. refl) (λ s e r h u. (h.0, λ i. absurd (false_true i))) q

pub break_begun : {k : Rest} (r : List Terminal) (bs : List StmtAction) → k r bs → Begun k (word_terminal word.Break ∷ sign_terminal sign.Semicolon ∷ r) (break_action ∷ bs)
unfolding stmt_terminals stmt_actions nearest takes_else
break_begun r bs g = here break_form r bs (refl, λ i. absurd (false_true i)) g

pub continue_begun : {k : Rest} (r : List Terminal) (bs : List StmtAction) → k r bs → Begun k (word_terminal word.Continue ∷ sign_terminal sign.Semicolon ∷ r) (continue_action ∷ bs)
unfolding stmt_terminals stmt_actions nearest takes_else
continue_begun r bs g = here continue_form r bs (refl, λ i. absurd (false_true i)) g

pub return_begun : {k : Rest} (r : List Terminal) (bs : List StmtAction) → k r bs → Begun k (word_terminal word.Return ∷ sign_terminal sign.Semicolon ∷ r) (return_action false ∷ bs)
unfolding stmt_terminals stmt_actions nearest takes_else
return_begun r bs g = here (return_form nothing_form) r bs (refl, λ i. absurd (false_true i)) g

pub return_value_begun : {k : Rest} (e : ExprForm) (r : List Terminal) (bs : List StmtAction) → k r bs
    → Begun k (word_terminal word.Return ∷ expr_terminals e (sign_terminal sign.Semicolon ∷ r)) (value_actions e (return_action true ∷ bs))
unfolding stmt_terminals stmt_actions nearest takes_else
return_value_begun e r bs g = here (return_form (something_form e)) r bs (refl, λ i. absurd (false_true i)) g

pub include_begun : {k : Rest} (w : Keyword) (is : is_include w ≡ true) (t : List ℕ) (r : List Terminal) (bs : List StmtAction) → k r bs
    → Begun k (word_terminal w ∷ text_terminal t ∷ sign_terminal sign.Semicolon ∷ r) (include_action t ∷ bs)
unfolding stmt_terminals stmt_actions nearest takes_else
include_begun w is t r bs g = here (include_form w is t) r bs (refl, λ i. absurd (false_true i)) g

pub include_parens_begun : {k : Rest} (w : Keyword) (is : is_include w ≡ true) (t : List ℕ) (r : List Terminal) (bs : List StmtAction) → k r bs
    → Begun k (word_terminal w ∷ sign_terminal sign.OpenParen ∷ text_terminal t ∷ sign_terminal sign.CloseParen ∷ sign_terminal sign.Semicolon ∷ r) (include_action t ∷ bs)
unfolding stmt_terminals stmt_actions nearest takes_else
include_parens_begun w is t r bs g = here (include_parens_form w is t) r bs (refl, λ i. absurd (false_true i)) g

pub exit_begun : {k : Rest} (r : List Terminal) (bs : List StmtAction) → k r bs → Begun k (word_terminal word.Exit ∷ sign_terminal sign.Semicolon ∷ r) (exit_action false ∷ bs)
unfolding stmt_terminals stmt_actions nearest takes_else
exit_begun r bs g = here exit_form r bs (refl, λ i. absurd (false_true i)) g

pub exit_parens_begun : {k : Rest} (r : List Terminal) (bs : List StmtAction) → k r bs
    → Begun k (word_terminal word.Exit ∷ sign_terminal sign.OpenParen ∷ sign_terminal sign.CloseParen ∷ sign_terminal sign.Semicolon ∷ r) (exit_action false ∷ bs)
unfolding stmt_terminals stmt_actions nearest takes_else
exit_parens_begun r bs g = here (exit_parens_form nothing_form) r bs (refl, λ i. absurd (false_true i)) g

pub exit_value_begun : {k : Rest} (e : ExprForm) (r : List Terminal) (bs : List StmtAction) → k r bs
    → Begun k (word_terminal word.Exit ∷ sign_terminal sign.OpenParen ∷ expr_terminals e (sign_terminal sign.CloseParen ∷ sign_terminal sign.Semicolon ∷ r)) (value_actions e (exit_action true ∷ bs))
unfolding stmt_terminals stmt_actions nearest takes_else
exit_value_begun e r bs g = here (exit_parens_form (something_form e)) r bs (refl, λ i. absurd (false_true i)) g

-- the bodies of loops
pub stmt_body_read : {k : Rest} (l : Loop) {r : List Terminal} {bs : List StmtAction} → Begun (Done (loop_action l) k) r bs → LoopBody l k r (open_action true ∷ bs)
unfolding stmt_terminals stmt_actions nearest takes_else
stmt_body_read l q = pair (λ s u. stmt_body s) (λ r. r) (λ bs. open_action true ∷ bs) (λ s u r. refl) (λ s u bs. refl) (λ s u r h h'. h) q

pub colon_body_read : {k : Rest} (l : Loop) {r : List Terminal} {bs : List StmtAction} → ColonBodyRest l k r bs → LoopBody l k (sign_terminal sign.Colon ∷ r) (open_action true ∷ bs)
unfolding stmt_terminals stmt_actions nearest takes_else
colon_body_read l q = extend colon_body (λ r. sign_terminal sign.Colon ∷ r) (λ bs. open_action true ∷ bs) (λ ss r. refl) (λ ss bs. refl) (λ ss r h. (h, λ i. absurd (false_true i))) q

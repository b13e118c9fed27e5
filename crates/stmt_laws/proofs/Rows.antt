-- Rows of expressions: those of an `echo`, and the head of a `for`.
use Rattle.std.proofs.Common.{◌≡◌, ℕ, ◌+◌, ◌<◌, true, false, if◌then◌else◌, List, [], ◌∷◌, refl, ap, ◌∙◌, subst, arith}
use Rattle.std.proofs.lemmas.Bool.{ne_eqb}
use Rattle.php_syntax.specs.declared.token.Sign.TheVariants as sign
use Rattle.script_grammar.specs.declared.keyword.Keyword.TheVariants as word
use Rattle.script_grammar.specs.Terminals.{Terminal, word_terminal, sign_terminal}
use Rattle.script_grammar.specs.Expressions.{ExprForm, MoreExprsForm, no_more_exprs, one_more_expr, ListForm, empty_list, list_form, expr_terminals, more_exprs_terminals, list_terminals}
use Rattle.script_grammar.specs.Statements.{MaybeForm, nothing_form, something_form, maybe_terminals}
use Rattle.expr_machine.specs.Machine.{behind}
use Rattle.expr_machine.specs.Postfix.{expr_actions, exprs_count}
use Rattle.expr_machine.specs.Reading.{rank_next, expr_at}
use Rattle.stmt_machine.specs.declared.frame.Row.{Row}
use Rattle.stmt_machine.specs.declared.frame.Row.TheVariants as row
use Rattle.stmt_machine.specs.declared.frame.Focus.TheVariants as focus
use Rattle.stmt_machine.specs.declared.frame.Frame.{Frame}
use Rattle.stmt_machine.specs.Actions.{StmtAction, value_action, echo_action}
use Rattle.stmt_machine.specs.Machine.{moves, stuck, move, statement_at, listed_move, row_end_next, row_end_move, more_move, for_condition_move}
use Rattle.stmt_machine.specs.Postfix.{value_actions, more_values_actions, list_values_actions, list_count, maybe_value_actions, is_something}
use Rattle.stmt_laws.proofs.Runs.{Goes, steps}
use Rattle.stmt_laws.proofs.Opening.{expr_first}
use Rattle.stmt_laws.proofs.Firsts.{value_no_semicolon, value_no_end}
use Rattle.stmt_laws.proofs.Values.{Expressions, expr_falls, statement_read, statement_falls}

-- nothing goes on with an expression before a comma, nor before what does not go on with it
rank_more : (es : MoreExprsForm) (r : List Terminal) → rank_next r ≡ 10 → rank_next (more_exprs_terminals es r) ≡ 10
unfolding expr_terminals
rank_more no_more_exprs r h = h
rank_more (one_more_expr e es) r h = refl

-- one more expression of a row
comma_goes_on : (l : Row) (r : List Terminal) → row_end_next l (sign_terminal sign.Comma ∷ r) ≡ false
comma_goes_on row.Echo r = refl
comma_goes_on row.Begin r = refl
comma_goes_on (row.Next n c) r = refl

listed : Expressions → (e : ExprForm) (l : Row) (n : ℕ) (fs : List Frame) (r : List Terminal) → rank_next r ≡ 10 → listed_move l n fs (expr_at (expr_terminals e r)) ≡ moves (focus.Listed l n) fs r (value_action (expr_actions e []) ∷ [])
listed x e l n fs r h = ap (listed_move l n fs) (x.read e r h)

comma_move : Expressions → (e : ExprForm) (l : Row) (n : ℕ) (fs : List Frame) (r : List Terminal) → 0 < n → rank_next r ≡ 10 → move (focus.Listed l n) fs (sign_terminal sign.Comma ∷ expr_terminals e r) ≡ moves (focus.Listed l (n + 1)) fs r (value_action (expr_actions e []) ∷ [])
unfolding move
comma_move x e l n fs r some h =
    let ts : List Terminal = sign_terminal sign.Comma ∷ expr_terminals e r
    in ap (λ b. if b then row_end_move l n fs (behind ts) else more_move l n fs ts) (comma_goes_on l (expr_terminals e r))
    ∙ ap (λ b. if b then stuck else listed_move l (n + 1) fs (expr_at (expr_terminals e r))) (ne_eqb n 0 (λ z. omega arith))
    ∙ listed x e l (n + 1) fs r h

comma_reads : Expressions → (e : ExprForm) (l : Row) (n : ℕ) (fs : List Frame) (r : List Terminal) (k : List StmtAction) → 0 < n → rank_next r ≡ 10 → Goes (focus.Listed l (n + 1)) fs r k → Goes (focus.Listed l n) fs (sign_terminal sign.Comma ∷ expr_terminals e r) (value_actions e k)
comma_reads x e l n fs r k some h goes = steps (comma_move x e l n fs r some h) (let falls = expr_falls x e r h in omega (arith, falls)) goes

count_more : (n m : ℕ) → n + (1 + m) ≡ (n + 1) + m
count_more n m = omega arith

more_reads : Expressions → (es : MoreExprsForm) (l : Row) (n : ℕ) (fs : List Frame) (r : List Terminal) (k : List StmtAction) → 0 < n → rank_next r ≡ 10 → Goes (focus.Listed l (n + exprs_count es)) fs r k → Goes (focus.Listed l n) fs (more_exprs_terminals es r) (more_values_actions es k)
unfolding expr_terminals
more_reads x no_more_exprs l n fs r k some h goes = subst (λ m. Goes (focus.Listed l m) fs r k) (omega arith) goes
more_reads x (one_more_expr e es) l n fs r k some h goes =
    comma_reads x e l n fs (more_exprs_terminals es r) (more_values_actions es k) some (rank_more es r h)
    (more_reads x es l (n + 1) fs r k (omega arith) h (subst (λ m. Goes (focus.Listed l m) fs r k) (count_more n (exprs_count es)) goes))

-- a row that may be empty
start_empty : (l : Row) (fs : List Frame) (r : List Terminal) → row_end_next l r ≡ true → move (focus.Start l) fs r ≡ moves (focus.Listed l 0) fs r []
unfolding move
start_empty l fs r h = ap (λ b. if b then moves (focus.Listed l 0) fs r [] else listed_move l 1 fs (expr_at r)) h

start_value : Expressions → (e : ExprForm) (l : Row) (fs : List Frame) (r : List Terminal) → rank_next r ≡ 10 → move (focus.Start l) fs (expr_terminals e r) ≡ moves (focus.Listed l 1) fs r (value_action (expr_actions e []) ∷ [])
unfolding move
start_value x e l fs r h =
    let ts = expr_terminals e r
    in ap (λ b. if b then moves (focus.Listed l 0) fs ts [] else listed_move l 1 fs (expr_at ts)) (value_no_end l ts (expr_first e r))
    ∙ listed x e l 1 fs r h

first_reads : Expressions → (e : ExprForm) (l : Row) (fs : List Frame) (r : List Terminal) (k : List StmtAction) → rank_next r ≡ 10 → Goes (focus.Listed l 1) fs r k → Goes (focus.Start l) fs (expr_terminals e r) (value_actions e k)
first_reads x e l fs r k h goes = steps (start_value x e l fs r h) (let falls = expr_falls x e r h in omega (arith, falls)) goes

pub list_reads : Expressions → (es : ListForm) (l : Row) (fs : List Frame) (r : List Terminal) (k : List StmtAction) → row_end_next l r ≡ true → rank_next r ≡ 10 → Goes (focus.Listed l (list_count es)) fs r k → Goes (focus.Start l) fs (list_terminals es r) (list_values_actions es k)
unfolding expr_terminals
list_reads x empty_list l fs r k last h goes = steps (start_empty l fs r last) (omega arith) goes
list_reads x (list_form e es) l fs r k last h goes =
    first_reads x e l fs (more_exprs_terminals es r) (more_values_actions es k) (rank_more es r h)
    (more_reads x es l 1 fs r k (omega arith) h (subst (λ m. Goes (focus.Listed l m) fs r k) (omega arith) goes))

-- an `echo`
echo_end : (n : ℕ) (fs : List Frame) (r : List Terminal) (k : List StmtAction) → Goes focus.Behind fs r k → Goes (focus.Listed row.Echo n) fs (sign_terminal sign.Semicolon ∷ r) (echo_action n ∷ k)
unfolding move
echo_end n fs r k goes = steps refl (omega arith) goes

echo_begin : Expressions → (e : ExprForm) (fs : List Frame) (r : List Terminal) (k : List StmtAction) → rank_next r ≡ 10 → Goes (focus.Listed row.Echo 1) fs r k → Goes focus.Begin fs (word_terminal word.Echo ∷ expr_terminals e r) (value_actions e k)
unfolding move
echo_begin x e fs r k h goes = steps (listed x e row.Echo 1 fs r h) (let falls = expr_falls x e r h in omega (arith, falls)) goes

pub echo_reads : Expressions → (e : ExprForm) (es : MoreExprsForm) (fs : List Frame) (r : List Terminal) (k : List StmtAction) → Goes focus.Behind fs r k → Goes focus.Begin fs (word_terminal word.Echo ∷ expr_terminals e (more_exprs_terminals es (sign_terminal sign.Semicolon ∷ r))) (value_actions e (more_values_actions es (echo_action (exprs_count es + 1) ∷ k)))
echo_reads x e es fs r k goes =
    echo_begin x e fs (more_exprs_terminals es (sign_terminal sign.Semicolon ∷ r)) (more_values_actions es (echo_action (exprs_count es + 1) ∷ k)) (rank_more es (sign_terminal sign.Semicolon ∷ r) refl)
    (more_reads x es row.Echo 1 fs (sign_terminal sign.Semicolon ∷ r) (echo_action (exprs_count es + 1) ∷ k) (omega arith) refl
    (subst (λ m. Goes (focus.Listed row.Echo m) fs (sign_terminal sign.Semicolon ∷ r) (echo_action (exprs_count es + 1) ∷ k)) (omega arith) (echo_end (exprs_count es + 1) fs r k goes)))

-- the condition of a `for`
condition_value : Expressions → (e : ExprForm) (n : ℕ) (fs : List Frame) (r : List Terminal) → move (focus.Condition n) fs (expr_terminals e (sign_terminal sign.Semicolon ∷ r)) ≡ moves (focus.Start (row.Next n true)) fs r (value_action (expr_actions e []) ∷ [])
unfolding move
condition_value x e n fs r =
    let ts = expr_terminals e (sign_terminal sign.Semicolon ∷ r)
    in ap (λ b. if b then moves (focus.Start (row.Next n false)) fs (behind ts) [] else for_condition_move n fs (statement_at ts)) (value_no_semicolon ts (expr_first e (sign_terminal sign.Semicolon ∷ r)))
    ∙ ap (for_condition_move n fs) (statement_read x e r)

pub condition_reads : Expressions → (e : MaybeForm) (n : ℕ) (fs : List Frame) (r : List Terminal) (k : List StmtAction) → Goes (focus.Start (row.Next n (is_something e))) fs r k → Goes (focus.Condition n) fs (maybe_terminals e (sign_terminal sign.Semicolon ∷ r)) (maybe_value_actions e k)
unfolding move
condition_reads x nothing_form n fs r k goes = steps refl (omega arith) goes
condition_reads x (something_form e) n fs r k goes = steps (condition_value x e n fs r) (let falls = statement_falls x e r in omega (arith, falls)) goes

-- the head of a `for`, up to what ends a turn
for_begin : (fs : List Frame) (r : List Terminal) (k : List StmtAction) → Goes (focus.Start row.Begin) fs r k → Goes focus.Begin fs (word_terminal word.For ∷ sign_terminal sign.OpenParen ∷ r) k
unfolding move
for_begin fs r k goes = steps refl (omega arith) goes

begin_end : (n : ℕ) (fs : List Frame) (r : List Terminal) (k : List StmtAction) → Goes (focus.Condition n) fs r k → Goes (focus.Listed row.Begin n) fs (sign_terminal sign.Semicolon ∷ r) k
unfolding move
begin_end n fs r k goes = steps refl (omega arith) goes

pub for_reads : Expressions → (begin : ListForm) (e : MaybeForm) (next : ListForm) (fs : List Frame) (r : List Terminal) (k : List StmtAction)
    → Goes (focus.Listed (row.Next (list_count begin) (is_something e)) (list_count next)) fs (sign_terminal sign.CloseParen ∷ r) k
    → Goes focus.Begin fs (word_terminal word.For ∷ sign_terminal sign.OpenParen ∷ list_terminals begin (sign_terminal sign.Semicolon ∷ maybe_terminals e (sign_terminal sign.Semicolon ∷ list_terminals next (sign_terminal sign.CloseParen ∷ r))))
    (list_values_actions begin (maybe_value_actions e (list_values_actions next k)))
for_reads x begin e next fs r k goes =
    let ends = list_reads x next (row.Next (list_count begin) (is_something e)) fs (sign_terminal sign.CloseParen ∷ r) k refl refl goes
    in let asks = condition_reads x e (list_count begin) fs (list_terminals next (sign_terminal sign.CloseParen ∷ r)) (list_values_actions next k) ends
    in for_begin fs _ _ (list_reads x begin row.Begin fs _ _ refl refl (begin_end (list_count begin) fs _ _ asks))

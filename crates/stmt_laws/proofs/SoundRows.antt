-- Rows of expressions before a rest, and the loops and the `echo` that begin with them.
use Rattle.std.proofs.Common.{◌≡◌, ℕ, ◌+◌, Bool, true, false, List, ◌∷◌, refl, ap, subst, arith}
use Rattle.php_syntax.specs.declared.token.Sign.{Sign}
use Rattle.php_syntax.specs.declared.token.Sign.TheVariants as sign
use Rattle.script_grammar.specs.declared.keyword.Keyword.TheVariants as word
use Rattle.script_grammar.specs.Terminals.{Terminal, word_terminal, sign_terminal}
use Rattle.script_grammar.specs.Expressions.{ExprForm, no_more_exprs, one_more_expr, ListForm, empty_list, list_form, expr_terminals, more_exprs_terminals, list_terminals}
use Rattle.script_grammar.specs.Statements.{MaybeForm, nothing_form, something_form, maybe_terminals, VariablesForm, variables_terminals, key_variable, value_variable, echo_form, for_form, each_form, BodyForm, stmt_terminals, body_terminals, takes_else, nearest}
use Rattle.expr_machine.specs.Postfix.{exprs_count}
use Rattle.stmt_machine.specs.declared.frame.Loop.TheVariants as loop
use Rattle.stmt_machine.specs.Actions.{StmtAction, open_action, echo_action, loop_action}
use Rattle.stmt_machine.specs.Postfix.{value_actions, more_values_actions, list_values_actions, list_count, maybe_value_actions, is_something, stmt_actions, body_actions}
use Rattle.stmt_laws.proofs.Shapes.{Rest, Read, here, extend, pair, onward}
use Rattle.stmt_laws.proofs.Stands.{Begun, Done, BodyHolds, LoopBody, RowListed, RowStart, ConditionRest}
use Rattle.stmt_laws.proofs.SoundAhead.{false_true}

none_more : (n : ℕ) → n ≡ 0 + n
none_more n = omega arith

one_more : (a n : ℕ) → a + (n + 1) ≡ (1 + a) + n
one_more a n = omega arith

pub row_end : (s : Sign) (n : ℕ) (k : ℕ → Rest) (r : List Terminal) (bs : List StmtAction) → k n r bs → RowListed s n k (sign_terminal s ∷ r) bs
unfolding expr_terminals
row_end s n k r bs g = record { form = no_more_exprs; left = r; later = bs; reads = refl; does = refl; holds = λ z. refl; goes_on = subst (λ m. k m r bs) (none_more n) g }

pub row_more : (s : Sign) (n : ℕ) (k : ℕ → Rest) (e : ExprForm) {r : List Terminal} {bs : List StmtAction} → (n ≡ 0 → ⊥) → RowListed s (n + 1) k r bs
    → RowListed s n k (sign_terminal sign.Comma ∷ expr_terminals e r) (value_actions e bs)
unfolding expr_terminals
row_more s n k e nz q =
    record {
      form = one_more_expr e q.form;
      left = q.left;
      later = q.later;
      reads = ap (λ r. sign_terminal sign.Comma ∷ expr_terminals e r) q.reads;
      does = ap (value_actions e) q.does;
      holds = λ z. absurd (nz z);
      goes_on = subst (λ m. k m q.left q.later) (one_more (exprs_count q.form) n) q.goes_on;
    }

pub start_empty : (s : Sign) (k : ℕ → Rest) {r : List Terminal} {bs : List StmtAction} → RowListed s 0 k r bs → RowStart s k r bs
unfolding expr_terminals
start_empty s k {r = r} {bs = bs} q =
    let none = q.holds refl in
    record {
      form = empty_list;
      left = q.left;
      later = q.later;
      reads = subst (λ es. more_exprs_terminals es (sign_terminal s ∷ q.left) ≡ r) none q.reads;
      does = subst (λ es. more_values_actions es q.later ≡ bs) none q.does;
      holds = tt;
      goes_on = subst (λ es. k (exprs_count es + 0) q.left q.later) none q.goes_on;
    }

pub start_some : (s : Sign) (k : ℕ → Rest) (e : ExprForm) {r : List Terminal} {bs : List StmtAction} → RowListed s 1 k r bs → RowStart s k (expr_terminals e r) (value_actions e bs)
unfolding expr_terminals
start_some s k e q =
    record { form = list_form e q.form; left = q.left; later = q.later; reads = ap (expr_terminals e) q.reads; does = ap (value_actions e) q.does; holds = tt; goes_on = q.goes_on }

pub echo_begun : {k : Rest} (e : ExprForm) {r : List Terminal} {bs : List StmtAction} → RowListed sign.Semicolon 1 (λ n. Done (echo_action n) k) r bs
    → Begun k (word_terminal word.Echo ∷ expr_terminals e r) (value_actions e bs)
unfolding expr_terminals stmt_terminals stmt_actions nearest takes_else
echo_begun e q = pair (λ es u. echo_form e es) (λ r. word_terminal word.Echo ∷ expr_terminals e r) (value_actions e) (λ es u r. refl) (λ es u bs. refl) (λ es u r h h'. (refl, λ i. absurd (false_true i))) q

-- a loop behind its condition, and behind its first semicolon
record Turn : Type 0 where
  next : ListForm
  body : BodyForm

abbrev TurnRest : ℕ → Bool → Rest → Rest
TurnRest n c k = Read (λ (x : Turn) r. list_terminals x.next (sign_terminal sign.CloseParen ∷ body_terminals word.EndFor x.body r))
    (λ x bs. list_values_actions x.next (open_action true ∷ body_actions x.body (loop_action (loop.For n c (list_count x.next)) ∷ bs))) (λ x r. BodyHolds x.body r) (λ x. k)

turn_whole : (n : ℕ) (c : Bool) {k : Rest} {r : List Terminal} {bs : List StmtAction} → RowStart sign.CloseParen (λ next. LoopBody (loop.For n c next) k) r bs → TurnRest n c k r bs
turn_whole n c q = pair (λ l b. record { next = l; body = b }) (λ r. r) (λ bs. bs) (λ l b r. refl) (λ l b bs. refl) (λ l b r h h'. h') q

record Turns : Type 0 where
  condition : MaybeForm
  turn : Turn

abbrev TurnsRest : ℕ → Rest → Rest
TurnsRest n k = Read (λ (x : Turns) r. maybe_terminals x.condition (sign_terminal sign.Semicolon ∷ list_terminals (x.turn).next (sign_terminal sign.CloseParen ∷ body_terminals word.EndFor (x.turn).body r)))
    (λ x bs. maybe_value_actions x.condition (list_values_actions (x.turn).next (open_action true ∷ body_actions (x.turn).body (loop_action (loop.For n (is_something x.condition) (list_count (x.turn).next)) ∷ bs)))) (λ x r. BodyHolds (x.turn).body r) (λ x. k)

turns_whole : (n : ℕ) {k : Rest} {r : List Terminal} {bs : List StmtAction} → ConditionRest n k r bs → TurnsRest n k r bs
turns_whole n q =
    pair (λ m t. record { condition = m; turn = t }) (λ r. r) (λ bs. bs) (λ m t r. refl) (λ m t bs. refl) (λ m t r h h'. h')
    (onward (λ m r bs z. turn_whole n (is_something m) z) q)

pub for_begun : {k : Rest} {r : List Terminal} {bs : List StmtAction} → RowStart sign.Semicolon (λ n. ConditionRest n k) r bs
    → Begun k (word_terminal word.For ∷ sign_terminal sign.OpenParen ∷ r) bs
unfolding stmt_terminals stmt_actions nearest takes_else
for_begun q =
    pair (λ l x. for_form l x.condition (x.turn).next (x.turn).body) (λ r. word_terminal word.For ∷ sign_terminal sign.OpenParen ∷ r) (λ bs. bs) (λ l x r. refl) (λ l x bs. refl) (λ l x r h h'. h')
    (onward (λ l r bs z. turns_whole (list_count l) z) q)

pub each_begun : {k : Rest} (e : ExprForm) (v : VariablesForm) {r : List Terminal} {bs : List StmtAction} → LoopBody (loop.Each (key_variable v) (value_variable v)) k r bs
    → Begun k (word_terminal word.Foreach ∷ sign_terminal sign.OpenParen ∷ expr_terminals e (word_terminal word.As ∷ variables_terminals v (sign_terminal sign.CloseParen ∷ r))) (value_actions e bs)
unfolding stmt_terminals stmt_actions nearest takes_else
each_begun e v q =
    extend (each_form e v) (λ r. word_terminal word.Foreach ∷ sign_terminal sign.OpenParen ∷ expr_terminals e (word_terminal word.As ∷ variables_terminals v (sign_terminal sign.CloseParen ∷ r))) (value_actions e) (λ b r. refl) (λ b bs. refl) (λ b r h. h) q

-- the condition of a `for`
pub no_condition : (n : ℕ) {k : Rest} {r : List Terminal} {bs : List StmtAction} → RowStart sign.CloseParen (λ next. LoopBody (loop.For n false next) k) r bs → ConditionRest n k (sign_terminal sign.Semicolon ∷ r) bs
no_condition n {r = r} {bs = bs} q = here nothing_form r bs tt q

pub some_condition : (n : ℕ) (e : ExprForm) {k : Rest} {r : List Terminal} {bs : List StmtAction} → RowStart sign.CloseParen (λ next. LoopBody (loop.For n true next) k) r bs
    → ConditionRest n k (expr_terminals e (sign_terminal sign.Semicolon ∷ r)) (value_actions e bs)
some_condition n e {r = r} {bs = bs} q = here (something_form e) r bs tt q

-- The moves in rows of expressions, and in the head of a function, carry what stands behind them.
use Rattle.std.proofs.Common.{◌≡◌, ◌==◌, ℕ, ◌+◌, Bool, true, false, List, [], ◌∷◌, refl, subst}
use Rattle.std.specs.Prelude.{if◌then◌else◌}
use Rattle.php_syntax.specs.declared.token.Sign.TheVariants as sign
use Rattle.script_grammar.specs.declared.keyword.Keyword.{Keyword}
use Rattle.script_grammar.specs.declared.keyword.Keyword.TheVariants as word
use Rattle.script_grammar.specs.Terminals.{Terminal, variable_terminal, word_terminal, int_terminal, text_terminal, sign_terminal}
use Rattle.script_grammar.specs.Statements.{int_literal, negated_literal, text_literal, true_literal, false_literal, null_literal, param_form, default_form}
use Rattle.expr_machine.specs.Machine.{behind}
use Rattle.expr_machine.specs.Reading.{expr_at}
use Rattle.stmt_machine.specs.declared.frame.Loop.TheVariants as loop
use Rattle.stmt_machine.specs.declared.frame.Row.{Row}
use Rattle.stmt_machine.specs.declared.frame.Row.TheVariants as row
use Rattle.stmt_machine.specs.declared.frame.Focus.TheVariants as focus
use Rattle.stmt_machine.specs.declared.frame.Frame.{Frame}
use Rattle.stmt_machine.specs.Machine.{moves, stuck, row_end_next, listed_move, start_move, row_end_move, more_move, row_move, for_condition_move, statement_at, condition_move, literal_word, literal_at, default_move, parameter_move, function_body_move, parameters_move, parameter_end_move}
use Rattle.stmt_laws.proofs.Shapes.{Rest, here}
use Rattle.stmt_laws.proofs.Stands.{RowEnd, row_sign, RowListed, ParamsRest, MoreParamsRest, ParamRest, Later, Stands, Carries}
use Rattle.stmt_laws.proofs.SoundAhead.{true_false}
use Rattle.stmt_laws.proofs.SoundRows.{row_end, row_more, start_empty, start_some, no_condition, some_condition}
use Rattle.stmt_laws.proofs.Parts.{no_params, params_end, param_read, first_param, next_param}
use Rattle.stmt_laws.proofs.Cases.{ExprSound, statement_case, semicolon_case, paren_case}
use Rattle.stmt_laws.proofs.SoundBegins.{listed_carries, body_carries}

-- whether a row ends next
row_case : (l : Row) (Q : Bool → List Terminal → List Terminal → Type 0) → ((r : List Terminal) → Q true r (sign_terminal (row_sign l) ∷ r)) → ((ts : List Terminal) → Q false (behind ts) ts)
    → (ts : List Terminal) → Q (row_end_next l ts) (behind ts) ts
row_case row.Echo Q t f ts = semicolon_case Q t f ts
row_case row.Begin Q t f ts = semicolon_case Q t f ts
row_case (row.Next b c) Q t f ts = paren_case Q t f ts

abbrev RowIs : Row → ℕ → List Frame → Rest
RowIs l n fs = RowListed (row_sign l) n (RowEnd l (Later fs))

row_end_carries : (l : Row) (n : ℕ) (fs : List Frame) (ts : List Terminal) → Carries (row_end_move l n fs ts) (RowIs l n fs (sign_terminal (row_sign l) ∷ ts))
row_end_carries row.Echo n fs ts = λ bs g. row_end sign.Semicolon n (RowEnd row.Echo (Later fs)) ts _ (here tt ts bs tt g)
row_end_carries row.Begin n fs ts = λ bs g. row_end sign.Semicolon n (RowEnd row.Begin (Later fs)) ts bs g
row_end_carries (row.Next b c) n fs ts =
    body_carries (loop.For b c n) fs (λ acts. acts) (λ us bs. RowIs (row.Next b c) n fs (sign_terminal sign.CloseParen ∷ us) bs) (λ us bs g. row_end sign.CloseParen n (RowEnd (row.Next b c) (Later fs)) us _ g) ts

not_zero : (n : ℕ) → (n == 0) ≡ false → n ≡ 0 → ⊥
not_zero n e z = true_false (subst (λ m. (m == 0) ≡ false) z e)

one_more_carries : ExprSound → (l : Row) (n : ℕ) (b : Bool) → (n == 0) ≡ b → (fs : List Frame) (ts : List Terminal)
    → Carries (if b then stuck else listed_move l (n + 1) fs (expr_at ts)) (RowIs l n fs (sign_terminal sign.Comma ∷ ts))
one_more_carries sound l n true e fs ts = tt
one_more_carries sound l n false e fs ts =
    listed_carries sound l (n + 1) fs (λ us bs. RowIs l n fs (sign_terminal sign.Comma ∷ us) bs) (λ x r bs g. row_more (row_sign l) n (RowEnd l (Later fs)) x (not_zero n e) g) ts

more_carries : ExprSound → (l : Row) (n : ℕ) (fs : List Frame) (ts : List Terminal) → Carries (more_move l n fs ts) (RowIs l n fs ts)
more_carries sound l n fs (sign_terminal sign.Comma ∷ ts) = one_more_carries sound l n (n == 0) refl fs ts
more_carries sound l n fs ts = tt

pub row_carries : ExprSound → (l : Row) (n : ℕ) (fs : List Frame) (ts : List Terminal) → Carries (row_move l n fs ts) (Stands (focus.Listed l n) fs ts)
row_carries sound l n fs ts =
    row_case l (λ b left us. Carries (if b then row_end_move l n fs left else more_move l n fs us) (RowIs l n fs us)) (λ left. row_end_carries l n fs left) (λ us. more_carries sound l n fs us) ts

start_other_carries : ExprSound → (l : Row) (fs : List Frame) (ts : List Terminal) → Carries (listed_move l 1 fs (expr_at ts)) (Stands (focus.Start l) fs ts)
start_other_carries sound l fs ts = listed_carries sound l 1 fs (λ us bs. Stands (focus.Start l) fs us bs) (λ e r bs g. start_some (row_sign l) (RowEnd l (Later fs)) e g) ts

pub start_carries : ExprSound → (l : Row) (fs : List Frame) (ts : List Terminal) → Carries (start_move l fs ts) (Stands (focus.Start l) fs ts)
start_carries sound l fs ts =
    row_case l (λ b left us. Carries (if b then moves (focus.Listed l 0) fs us [] else listed_move l 1 fs (expr_at us)) (Stands (focus.Start l) fs us))
    (λ left bs g. start_empty (row_sign l) (RowEnd l (Later fs)) g) (λ us. start_other_carries sound l fs us) ts

for_condition_carries : ExprSound → (n : ℕ) (fs : List Frame) (ts : List Terminal) → Carries (for_condition_move n fs (statement_at ts)) (Stands (focus.Condition n) fs ts)
for_condition_carries sound n fs ts =
    statement_case sound (λ o us. Carries (for_condition_move n fs o) (Stands (focus.Condition n) fs us)) (λ us. tt) (λ e r bs g. some_condition n e g) ts

pub condition_carries : ExprSound → (n : ℕ) (fs : List Frame) (ts : List Terminal) → Carries (condition_move n fs ts) (Stands (focus.Condition n) fs ts)
condition_carries sound n fs ts =
    semicolon_case (λ b left us. Carries (if b then moves (focus.Start (row.Next n false)) fs left [] else for_condition_move n fs (statement_at us)) (Stands (focus.Condition n) fs us))
    (λ left bs g. no_condition n g) (λ us. for_condition_carries sound n fs us) ts

-- parameters
literal_word_carries : (x : List ℕ) (k : Keyword) (fs : List Frame) (ts : List Terminal) → Carries (default_move x (literal_word k) fs ts) (ParamRest (Later fs) (variable_terminal x ∷ sign_terminal sign.Assign ∷ word_terminal k ∷ ts))
literal_word_carries x word.True fs ts = λ bs g. param_read (default_form x true_literal) ts bs g
literal_word_carries x word.False fs ts = λ bs g. param_read (default_form x false_literal) ts bs g
literal_word_carries x word.Null fs ts = λ bs g. param_read (default_form x null_literal) ts bs g
literal_word_carries x k fs ts = tt

default_carries : (x : List ℕ) (t : Terminal) (fs : List Frame) (ts : List Terminal) → Carries (default_move x (literal_at t) fs ts) (ParamRest (Later fs) (variable_terminal x ∷ sign_terminal sign.Assign ∷ t ∷ ts))
default_carries x (int_terminal z) fs ts = λ bs g. param_read (default_form x (int_literal z)) ts bs g
default_carries x (text_terminal t) fs ts = λ bs g. param_read (default_form x (text_literal t)) ts bs g
default_carries x (word_terminal k) fs ts = literal_word_carries x k fs ts
default_carries x t fs ts = tt

pub parameter_carries : (fs : List Frame) (ts : List Terminal) → Carries (parameter_move fs ts) (ParamRest (Later fs) ts)
parameter_carries fs (variable_terminal x ∷ sign_terminal sign.Assign ∷ sign_terminal sign.Minus ∷ int_terminal z ∷ r) = λ bs g. param_read (default_form x (negated_literal z)) r bs g
parameter_carries fs (variable_terminal x ∷ sign_terminal sign.Assign ∷ t ∷ r) = default_carries x t fs r
parameter_carries fs (variable_terminal x ∷ r) = λ bs g. param_read (param_form x) r bs g
parameter_carries fs ts = tt

function_body_carries : (fs : List Frame) (ts : List Terminal) → Carries (function_body_move fs ts) (ParamsRest (Later fs) (sign_terminal sign.CloseParen ∷ ts))
function_body_carries fs (sign_terminal sign.OpenBrace ∷ r) = λ bs g. no_params r bs g
function_body_carries fs ts = tt

last_parameter_carries : (fs : List Frame) (ts : List Terminal) → Carries (function_body_move fs ts) (MoreParamsRest (Later fs) (sign_terminal sign.CloseParen ∷ ts))
last_parameter_carries fs (sign_terminal sign.OpenBrace ∷ r) = λ bs g. params_end r bs g
last_parameter_carries fs ts = tt

pub parameters_carries : (fs : List Frame) (ts : List Terminal) → Carries (parameters_move fs ts) (ParamsRest (Later fs) ts)
parameters_carries fs (sign_terminal sign.CloseParen ∷ r) = function_body_carries fs r
parameters_carries fs ts = λ bs g. first_param g

pub parameter_end_carries : (fs : List Frame) (ts : List Terminal) → Carries (parameter_end_move fs ts) (MoreParamsRest (Later fs) ts)
parameter_end_carries fs (sign_terminal sign.CloseParen ∷ r) = last_parameter_carries fs r
parameter_end_carries fs (sign_terminal sign.Comma ∷ r) = λ bs g. next_param g
parameter_end_carries fs ts = tt

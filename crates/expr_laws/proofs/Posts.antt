-- Operands are read, where their parts are: variables, calls, brackets, literals and steps.
use Rattle.std.proofs.Common.{◌≡◌, ℕ, ℤ, ◌+◌, Bool, true, false, if◌then◌else◌, ◌&&◌, ◌==◌, List, [], ◌∷◌, Some, None, refl, ap, ◌∙◌, subst, arith}
use Rattle.php_syntax.specs.declared.token.Sign.{Sign}
use Rattle.php_syntax.specs.declared.token.Sign.TheVariants as sign
use Rattle.script_grammar.specs.declared.keyword.Keyword.{Keyword}
use Rattle.php_syntax.specs.Tokens.{PlainPart}
use Rattle.php_syntax.specs.Trees.{PlainExpr}
use Rattle.script_grammar.specs.Operators.{step_sign}
use Rattle.script_grammar.specs.Terminals.{Terminal, template_terminal, sign_terminal}
use Rattle.script_grammar.specs.Expressions.{constant_of, is_escape, ExprForm, base_form, after_form, before_form, int_form, text_form, template_form, constant_form, variable_base, call_base, escape_base, parens_base, QuotesForm, only_quotes, quotes_and_charset, SubscriptsForm, no_subscript, subscript_form, empty_list, list_form, MoreExprsForm, quotes_terminals, expr_terminals, subscripts_terminals, more_exprs_terminals}
use Rattle.expr_machine.specs.declared.frame.Focus.TheVariants as focus
use Rattle.expr_machine.specs.declared.frame.Frame.{Frame}
use Rattle.expr_machine.specs.declared.frame.Frame.TheVariants as frame
use Rattle.expr_machine.specs.Actions.{Action, read_action, call_action}
use Rattle.expr_machine.specs.Machine.{moves, move, behind_quotes, escape_move}
use Rattle.expr_machine.specs.Postfix.{subscripts_count, exprs_count, expr_actions}
use Rattle.expr_laws.proofs.Goes.{Goes, steps}
use Rattle.expr_laws.proofs.Ahead.{place_ends, subscripted_ends}
use Rattle.expr_laws.proofs.Opening.{expr_opens, key_begins, argument_begins}
use Rattle.expr_laws.proofs.Begins.{after_steps, before_steps, constant_begins, template_before}
use Rattle.expr_laws.proofs.Levels.{exprs_rank}
use Rattle.expr_laws.proofs.Claims.{ExprReads, PostReads, PlaceReads, SubscriptsRead, ArgumentsRead}

-- subscripts of a variable
pub no_place_reads : PlaceReads no_subscript
unfolding expr_terminals expr_actions
no_place_reads x n m fs r k count out goes =
    subst (λ (j : ℕ). Goes (focus.Place x j false) fs r k out) (omega arith) goes

pub place_reads : (e : ExprForm) (ks : SubscriptsForm) → ExprReads e → PlaceReads ks → PlaceReads (subscript_form e ks)
unfolding expr_terminals expr_actions move
place_reads e ks key reads x n m fs r k count out goes =
    let behind : List Terminal = sign_terminal sign.CloseBracket ∷ subscripts_terminals ks r in
    steps (key_begins x n false fs (expr_terminals e behind) (expr_opens e behind))
    (key (frame.Key x n false ∷ fs) behind _ refl refl out
    (steps refl (reads x (n + 1) m fs r k (omega arith) out goes)))

-- subscripts of another value
pub no_subscript_reads : SubscriptsRead no_subscript
unfolding expr_terminals expr_actions
no_subscript_reads fs r k next out goes = steps (subscripted_ends fs r next) goes

pub subscript_reads : (e : ExprForm) (ks : SubscriptsForm) → ExprReads e → SubscriptsRead ks → SubscriptsRead (subscript_form e ks)
unfolding expr_terminals expr_actions move
subscript_reads e ks key reads fs r k next out goes =
    steps refl
    (key (frame.Subscript ∷ fs) (sign_terminal sign.CloseBracket ∷ subscripts_terminals ks r) _ refl refl out
    (steps refl (reads fs r k next out goes)))

-- a variable with subscripts
pub variable_reads : (x : List ℕ) (ks : SubscriptsForm) → PlaceReads ks → PostReads (base_form (variable_base x) ks)
unfolding expr_terminals expr_actions move
variable_reads x ks reads fs r k next out goes =
    let n = subscripts_count ks in
    steps refl (reads x 0 n fs r (read_action x n ∷ k) (omega arith) out
    (steps (place_ends x n fs r next) goes))

-- calls
pub empty_call_reads : (f : List ℕ) (ks : SubscriptsForm) → SubscriptsRead ks → PostReads (base_form (call_base f empty_list) ks)
unfolding expr_terminals expr_actions move
empty_call_reads f ks reads fs r k next out goes =
    steps refl (reads fs r k next out goes)

pub call_reads : (f : List ℕ) (e : ExprForm) (es : MoreExprsForm) (ks : SubscriptsForm) → ExprReads e → ArgumentsRead es → SubscriptsRead ks → PostReads (base_form (call_base f (list_form e es)) ks)
unfolding expr_terminals expr_actions move
call_reads f e es ks first others reads fs r k next out goes =
    let last : List Terminal = subscripts_terminals ks r in
    let behind : List Terminal = more_exprs_terminals es (sign_terminal sign.CloseParen ∷ last) in
    steps (argument_begins f fs (expr_terminals e behind) (expr_opens e behind))
    (first (frame.Argument f 0 ∷ fs) behind _ (exprs_rank es last) refl out
    (others f 0 (exprs_count es + 1) fs last _ (omega arith) out
    (reads fs r k next out goes)))

-- two more arguments that say what is so anyway
quotes_behind : (q : QuotesForm) (r : List Terminal) → behind_quotes (sign_terminal sign.Comma ∷ quotes_terminals q (sign_terminal sign.CloseParen ∷ r)) ≡ Some r
quotes_behind only_quotes r = refl
quotes_behind (quotes_and_charset t is) r = ap (λ b. if b then Some r else None) is

escape_ends : (f : List ℕ) (is : is_escape f ≡ true) (q : QuotesForm) (fs : List Frame) (r : List Terminal) → move focus.Whole (frame.Argument f 0 ∷ fs) (sign_terminal sign.Comma ∷ quotes_terminals q (sign_terminal sign.CloseParen ∷ r)) ≡ moves focus.Subscripted fs r (call_action f 1 ∷ [])
unfolding move
escape_ends f is q fs r =
    let ts : List Terminal = sign_terminal sign.Comma ∷ quotes_terminals q (sign_terminal sign.CloseParen ∷ r) in
    ap (λ b. escape_move (if b && (0 == 0) then behind_quotes ts else None) f 0 fs ts) is
    ∙ ap (λ found. escape_move found f 0 fs ts) (quotes_behind q r)

pub escape_reads : (f : List ℕ) (is : is_escape f ≡ true) (e : ExprForm) (q : QuotesForm) (ks : SubscriptsForm) → ExprReads e → SubscriptsRead ks → PostReads (base_form (escape_base f is e q) ks)
unfolding expr_terminals expr_actions move
escape_reads f is e q ks first reads fs r k next out goes =
    let last : List Terminal = subscripts_terminals ks r in
    let behind : List Terminal = sign_terminal sign.Comma ∷ quotes_terminals q (sign_terminal sign.CloseParen ∷ last) in
    steps (argument_begins f fs (expr_terminals e behind) (expr_opens e behind))
    (first (frame.Argument f 0 ∷ fs) behind _ refl refl out
    (steps (escape_ends f is q fs last)
    (reads fs r k next out goes)))

-- an expression in brackets
pub parens_reads : (e : ExprForm) (ks : SubscriptsForm) → ExprReads e → SubscriptsRead ks → PostReads (base_form (parens_base e) ks)
unfolding expr_terminals expr_actions move
parens_reads e ks first reads fs r k next out goes =
    steps refl
    (first (frame.Parens ∷ fs) (sign_terminal sign.CloseParen ∷ subscripts_terminals ks r) _ refl refl out
    (steps refl (reads fs r k next out goes)))

-- steps
pub after_reads : (x : List ℕ) (s : Sign) (up : Bool) (is : step_sign s ≡ Some up) → PostReads (after_form x s up is)
unfolding expr_terminals expr_actions move
after_reads x s up is fs r k next out goes =
    steps refl (steps (after_steps x up fs s r is) goes)

pub before_reads : (s : Sign) (up : Bool) (is : step_sign s ≡ Some up) (x : List ℕ) → PostReads (before_form s up is x)
unfolding expr_terminals expr_actions
before_reads s up is x fs r k next out goes = steps (before_steps x up fs s r is) goes

-- literals
pub int_reads : (z : ℤ) → PostReads (int_form z)
unfolding expr_terminals expr_actions move
int_reads z fs r k next out goes = steps refl goes

pub text_reads : (t : List ℕ) → PostReads (text_form t)
unfolding expr_terminals expr_actions move
text_reads t fs r k next out goes = steps refl goes

pub template_reads : (ps : List PlainPart) → PostReads (template_form ps)
unfolding expr_terminals expr_actions move
template_reads ps fs r k next out goes =
    subst (λ (acts : List Action). Goes focus.Begin fs (template_terminal ps ∷ r) acts out) (template_before ps k) (steps refl goes)

pub constant_reads : (w : Keyword) (e : PlainExpr) (is : constant_of w ≡ Some e) → PostReads (constant_form w e is)
unfolding expr_terminals expr_actions
constant_reads w e is fs r k next out goes = steps (constant_begins w e fs r is) goes

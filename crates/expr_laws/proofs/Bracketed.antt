-- The moves at the operands that have brackets carry what stands behind them.
use Rattle.std.proofs.Common.{◌≡◌, ℕ, ◌+◌, Bool, List, [], ◌∷◌, refl, ap, Option, Some, None}
use Rattle.php_syntax.specs.declared.token.Sign.{Sign}
use Rattle.php_syntax.specs.declared.token.Sign.TheVariants as sign
use Rattle.script_grammar.specs.declared.keyword.Keyword.{Keyword}
use Rattle.script_grammar.specs.declared.keyword.Keyword.TheVariants as word
use Rattle.script_grammar.specs.declared.operator.Prefix.{Prefix}
use Rattle.php_syntax.specs.Trees.{PlainExpr}
use Rattle.script_grammar.specs.Operators.{prefix_operator, step_sign}
use Rattle.script_grammar.specs.Terminals.{Terminal, variable_terminal, word_terminal, name_terminal, int_terminal, text_terminal, template_terminal, sign_terminal}
use Rattle.script_grammar.specs.Expressions.{constant_of, ExprForm, expr_terminals, base_form, isset_form, empty_form, array_form, bracket_form, post_terminals, call_base, escape_base, parens_base, base_terminals, empty_list, list_form, list_terminals, empty_items, items_form, items_terminals, value_item, keyed_item, item_terminals}
use Rattle.expr_machine.specs.declared.frame.Brackets.{Brackets}
use Rattle.expr_machine.specs.declared.frame.Brackets.TheVariants as brackets
use Rattle.expr_machine.specs.declared.frame.Focus.TheVariants as focus
use Rattle.expr_machine.specs.declared.frame.Frame.{Frame}
use Rattle.expr_machine.specs.declared.frame.Frame.TheVariants as frame
use Rattle.expr_machine.specs.Actions.{Action, unkeyed_action, isset_action, array_action, call_action}
use Rattle.expr_machine.specs.Machine.{moves, closed_next, behind, array_move, keyword_move, word_move, call_move, step_move, bracket_move, sign_move, begin_move}
use Rattle.expr_machine.specs.Postfix.{expr_actions, post_actions, subscripts_actions, list_actions, more_exprs_actions, exprs_count, items_actions, more_items_actions, items_count, item_form_actions}
use Rattle.expr_laws.proofs.Shapes.{Ahead, Reads, joined, after, respelled}
use Rattle.expr_laws.proofs.Stands.{want, ArgumentTail, arguments_tail, quotes_tail, argument_tail_terminals, argument_tail_actions, closer, ItemTail, value_tail, keyed_tail, item_tail_terminals, item_tail_actions, FromUnary, FromSubscripted, Filled, Stands, Carries}
use Rattle.expr_laws.proofs.Tests.{carry_test, carry_on, closing}
use Rattle.expr_laws.proofs.SoundBegins.{none_plus, post_begun, variable_begun, template_begun, constant_begun, int_begun, text_begun, step_begun, prefix_begun}

-- brackets round an expression
parens_begun : (end : List Terminal) (fs : List Frame) (us : List Terminal) (later : List Action) → Stands end focus.Begin (frame.Parens ∷ fs) us later → Stands end focus.Begin fs (sign_terminal sign.OpenParen ∷ us) later
unfolding post_terminals base_terminals post_actions
parens_begun end fs us later h =
    let q = joined h.1 (h.1).goes_on
    in let z = q.goes_on
    in post_begun (want fs) (Filled end fs) (base_form (parens_base h.0) z.0) (after (λ r. sign_terminal sign.OpenParen ∷ r) (λ r. r) (joined q z.1))

-- calls
empty_call : (end : List Terminal) (fs : List Frame) (f : List ℕ) (us : List Terminal) (later : List Action) → Stands end focus.Subscripted fs us later
    → Stands end focus.Begin fs (name_terminal f ∷ sign_terminal sign.OpenParen ∷ sign_terminal sign.CloseParen ∷ us) (call_action f 0 ∷ later)
unfolding post_terminals base_terminals list_terminals post_actions list_actions
empty_call end fs f us later h =
    post_begun (want fs) (Filled end fs) (base_form (call_base f empty_list) h.0) (after (λ r. name_terminal f ∷ sign_terminal sign.OpenParen ∷ sign_terminal sign.CloseParen ∷ r) (λ r. call_action f 0 ∷ r) h.1)

call_tail : (end : List Terminal) (fs : List Frame) (f : List ℕ) (us : List Terminal) (later : List Action) (e : ExprForm) (t : ArgumentTail f 0)
    → (q : Ahead (λ r. expr_terminals e (argument_tail_terminals t r)) (λ r. expr_actions e (argument_tail_actions t r)) (FromSubscripted (want fs) (Filled end fs)) us later)
    → Stands end focus.Begin fs (name_terminal f ∷ sign_terminal sign.OpenParen ∷ us) later
unfolding post_terminals base_terminals list_terminals post_actions list_actions
call_tail end fs f us later e (arguments_tail es) q =
    let z = q.goes_on
    in let p = respelled (λ r. expr_actions e (more_exprs_actions es (call_action f (exprs_count es + 1) ∷ subscripts_actions z.0 r))) (λ r. ap (λ m. expr_actions e (more_exprs_actions es (call_action f (m + 1) ∷ subscripts_actions z.0 r))) (none_plus (exprs_count es))) (joined q z.1)
    in post_begun (want fs) (Filled end fs) (base_form (call_base f (list_form e es)) z.0) (after (λ r. name_terminal f ∷ sign_terminal sign.OpenParen ∷ r) (λ r. r) p)
call_tail end fs f us later e (quotes_tail is none quotes) q =
    let z = q.goes_on in post_begun (want fs) (Filled end fs) (base_form (escape_base f is e quotes) z.0) (after (λ r. name_terminal f ∷ sign_terminal sign.OpenParen ∷ r) (λ r. r) (joined q z.1))

call_begun : (end : List Terminal) (fs : List Frame) (f : List ℕ) (us : List Terminal) (later : List Action) → Stands end focus.Begin (frame.Argument f 0 ∷ fs) us later → Stands end focus.Begin fs (name_terminal f ∷ sign_terminal sign.OpenParen ∷ us) later
call_begun end fs f us later h = let z = (h.1).goes_on in call_tail end fs f us later h.0 z.0 (joined h.1 z.1)

call_carries : (end : List Terminal) (f : List ℕ) (fs : List Frame) (us : List Terminal) → Carries end (call_move f fs us) (name_terminal f ∷ us) (Stands end focus.Begin fs (name_terminal f ∷ us))
call_carries end f fs (sign_terminal sign.OpenParen ∷ sign_terminal sign.CloseParen ∷ us) = λ later h. empty_call end fs f us later h
call_carries end f fs (sign_terminal sign.OpenParen ∷ us) = λ later h. call_begun end fs f us later h
call_carries end f fs us = tt

-- `isset` and `empty`
isset_begun : (end : List Terminal) (fs : List Frame) (us : List Terminal) (later : List Action) → Stands end focus.Begin (frame.Isset 0 ∷ fs) us later → Stands end focus.Begin fs (word_terminal word.Isset ∷ sign_terminal sign.OpenParen ∷ us) later
unfolding post_terminals post_actions
isset_begun end fs us later h =
    let z = (h.1).goes_on
    in let q = respelled (λ r. expr_actions h.0 (more_exprs_actions z.0 (isset_action (exprs_count z.0 + 1) ∷ r))) (λ r. ap (λ m. expr_actions h.0 (more_exprs_actions z.0 (isset_action (m + 1) ∷ r))) (none_plus (exprs_count z.0))) (joined h.1 z.1)
    in post_begun (want fs) (Filled end fs) (isset_form h.0 z.0) (after (λ r. word_terminal word.Isset ∷ sign_terminal sign.OpenParen ∷ r) (λ r. r) q)

empty_begun : (end : List Terminal) (fs : List Frame) (us : List Terminal) (later : List Action) → Stands end focus.Begin (frame.Empty ∷ fs) us later → Stands end focus.Begin fs (word_terminal word.Empty ∷ sign_terminal sign.OpenParen ∷ us) later
unfolding post_terminals post_actions
empty_begun end fs us later h = post_begun (want fs) (Filled end fs) (empty_form h.0) (after (λ r. word_terminal word.Empty ∷ sign_terminal sign.OpenParen ∷ r) (λ r. r) (joined h.1 (h.1).goes_on))

-- arrays: what stands behind their first bracket
abbrev pub ArrayAhead : List Terminal → Brackets → List Frame → List Terminal → List Action → Type 0
ArrayAhead end b fs ts acts = Reads (λ is r. items_terminals is (sign_terminal (closer b) ∷ r)) items_actions (FromUnary (want fs) (Filled end fs)) ts acts

no_items : (end : List Terminal) (b : Brackets) (fs : List Frame) (ts : List Terminal) → ts ≡ sign_terminal (closer b) ∷ behind ts → (later : List Action) → Stands end focus.Unary fs (behind ts) later → ArrayAhead end b fs ts (array_action 0 ∷ later)
unfolding items_terminals items_actions
no_items end b fs ts e later h = (empty_items, record { left = behind ts; later = later; reads = e; does = refl; goes_on = h })

items_tail : (end : List Terminal) (b : Brackets) (fs : List Frame) (us : List Terminal) (later : List Action) (e : ExprForm) (t : ItemTail)
    → Ahead (λ r. expr_terminals e (item_tail_terminals b t r)) (λ r. expr_actions e (item_tail_actions 0 t r)) (FromUnary (want fs) (Filled end fs)) us later → ArrayAhead end b fs us later
unfolding items_terminals items_actions item_terminals item_form_actions
items_tail end b fs us later e (value_tail is) q =
    (items_form (value_item e) is, respelled (λ r. expr_actions e (unkeyed_action ∷ more_items_actions is (array_action (items_count is + 1) ∷ r))) (λ r. ap (λ m. expr_actions e (unkeyed_action ∷ more_items_actions is (array_action (m + 1) ∷ r))) (none_plus (items_count is))) q)
items_tail end b fs us later e (keyed_tail v is) q =
    (items_form (keyed_item e v) is, respelled (λ r. expr_actions e (expr_actions v (more_items_actions is (array_action (items_count is + 1) ∷ r)))) (λ r. ap (λ m. expr_actions e (expr_actions v (more_items_actions is (array_action (m + 1) ∷ r)))) (none_plus (items_count is))) q)

some_items : (end : List Terminal) (b : Brackets) (fs : List Frame) (us : List Terminal) (later : List Action) → Stands end focus.Begin (frame.Item b 0 ∷ fs) us later → ArrayAhead end b fs us later
some_items end b fs us later h = let z = (h.1).goes_on in items_tail end b fs us later h.0 z.0 (joined h.1 z.1)

array_carries : (end : List Terminal) (b : Brackets) (fs : List Frame) (ts whole : List Terminal) → Carries end (array_move b fs ts) whole (ArrayAhead end b fs ts)
array_carries end b fs ts whole =
    carry_test end whole (ArrayAhead end b fs ts) (closed_next b ts) (moves focus.Unary fs (behind ts) (array_action 0 ∷ [])) (moves focus.Begin (frame.Item b 0 ∷ fs) ts [])
    (λ e. λ later h. no_items end b fs ts (closing b ts e) later h) (λ e. λ later h. some_items end b fs ts later h)

round_array : (end : List Terminal) (fs : List Frame) (us : List Terminal) (acts : List Action) → ArrayAhead end brackets.Round fs us acts → Stands end focus.Begin fs (word_terminal word.Array ∷ sign_terminal sign.OpenParen ∷ us) acts
unfolding post_terminals post_actions
round_array end fs us acts h = post_begun (want fs) (Filled end fs) (array_form h.0) (after (λ r. word_terminal word.Array ∷ sign_terminal sign.OpenParen ∷ r) (λ r. r) h.1)

square_array : (end : List Terminal) (fs : List Frame) (us : List Terminal) (acts : List Action) → ArrayAhead end brackets.Square fs us acts → Stands end focus.Begin fs (sign_terminal sign.OpenBracket ∷ us) acts
unfolding post_terminals post_actions
square_array end fs us acts h = post_begun (want fs) (Filled end fs) (bracket_form h.0) (after (λ r. sign_terminal sign.OpenBracket ∷ r) (λ r. r) h.1)

round_carries : (end : List Terminal) (fs : List Frame) (us : List Terminal) → Carries end (array_move brackets.Round fs us) (word_terminal word.Array ∷ sign_terminal sign.OpenParen ∷ us) (Stands end focus.Begin fs (word_terminal word.Array ∷ sign_terminal sign.OpenParen ∷ us))
round_carries end fs us =
    carry_on end (word_terminal word.Array ∷ sign_terminal sign.OpenParen ∷ us) (ArrayAhead end brackets.Round fs us) (Stands end focus.Begin fs (word_terminal word.Array ∷ sign_terminal sign.OpenParen ∷ us)) (array_move brackets.Round fs us)
    (λ acts h. round_array end fs us acts h) (array_carries end brackets.Round fs us (word_terminal word.Array ∷ sign_terminal sign.OpenParen ∷ us))

square_carries : (end : List Terminal) (fs : List Frame) (us : List Terminal) → Carries end (array_move brackets.Square fs us) (sign_terminal sign.OpenBracket ∷ us) (Stands end focus.Begin fs (sign_terminal sign.OpenBracket ∷ us))
square_carries end fs us =
    carry_on end (sign_terminal sign.OpenBracket ∷ us) (ArrayAhead end brackets.Square fs us) (Stands end focus.Begin fs (sign_terminal sign.OpenBracket ∷ us)) (array_move brackets.Square fs us)
    (λ acts h. square_array end fs us acts h) (array_carries end brackets.Square fs us (sign_terminal sign.OpenBracket ∷ us))

-- keywords
keyword_carries : (end : List Terminal) (k : Keyword) (fs : List Frame) (us : List Terminal) → Carries end (keyword_move k fs us) (word_terminal k ∷ us) (Stands end focus.Begin fs (word_terminal k ∷ us))
keyword_carries end word.Isset fs (sign_terminal sign.OpenParen ∷ us) = λ later h. isset_begun end fs us later h
keyword_carries end word.Empty fs (sign_terminal sign.OpenParen ∷ us) = λ later h. empty_begun end fs us later h
keyword_carries end word.Array fs (sign_terminal sign.OpenParen ∷ us) = round_carries end fs us
keyword_carries end k fs us = tt

word_carries : (end : List Terminal) (k : Keyword) (q : Option PlainExpr) → constant_of k ≡ q → (fs : List Frame) (us : List Terminal) → Carries end (word_move q k fs us) (word_terminal k ∷ us) (Stands end focus.Begin fs (word_terminal k ∷ us))
word_carries end k (Some e) is fs us = λ later h. constant_begun (want fs) (Filled end fs) k e is us later h
word_carries end k None is fs us = keyword_carries end k fs us

-- signs
step_carries : (end : List Terminal) (s : Sign) (up : Bool) → step_sign s ≡ Some up → (fs : List Frame) (us : List Terminal) → Carries end (step_move up fs us) (sign_terminal s ∷ us) (Stands end focus.Begin fs (sign_terminal s ∷ us))
step_carries end s up is fs (variable_terminal x ∷ us) = λ later h. step_begun (want fs) (Filled end fs) s up is x us later h
step_carries end s up is fs us = tt

bracket_carries : (end : List Terminal) (s : Sign) (fs : List Frame) (us : List Terminal) → Carries end (bracket_move s fs us) (sign_terminal s ∷ us) (Stands end focus.Begin fs (sign_terminal s ∷ us))
bracket_carries end sign.OpenParen fs us = λ later h. parens_begun end fs us later h
bracket_carries end sign.OpenBracket fs us = square_carries end fs us
bracket_carries end s fs us = tt

sign_carries : (end : List Terminal) (q : Option Prefix) (step : Option Bool) (s : Sign) → prefix_operator s ≡ q → step_sign s ≡ step → (fs : List Frame) (us : List Terminal) → Carries end (sign_move q step s fs us) (sign_terminal s ∷ us) (Stands end focus.Begin fs (sign_terminal s ∷ us))
sign_carries end (Some p) step s is is' fs us = λ later h. prefix_begun end fs s p is us later h
sign_carries end None (Some up) s is is' fs us = step_carries end s up is' fs us
sign_carries end None None s is is' fs us = bracket_carries end s fs us

pub begin_carries : (end : List Terminal) (fs : List Frame) (ts : List Terminal) → Carries end (begin_move fs ts) ts (Stands end focus.Begin fs ts)
begin_carries end fs (variable_terminal x ∷ us) = λ later h. variable_begun (want fs) (Filled end fs) x us later h
begin_carries end fs (int_terminal z ∷ us) = λ later h. int_begun (want fs) (Filled end fs) z us later h
begin_carries end fs (text_terminal t ∷ us) = λ later h. text_begun (want fs) (Filled end fs) t us later h
begin_carries end fs (template_terminal ps ∷ us) = λ later h. template_begun (want fs) (Filled end fs) ps us later h
begin_carries end fs (word_terminal k ∷ us) = word_carries end k (constant_of k) refl fs us
begin_carries end fs (name_terminal f ∷ us) = call_carries end f fs us
begin_carries end fs (sign_terminal s ∷ us) = sign_carries end (prefix_operator s) (step_sign s) s refl refl fs us
begin_carries end fs _ = tt

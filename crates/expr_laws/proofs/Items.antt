-- Arrays are read, where their items are.
use Rattle.std.proofs.Common.{◌≡◌, ℕ, ◌+◌, Bool, true, false, if◌then◌else◌, List, [], ◌∷◌, refl, ap, subst, arith}
use Rattle.php_syntax.specs.declared.token.Sign.TheVariants as sign
use Rattle.script_grammar.specs.Terminals.{Terminal, sign_terminal}
use Rattle.script_grammar.specs.Expressions.{ExprForm, array_form, bracket_form, empty_items, items_form, MoreItemsForm, end_of_items, last_comma, one_more_item, ItemForm, value_item, keyed_item, expr_terminals, more_items_terminals, item_terminals}
use Rattle.expr_machine.specs.declared.frame.Brackets.{Brackets}
use Rattle.expr_machine.specs.declared.frame.Brackets.TheVariants as brackets
use Rattle.expr_machine.specs.declared.frame.Focus.TheVariants as focus
use Rattle.expr_machine.specs.declared.frame.Frame.{Frame}
use Rattle.expr_machine.specs.declared.frame.Frame.TheVariants as frame
use Rattle.expr_machine.specs.Actions.{Action, array_action, unkeyed_action}
use Rattle.expr_machine.specs.Machine.{moves, move, behind, item_actions}
use Rattle.expr_machine.specs.Postfix.{items_count, expr_actions}
use Rattle.expr_machine.specs.Reading.{rank_next}
use Rattle.expr_laws.proofs.Goes.{Goes, steps}
use Rattle.expr_laws.proofs.Opening.{opens, item_opens, not_closed, items_begin}
use Rattle.expr_laws.proofs.Claims.{ExprReads, PostReads, ItemReads, MoreItemsRead, item_frame, closer, is_keyed}

-- items
pub value_item_reads : (e : ExprForm) → ExprReads e → ItemReads (value_item e)
unfolding expr_terminals expr_actions
value_item_reads e reads b n fs r k next out goes = reads (frame.Item b n ∷ fs) r _ next refl out goes

pub keyed_item_reads : (key e : ExprForm) → ExprReads key → ExprReads e → ItemReads (keyed_item key e)
unfolding expr_terminals expr_actions move
keyed_item_reads key e first second b n fs r k next out goes =
    first (frame.Item b n ∷ fs) (sign_terminal sign.DoubleArrow ∷ expr_terminals e r) _ refl refl out
    (steps refl (second (frame.KeyedItem b n ∷ fs) r _ next refl out goes))

-- moves behind an item: the closing sign, a comma before it, and a comma before another item
closes_next : (keyed : Bool) (b : Brackets) (n : ℕ) (fs : List Frame) (r : List Terminal) → move focus.Whole (item_frame keyed b n ∷ fs) (sign_terminal (closer b) ∷ r) ≡ moves focus.Unary fs r (item_actions keyed (array_action (n + 1) ∷ []))
unfolding move
closes_next true brackets.Round n fs r = refl
closes_next true brackets.Square n fs r = refl
closes_next false brackets.Round n fs r = refl
closes_next false brackets.Square n fs r = refl

comma_closes : (keyed : Bool) (b : Brackets) (n : ℕ) (fs : List Frame) (r : List Terminal) → move focus.Whole (item_frame keyed b n ∷ fs) (sign_terminal sign.Comma ∷ sign_terminal (closer b) ∷ r) ≡ moves focus.Unary fs r (item_actions keyed (array_action (n + 1) ∷ []))
unfolding move
comma_closes true brackets.Round n fs r = refl
comma_closes true brackets.Square n fs r = refl
comma_closes false brackets.Round n fs r = refl
comma_closes false brackets.Square n fs r = refl

comma_goes_on : (keyed : Bool) (b : Brackets) (n : ℕ) (fs : List Frame) (ts : List Terminal) → opens ts ≡ true → move focus.Whole (item_frame keyed b n ∷ fs) (sign_terminal sign.Comma ∷ ts) ≡ moves focus.Begin (frame.Item b (n + 1) ∷ fs) ts (item_actions keyed [])
unfolding move
comma_goes_on true brackets.Round n fs ts h = ap (λ b. if b then moves focus.Unary fs (behind ts) (array_action (n + 1) ∷ []) else moves focus.Begin (frame.Item brackets.Round (n + 1) ∷ fs) ts []) (not_closed brackets.Round ts h)
comma_goes_on true brackets.Square n fs ts h = ap (λ b. if b then moves focus.Unary fs (behind ts) (array_action (n + 1) ∷ []) else moves focus.Begin (frame.Item brackets.Square (n + 1) ∷ fs) ts []) (not_closed brackets.Square ts h)
comma_goes_on false brackets.Round n fs ts h = ap (λ b. if b then moves focus.Unary fs (behind ts) (unkeyed_action ∷ array_action (n + 1) ∷ []) else moves focus.Begin (frame.Item brackets.Round (n + 1) ∷ fs) ts (unkeyed_action ∷ [])) (not_closed brackets.Round ts h)
comma_goes_on false brackets.Square n fs ts h = ap (λ b. if b then moves focus.Unary fs (behind ts) (unkeyed_action ∷ array_action (n + 1) ∷ []) else moves focus.Begin (frame.Item brackets.Square (n + 1) ∷ fs) ts (unkeyed_action ∷ [])) (not_closed brackets.Square ts h)

-- the actions of such moves stand before others
row_ends : (keyed : Bool) (b : Brackets) (n m : ℕ) (fs : List Frame) (ts r : List Terminal) (k : List Action) (out : List Terminal) → n + 1 ≡ m → move focus.Whole (item_frame keyed b n ∷ fs) ts ≡ moves focus.Unary fs r (item_actions keyed (array_action (n + 1) ∷ [])) → Goes focus.Unary fs r k out → Goes focus.Whole (item_frame keyed b n ∷ fs) ts (item_actions keyed (array_action m ∷ k)) out
row_ends true b n m fs ts r k out count e goes = subst (λ (j : ℕ). Goes focus.Whole (frame.KeyedItem b n ∷ fs) ts (array_action j ∷ k) out) count (steps e goes)
row_ends false b n m fs ts r k out count e goes = subst (λ (j : ℕ). Goes focus.Whole (frame.Item b n ∷ fs) ts (unkeyed_action ∷ array_action j ∷ k) out) count (steps e goes)

row_goes_on : (keyed : Bool) (b : Brackets) (n : ℕ) (fs : List Frame) (ts r : List Terminal) (k : List Action) (out : List Terminal) → move focus.Whole (item_frame keyed b n ∷ fs) ts ≡ moves focus.Begin (frame.Item b (n + 1) ∷ fs) r (item_actions keyed []) → Goes focus.Begin (frame.Item b (n + 1) ∷ fs) r k out → Goes focus.Whole (item_frame keyed b n ∷ fs) ts (item_actions keyed k) out
row_goes_on true b n fs ts r k out e goes = steps e goes
row_goes_on false b n fs ts r k out e goes = steps e goes

-- rows of items
pub items_end : MoreItemsRead end_of_items
unfolding expr_terminals expr_actions
items_end keyed b n m fs r k count out goes =
    row_ends keyed b n m fs (sign_terminal (closer b) ∷ r) r k out (omega arith) (closes_next keyed b n fs r) goes

pub items_end_by_comma : MoreItemsRead last_comma
unfolding expr_terminals expr_actions
items_end_by_comma keyed b n m fs r k count out goes =
    row_ends keyed b n m fs (sign_terminal sign.Comma ∷ sign_terminal (closer b) ∷ r) r k out (omega arith) (comma_closes keyed b n fs r) goes

closer_rank : (b : Brackets) (r : List Terminal) → rank_next (sign_terminal (closer b) ∷ r) ≡ 10
closer_rank brackets.Round r = refl
closer_rank brackets.Square r = refl

items_rank : (is : MoreItemsForm) (b : Brackets) (r : List Terminal) → rank_next (more_items_terminals is (sign_terminal (closer b) ∷ r)) ≡ 10
unfolding expr_terminals
items_rank end_of_items b r = closer_rank b r
items_rank last_comma b r = refl
items_rank (one_more_item i is) b r = refl

pub items_read : (i : ItemForm) (is : MoreItemsForm) → ItemReads i → MoreItemsRead is → MoreItemsRead (one_more_item i is)
unfolding expr_terminals expr_actions
items_read i is first others keyed b n m fs r k count out goes =
    let last : List Terminal = more_items_terminals is (sign_terminal (closer b) ∷ r) in
    let ts : List Terminal = item_terminals i last in
    row_goes_on keyed b n fs (sign_terminal sign.Comma ∷ ts) ts _ out (comma_goes_on keyed b n fs ts (item_opens i last))
    (first b (n + 1) fs last _ (items_rank is b r) out
    (others (is_keyed i) b (n + 1) m fs r k (omega arith) out goes))

-- arrays
pub empty_array_reads : PostReads (array_form empty_items)
unfolding expr_terminals expr_actions move
empty_array_reads fs r k next out goes = steps refl goes

pub empty_bracket_reads : PostReads (bracket_form empty_items)
unfolding expr_terminals expr_actions move
empty_bracket_reads fs r k next out goes = steps refl goes

pub array_reads : (i : ItemForm) (is : MoreItemsForm) → ItemReads i → MoreItemsRead is → PostReads (array_form (items_form i is))
unfolding expr_terminals expr_actions move
array_reads i is first others fs r k next out goes =
    let last : List Terminal = more_items_terminals is (sign_terminal sign.CloseParen ∷ r) in
    steps (items_begin brackets.Round fs (item_terminals i last) (item_opens i last))
    (first brackets.Round 0 fs last _ (items_rank is brackets.Round r) out
    (others (is_keyed i) brackets.Round 0 (items_count is + 1) fs r k (omega arith) out goes))

pub bracket_reads : (i : ItemForm) (is : MoreItemsForm) → ItemReads i → MoreItemsRead is → PostReads (bracket_form (items_form i is))
unfolding expr_terminals expr_actions move
bracket_reads i is first others fs r k next out goes =
    let last : List Terminal = more_items_terminals is (sign_terminal sign.CloseBracket ∷ r) in
    steps (items_begin brackets.Square fs (item_terminals i last) (item_opens i last))
    (first brackets.Square 0 fs last _ (items_rank is brackets.Square r) out
    (others (is_keyed i) brackets.Square 0 (items_count is + 1) fs r k (omega arith) out goes))

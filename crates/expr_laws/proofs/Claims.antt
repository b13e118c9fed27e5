-- What is claimed of each form: from a place where it begins, the machine comes to the place behind it, by the actions of the form.
use Rattle.std.proofs.Common.{◌≡◌, ℕ, ◌+◌, ◌<◌, ◌≤◌, Bool, true, false, List, ◌∷◌}
use Rattle.script_grammar.specs.Operators.{level_rank}
use Rattle.php_syntax.specs.declared.token.Sign.{Sign}
use Rattle.php_syntax.specs.declared.token.Sign.TheVariants as sign
use Rattle.script_grammar.specs.declared.operator.Level.{Level}
use Rattle.script_grammar.specs.Terminals.{Terminal, sign_terminal}
use Rattle.script_grammar.specs.Expressions.{ExprForm, KeysForm, no_key_form, open_key_form, key_form, ChoiceForm, NulForm, ChainForm, MoreForm, OperandForm, UnaryForm, PostForm, SubscriptsForm, MoreExprsForm, MoreItemsForm, ItemForm, value_item, keyed_item, expr_terminals, keys_terminals, choice_terminals, nul_terminals, chain_terminals, more_terminals, operand_terminals, unary_terminals, post_terminals, subscripts_terminals, more_exprs_terminals, more_items_terminals, item_terminals}
use Rattle.expr_machine.specs.declared.frame.Brackets.{Brackets}
use Rattle.expr_machine.specs.declared.frame.Brackets.TheVariants as brackets
use Rattle.expr_machine.specs.declared.frame.Focus.{Focus}
use Rattle.expr_machine.specs.declared.frame.Focus.TheVariants as focus
use Rattle.expr_machine.specs.declared.frame.Frame.{Frame}
use Rattle.expr_machine.specs.declared.frame.Frame.TheVariants as frame
use Rattle.expr_machine.specs.Actions.{Action, call_action, isset_action, array_action}
use Rattle.expr_machine.specs.Machine.{looser, wanted_rank, item_actions}
use Rattle.expr_machine.specs.Postfix.{keys_count, subscripts_count, exprs_count, items_count, is_flat, expr_actions, target_keys_actions, choice_actions, nul_actions, chain_actions, joined_actions, counted_actions, leaning_actions, operand_actions, unary_actions, post_actions, keys_of_actions, subscripts_actions, more_exprs_actions, more_items_actions, item_form_actions}
use Rattle.expr_machine.specs.Reading.{rank_next}
use Rattle.expr_laws.proofs.Goes.{Goes}

-- from one place to the other, whatever follows
abbrev pub Leads : Focus → List Frame → List Terminal → List Action → Focus → List Frame → List Terminal → List Action → Type 0
Leads f fs ts acts g gs us rest = (out : List Terminal) → Goes g gs us rest out → Goes f fs ts acts out

abbrev pub ExprReads : ExprForm → Type 0
ExprReads e = (fs : List Frame) (r : List Terminal) (k : List Action) → rank_next r ≡ 10 → wanted_rank fs ≡ 10 → Leads focus.Begin fs (expr_terminals e r) (expr_actions e k) focus.Whole fs r k

-- whether a key is left out, behind further keys
abbrev pub gap_behind : Bool → KeysForm → Bool
gap_behind gap no_key_form = gap
gap_behind gap (open_key_form ks) = gap_behind true ks
gap_behind gap (key_form e ks) = gap_behind gap ks

abbrev pub KeysRead : KeysForm → Type 0
KeysRead ks = (x : List ℕ) (n m : ℕ) (gap : Bool) (fs : List Frame) (r : List Terminal) (k : List Action) → m ≡ n + keys_count ks → Leads (focus.Place x n gap) fs (keys_terminals ks r) (target_keys_actions ks k) (focus.Place x m (gap_behind gap ks)) fs r k

abbrev pub ChoiceReads : ChoiceForm → Type 0
ChoiceReads c = (fs : List Frame) (r : List Terminal) (k : List Action) → rank_next r ≡ 10 → wanted_rank fs ≡ 10 → Leads focus.Begin fs (choice_terminals c r) (choice_actions c k) focus.Whole fs r k

abbrev pub NulReads : NulForm → Type 0
NulReads n = (fs : List Frame) (r : List Terminal) (k : List Action) → 8 < rank_next r → 8 ≤ wanted_rank fs → Leads focus.Begin fs (nul_terminals n r) (nul_actions n k) focus.Coalesced fs r k

abbrev pub ChainReads : {l : Level} → ChainForm l → Type 0
ChainReads {l} c = (fs : List Frame) (r : List Terminal) (k : List Action) → level_rank l < rank_next r → level_rank l < wanted_rank fs → Leads focus.Begin fs (chain_terminals c r) (chain_actions c k) (looser l) fs r k

-- the rest of a chain, behind an operand: one that leans left; a flat one; and a flat one behind some operands
abbrev pub Leans : {l : Level} → MoreForm l → Type 0
Leans {l} m = (fs : List Frame) (r : List Terminal) (k : List Action) → is_flat l ≡ false → level_rank l < rank_next r → level_rank l < wanted_rank fs → Leads (focus.Operand l) fs (more_terminals m r) (leaning_actions m k) (looser l) fs r k

abbrev pub Joins : {l : Level} → MoreForm l → Type 0
Joins {l} m = (fs : List Frame) (r : List Terminal) (k : List Action) → is_flat l ≡ true → level_rank l < rank_next r → level_rank l < wanted_rank fs → Leads (focus.Operand l) fs (more_terminals m r) (joined_actions m k) (looser l) fs r k

abbrev pub Counts : {l : Level} → MoreForm l → Type 0
Counts {l} m = (n : ℕ) (fs : List Frame) (r : List Terminal) (k : List Action) → is_flat l ≡ true → level_rank l < rank_next r → Leads (focus.Operand l) (frame.Join n ∷ fs) (more_terminals m r) (counted_actions m (n + 1) k) (looser l) fs r k

abbrev pub OperandReads : {l : Level} → OperandForm l → Type 0
OperandReads {l} a = (fs : List Frame) (r : List Terminal) (k : List Action) → level_rank l ≤ rank_next r → level_rank l ≤ wanted_rank fs → Leads focus.Begin fs (operand_terminals a r) (operand_actions a k) (focus.Operand l) fs r k

abbrev pub UnaryReads : UnaryForm → Type 0
UnaryReads u = (fs : List Frame) (r : List Terminal) (k : List Action) → 0 < rank_next r → Leads focus.Begin fs (unary_terminals u r) (unary_actions u k) focus.Unary fs r k

abbrev pub PostReads : PostForm → Type 0
PostReads p = (fs : List Frame) (r : List Terminal) (k : List Action) → 0 < rank_next r → Leads focus.Begin fs (post_terminals p r) (post_actions p k) focus.Unary fs r k

-- subscripts of a variable, and of another value
abbrev pub PlaceReads : SubscriptsForm → Type 0
PlaceReads ks = (x : List ℕ) (n m : ℕ) (fs : List Frame) (r : List Terminal) (k : List Action) → m ≡ n + subscripts_count ks → Leads (focus.Place x n false) fs (subscripts_terminals ks r) (keys_of_actions ks k) (focus.Place x m false) fs r k

abbrev pub SubscriptsRead : SubscriptsForm → Type 0
SubscriptsRead ks = (fs : List Frame) (r : List Terminal) (k : List Action) → 0 < rank_next r → Leads focus.Subscripted fs (subscripts_terminals ks r) (subscripts_actions ks k) focus.Unary fs r k

-- further arguments, and further operands of `isset`
abbrev pub ArgumentsRead : MoreExprsForm → Type 0
ArgumentsRead es = (f : List ℕ) (n m : ℕ) (fs : List Frame) (r : List Terminal) (k : List Action) → m ≡ n + exprs_count es + 1 → Leads focus.Whole (frame.Argument f n ∷ fs) (more_exprs_terminals es (sign_terminal sign.CloseParen ∷ r)) (more_exprs_actions es (call_action f m ∷ k)) focus.Subscripted fs r k

abbrev pub IssetReads : MoreExprsForm → Type 0
IssetReads es = (n m : ℕ) (fs : List Frame) (r : List Terminal) (k : List Action) → m ≡ n + exprs_count es + 1 → Leads focus.Whole (frame.Isset n ∷ fs) (more_exprs_terminals es (sign_terminal sign.CloseParen ∷ r)) (more_exprs_actions es (isset_action m ∷ k)) focus.Unary fs r k

-- items: the frame behind an item with a key or without, and the sign behind the last
abbrev pub item_frame : Bool → Brackets → ℕ → Frame
item_frame true b n = frame.KeyedItem b n
item_frame false b n = frame.Item b n

abbrev pub closer : Brackets → Sign
closer brackets.Round = sign.CloseParen
closer brackets.Square = sign.CloseBracket

abbrev pub is_keyed : ItemForm → Bool
is_keyed (value_item e) = false
is_keyed (keyed_item k e) = true

abbrev pub ItemReads : ItemForm → Type 0
ItemReads i = (b : Brackets) (n : ℕ) (fs : List Frame) (r : List Terminal) (k : List Action) → rank_next r ≡ 10 → Leads focus.Begin (frame.Item b n ∷ fs) (item_terminals i r) (item_form_actions i k) focus.Whole (item_frame (is_keyed i) b n ∷ fs) r (item_actions (is_keyed i) k)

abbrev pub MoreItemsRead : MoreItemsForm → Type 0
MoreItemsRead is = (keyed : Bool) (b : Brackets) (n m : ℕ) (fs : List Frame) (r : List Terminal) (k : List Action) → m ≡ n + items_count is + 1 → Leads focus.Whole (item_frame keyed b n ∷ fs) (more_items_terminals is (sign_terminal (closer b) ∷ r)) (item_actions keyed (more_items_actions is (array_action m ∷ k))) focus.Unary fs r k

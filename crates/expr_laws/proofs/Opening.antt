-- How an expression begins: with no sign that closes or parts something, and with no name alone.
use Rattle.std.proofs.Common.{◌≡◌, ℕ, Bool, true, false, if◌then◌else◌, List, [], ◌∷◌, Some, None, refl, ap}
use Rattle.php_syntax.specs.declared.token.Sign.{Sign}
use Rattle.php_syntax.specs.declared.token.Sign.TheVariants as sign
use Rattle.script_grammar.specs.declared.operator.Level.{Level}
use Rattle.script_grammar.specs.declared.operator.Prefix.{Prefix}
use Rattle.script_grammar.specs.Operators.{prefix_operator, step_sign}
use Rattle.script_grammar.specs.Terminals.{Terminal, name_terminal, sign_terminal}
use Rattle.script_grammar.specs.Expressions.{ExprForm, assign_form, update_form, choice_form, target_form, ChoiceForm, only_choice, short_choice, full_choice, NulForm, only_nul, coalesce_form, ChainForm, chain_form, OperandForm, tighter_form, tightest_form, UnaryForm, prefix_form, post_form, PostForm, base_form, after_form, before_form, int_form, text_form, template_form, constant_form, isset_form, empty_form, array_form, bracket_form, BaseForm, variable_base, call_base, escape_base, parens_base, subscripts_terminals, expr_terminals, choice_terminals, nul_terminals, chain_terminals, more_terminals, operand_terminals, unary_terminals, post_terminals, base_terminals, ItemForm, value_item, keyed_item, item_terminals}
use Rattle.expr_machine.specs.declared.frame.Brackets.{Brackets}
use Rattle.expr_machine.specs.declared.frame.Brackets.TheVariants as brackets
use Rattle.expr_machine.specs.declared.frame.Focus.TheVariants as focus
use Rattle.expr_machine.specs.declared.frame.Frame.{Frame}
use Rattle.expr_machine.specs.declared.frame.Frame.TheVariants as frame
use Rattle.expr_machine.specs.Actions.{array_action}
use Rattle.expr_machine.specs.Machine.{moves, behind, closed_next, call_move, key_move, array_move, question_move, behind_quotes}

-- whether a sign may begin an expression, as far as the machine looks ahead
abbrev pub opening : Sign → Bool
opening sign.CloseParen = false
opening sign.CloseBracket = false
opening sign.Colon = false
opening sign.Comma = false
opening _ = true

abbrev pub calls : List Terminal → Bool
calls (sign_terminal sign.OpenParen ∷ r) = true
calls _ = false

abbrev pub opens : List Terminal → Bool
opens [] = false
opens (sign_terminal s ∷ r) = opening s
opens (name_terminal f ∷ r) = calls r
opens (_ ∷ r) = true

prefix_opens : (s : Sign) (p : Prefix) → prefix_operator s ≡ Some p → opening s ≡ true
prefix_opens sign.CloseParen p is = absurd cc
prefix_opens sign.CloseBracket p is = absurd cc
prefix_opens sign.Colon p is = absurd cc
prefix_opens sign.Comma p is = absurd cc
prefix_opens _ p is = refl

step_opens : (s : Sign) (up : Bool) → step_sign s ≡ Some up → opening s ≡ true
step_opens sign.CloseParen up is = absurd cc
step_opens sign.CloseBracket up is = absurd cc
step_opens sign.Colon up is = absurd cc
step_opens sign.Comma up is = absurd cc
step_opens _ up is = refl

base_opens : (b : BaseForm) (r : List Terminal) → opens (base_terminals b r) ≡ true
unfolding expr_terminals
base_opens (variable_base x) r = refl
base_opens (call_base f es) r = refl
base_opens (escape_base f is e q) r = refl
base_opens (parens_base e) r = refl

post_opens : (p : PostForm) (r : List Terminal) → opens (post_terminals p r) ≡ true
unfolding expr_terminals
post_opens (base_form b ks) r = base_opens b (subscripts_terminals ks r)
post_opens (before_form s up is x) r = step_opens s up is
post_opens (after_form x s up is) r = refl
post_opens (int_form z) r = refl
post_opens (text_form t) r = refl
post_opens (template_form ps) r = refl
post_opens (constant_form k e is) r = refl
post_opens (isset_form e es) r = refl
post_opens (empty_form e) r = refl
post_opens (array_form is) r = refl
post_opens (bracket_form is) r = refl

unary_opens : (u : UnaryForm) (r : List Terminal) → opens (unary_terminals u r) ≡ true
unfolding expr_terminals
unary_opens (prefix_form s p is u) r = prefix_opens s p is
unary_opens (post_form p) r = post_opens p r

mutual
  unfolding expr_terminals

  chain_opens : {l : Level} (c : ChainForm l) (r : List Terminal) → opens (chain_terminals c r) ≡ true
  chain_opens (chain_form a m) r = operand_opens a (more_terminals m r)

  operand_opens : {l : Level} (a : OperandForm l) (r : List Terminal) → opens (operand_terminals a r) ≡ true
  operand_opens (tighter_form is c) r = chain_opens c r
  operand_opens (tightest_form is u) r = unary_opens u r

nul_opens : (n : NulForm) (r : List Terminal) → opens (nul_terminals n r) ≡ true
unfolding expr_terminals
nul_opens (only_nul c) r = chain_opens c r
nul_opens (coalesce_form c n) r = chain_opens c (sign_terminal sign.Coalesce ∷ nul_terminals n r)

choice_opens : (c : ChoiceForm) (r : List Terminal) → opens (choice_terminals c r) ≡ true
unfolding expr_terminals
choice_opens (only_choice a) r = nul_opens a r
choice_opens (short_choice a b) r = nul_opens a (sign_terminal sign.Question ∷ sign_terminal sign.Colon ∷ nul_terminals b r)
choice_opens (full_choice a e b) r = nul_opens a (sign_terminal sign.Question ∷ expr_terminals e (sign_terminal sign.Colon ∷ nul_terminals b r))

pub expr_opens : (e : ExprForm) (r : List Terminal) → opens (expr_terminals e r) ≡ true
unfolding expr_terminals
expr_opens (assign_form (target_form x ks) e) r = refl
expr_opens (update_form (target_form x ks) s u is e) r = refl
expr_opens (choice_form c) r = choice_opens c r

pub item_opens : (i : ItemForm) (r : List Terminal) → opens (item_terminals i r) ≡ true
unfolding expr_terminals
item_opens (value_item e) r = expr_opens e r
item_opens (keyed_item k e) r = expr_opens k (sign_terminal sign.DoubleArrow ∷ expr_terminals e r)

-- what the machine does where an expression begins next
pub key_begins : (x : List ℕ) (n : ℕ) (gap : Bool) (fs : List Frame) (ts : List Terminal) → opens ts ≡ true → key_move x n gap fs ts ≡ moves focus.Begin (frame.Key x n gap ∷ fs) ts []
key_begins x n gap fs [] h = absurd cc
key_begins x n gap fs (sign_terminal sign.CloseBracket ∷ r) h = absurd cc
key_begins x n gap fs (sign_terminal _ ∷ r) h = refl
key_begins x n gap fs (_ ∷ r) h = refl

pub middle_begins : (fs : List Frame) (ts : List Terminal) → opens ts ≡ true → question_move fs (sign_terminal sign.Question ∷ ts) ≡ moves focus.Begin (frame.Middle ∷ fs) ts []
middle_begins fs [] h = refl
middle_begins fs (sign_terminal sign.Colon ∷ r) h = absurd cc
middle_begins fs (sign_terminal _ ∷ r) h = refl
middle_begins fs (_ ∷ r) h = refl

pub argument_begins : (f : List ℕ) (fs : List Frame) (ts : List Terminal) → opens ts ≡ true → call_move f fs (sign_terminal sign.OpenParen ∷ ts) ≡ moves focus.Begin (frame.Argument f 0 ∷ fs) ts []
argument_begins f fs [] h = refl
argument_begins f fs (sign_terminal sign.CloseParen ∷ r) h = absurd cc
argument_begins f fs (sign_terminal _ ∷ r) h = refl
argument_begins f fs (_ ∷ r) h = refl

pub not_closed : (b : Brackets) (ts : List Terminal) → opens ts ≡ true → closed_next b ts ≡ false
not_closed b [] h = refl
not_closed brackets.Round (sign_terminal sign.CloseParen ∷ r) h = absurd cc
not_closed brackets.Round (sign_terminal _ ∷ r) h = refl
not_closed brackets.Square (sign_terminal sign.CloseBracket ∷ r) h = absurd cc
not_closed brackets.Square (sign_terminal _ ∷ r) h = refl
not_closed b (_ ∷ r) h = refl

pub items_begin : (b : Brackets) (fs : List Frame) (ts : List Terminal) → opens ts ≡ true → array_move b fs ts ≡ moves focus.Begin (frame.Item b 0 ∷ fs) ts []
items_begin b fs ts h = ap (λ closed. if closed then moves focus.Unary fs (behind ts) (array_action 0 ∷ []) else moves focus.Begin (frame.Item b 0 ∷ fs) ts []) (not_closed b ts h)

-- a name that brackets follow is no `ENT_QUOTES` alone
pub no_quotes : (ts : List Terminal) → opens ts ≡ true → behind_quotes (sign_terminal sign.Comma ∷ ts) ≡ None
no_quotes [] h = refl
no_quotes (name_terminal f ∷ []) h = refl
no_quotes (name_terminal f ∷ sign_terminal sign.CloseParen ∷ r) h = absurd cc
no_quotes (name_terminal f ∷ sign_terminal sign.Comma ∷ r) h = absurd cc
no_quotes (name_terminal f ∷ sign_terminal _ ∷ r) h = refl
no_quotes (name_terminal f ∷ _ ∷ r) h = refl
no_quotes (_ ∷ r) h = refl

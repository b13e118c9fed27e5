-- How expressions and statements begin, as far as the machine looks ahead.
use Rattle.std.proofs.Common.{◌≡◌, Bool, true, false, List, [], ◌∷◌, Some, refl}
use Rattle.php_syntax.specs.declared.token.Sign.{Sign}
use Rattle.php_syntax.specs.declared.token.Sign.TheVariants as sign
use Rattle.script_grammar.specs.declared.keyword.Keyword.{Keyword}
use Rattle.script_grammar.specs.declared.keyword.Keyword.TheVariants as word
use Rattle.script_grammar.specs.declared.operator.Level.{Level}
use Rattle.script_grammar.specs.declared.operator.Prefix.{Prefix}
use Rattle.php_syntax.specs.Trees.{PlainExpr}
use Rattle.script_grammar.specs.Operators.{prefix_operator, step_sign}
use Rattle.script_grammar.specs.Terminals.{Terminal, inline_terminal, word_terminal, sign_terminal}
use Rattle.script_grammar.specs.Expressions.{ExprForm, assign_form, update_form, choice_form, target_form, ChoiceForm, only_choice, short_choice, full_choice, NulForm, only_nul, coalesce_form, ChainForm, chain_form, OperandForm, tighter_form, tightest_form, UnaryForm, prefix_form, post_form, PostForm, base_form, after_form, before_form, int_form, text_form, template_form, constant_form, isset_form, empty_form, array_form, bracket_form, BaseForm, variable_base, call_base, escape_base, parens_base, constant_of, subscripts_terminals, expr_terminals, choice_terminals, nul_terminals, chain_terminals, more_terminals, operand_terminals, unary_terminals, post_terminals, base_terminals}

-- a sign, a word and a list of terminals that may begin an expression
abbrev pub value_sign : Sign → Bool
value_sign sign.Semicolon = false
value_sign sign.OpenBrace = false
value_sign sign.CloseBrace = false
value_sign sign.CloseParen = false
value_sign sign.Colon = false
value_sign _ = true

abbrev pub value_word : Keyword → Bool
value_word word.True = true
value_word word.False = true
value_word word.Null = true
value_word word.PhpEol = true
value_word word.PhpIntMax = true
value_word word.PhpIntMin = true
value_word word.Isset = true
value_word word.Empty = true
value_word word.Array = true
value_word _ = false

abbrev pub value_first : List Terminal → Bool
value_first [] = false
value_first (inline_terminal t ∷ r) = false
value_first (word_terminal k ∷ r) = value_word k
value_first (sign_terminal s ∷ r) = value_sign s
value_first (_ ∷ r) = true

prefix_first : (s : Sign) (p : Prefix) → prefix_operator s ≡ Some p → value_sign s ≡ true
prefix_first sign.Semicolon p is = absurd cc
prefix_first sign.OpenBrace p is = absurd cc
prefix_first sign.CloseBrace p is = absurd cc
prefix_first sign.CloseParen p is = absurd cc
prefix_first sign.Colon p is = absurd cc
prefix_first _ p is = refl

step_first : (s : Sign) (up : Bool) → step_sign s ≡ Some up → value_sign s ≡ true
step_first sign.Semicolon up is = absurd cc
step_first sign.OpenBrace up is = absurd cc
step_first sign.CloseBrace up is = absurd cc
step_first sign.CloseParen up is = absurd cc
step_first sign.Colon up is = absurd cc
step_first _ up is = refl

constant_first : (k : Keyword) (e : PlainExpr) → constant_of k ≡ Some e → value_word k ≡ true
constant_first word.True e is = refl
constant_first word.False e is = refl
constant_first word.Null e is = refl
constant_first word.PhpEol e is = refl
constant_first word.PhpIntMax e is = refl
constant_first word.PhpIntMin e is = refl
constant_first _ e is = absurd cc

base_first : (b : BaseForm) (r : List Terminal) → value_first (base_terminals b r) ≡ true
unfolding expr_terminals
base_first (variable_base x) r = refl
base_first (call_base f es) r = refl
base_first (escape_base f is e q) r = refl
base_first (parens_base e) r = refl

post_first : (p : PostForm) (r : List Terminal) → value_first (post_terminals p r) ≡ true
unfolding expr_terminals
post_first (base_form b ks) r = base_first b (subscripts_terminals ks r)
post_first (before_form s up is x) r = step_first s up is
post_first (after_form x s up is) r = refl
post_first (int_form z) r = refl
post_first (text_form t) r = refl
post_first (template_form ps) r = refl
post_first (constant_form k e is) r = constant_first k e is
post_first (isset_form e es) r = refl
post_first (empty_form e) r = refl
post_first (array_form is) r = refl
post_first (bracket_form is) r = refl

unary_first : (u : UnaryForm) (r : List Terminal) → value_first (unary_terminals u r) ≡ true
unfolding expr_terminals
unary_first (prefix_form s p is u) r = prefix_first s p is
unary_first (post_form p) r = post_first p r

mutual
  unfolding expr_terminals

  chain_first : {l : Level} (c : ChainForm l) (r : List Terminal) → value_first (chain_terminals c r) ≡ true
  chain_first (chain_form a m) r = operand_first a (more_terminals m r)

  operand_first : {l : Level} (a : OperandForm l) (r : List Terminal) → value_first (operand_terminals a r) ≡ true
  operand_first (tighter_form is c) r = chain_first c r
  operand_first (tightest_form is u) r = unary_first u r

nul_first : (n : NulForm) (r : List Terminal) → value_first (nul_terminals n r) ≡ true
unfolding expr_terminals
nul_first (only_nul c) r = chain_first c r
nul_first (coalesce_form c n) r = chain_first c (sign_terminal sign.Coalesce ∷ nul_terminals n r)

choice_first : (c : ChoiceForm) (r : List Terminal) → value_first (choice_terminals c r) ≡ true
unfolding expr_terminals
choice_first (only_choice a) r = nul_first a r
choice_first (short_choice a b) r = nul_first a (sign_terminal sign.Question ∷ sign_terminal sign.Colon ∷ nul_terminals b r)
choice_first (full_choice a e b) r = nul_first a (sign_terminal sign.Question ∷ expr_terminals e (sign_terminal sign.Colon ∷ nul_terminals b r))

pub expr_first : (e : ExprForm) (r : List Terminal) → value_first (expr_terminals e r) ≡ true
unfolding expr_terminals
expr_first (assign_form (target_form x ks) e) r = refl
expr_first (update_form (target_form x ks) s u is e) r = refl
expr_first (choice_form c) r = choice_first c r

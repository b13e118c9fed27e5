-- What the grammar makes of terminals that can be written: variables, templates, constants and chains are spellable.
use Rattle.std.proofs.Common.{◌≡◌, ℕ, ◌≤◌, pos, negsuc, true, false, ◌&&◌, List, [], ◌∷◌, refl, subst, arith, Option, Some, None}
use Rattle.std.specs.Prelude.{ℤ, nat_le}
use Rattle.std.proofs.lemmas.Bool.Decides.{nat_tests}
use Rattle.script_grammar.specs.declared.keyword.Keyword.{Keyword}
use Rattle.script_grammar.specs.declared.keyword.Keyword.TheVariants as word
use Rattle.php_syntax.specs.declared.tree.SuperName.{SuperName}
use Rattle.script_grammar.specs.declared.operator.Level.{Level}
use Rattle.script_grammar.specs.declared.operator.Level.TheVariants as level
use Rattle.script_grammar.specs.declared.operator.Operator.{Operator}
use Rattle.script_grammar.specs.declared.operator.Operator.TheVariants as operator
use Rattle.script_grammar.specs.declared.operator.Prefix.{Prefix}
use Rattle.script_grammar.specs.declared.operator.Prefix.TheVariants as prefix
use Rattle.lexical_grammar.specs.Characters.{largest}
use Rattle.php_syntax.specs.Tokens.{PlainKind, inline, variable, name, integer, text, template, sign, PlainToken, PlainKey, text_key, int_key, var_key, PlainPart, plain_part, read_part}
use Rattle.php_syntax.specs.Trees.{PlainExpr, null_expr, flag_expr, int_expr, text_expr, var_expr, super_expr, member_expr, join_expr}
use Rattle.script_grammar.specs.Terminals.{Terminal, inline_terminal, variable_terminal, word_terminal, name_terminal, int_terminal, text_terminal, template_terminal, sign_terminal, keyword_of, word_or_name, terminal_of, terminals}
use Rattle.script_grammar.specs.Rules.{request_named}
use Rattle.script_grammar.specs.Expressions.{constant_of, request_or, variable_tree, key_tree, read_tree, part_tree, part_trees, prefix_tree, operator_tree, Links, no_links, more_links, link_operands, lean_left, flat_join, chain_tree_of}
use Rattle.lexical_grammar.specs.Spelled.{IsName}
use Rattle.spellable.specs.Spellable.{is_name, is_own_name, is_inline, is_unsigned, is_part_key, is_read, are_parts, expr_spellable, exprs_spellable}
use Rattle.spellable.proofs.CutRead.{IsKey, AreKeys}
use Rattle.spellable.proofs.FineNames.{IsKind, IsPart, EachPart, ReadsSome}
use Rattle.spellable.proofs.FineSteps.{EachKind}
use Rattle.spellable.proofs.BackNames.{and_true, name_of}

-- a terminal of a token that the lexical grammar gives
abbrev pub IsTerminal : Terminal → Type 0
IsTerminal (inline_terminal t) = is_inline t ≡ true
IsTerminal (variable_terminal x) = IsName x
IsTerminal (word_terminal k) = Unit {0}
IsTerminal (name_terminal w) = IsName w × (keyword_of w ≡ None)
IsTerminal (int_terminal z) = is_unsigned z ≡ true
IsTerminal (text_terminal t) = Unit {0}
IsTerminal (template_terminal ps) = EachPart ps × ReadsSome ps
IsTerminal (sign_terminal s) = Unit {0}

abbrev pub EachTerminal : List Terminal → Type 0
EachTerminal [] = Unit {0}
EachTerminal (t ∷ ts) = IsTerminal t × EachTerminal ts

word_is : (w : List ℕ) (o : Option Keyword) → keyword_of w ≡ o → IsName w → IsTerminal (word_or_name o w)
word_is w (Some k) e h = tt
word_is w None e h = (h, e)

terminal_is : (k : PlainKind) → IsKind k → IsTerminal (terminal_of k)
terminal_is (inline t) h = h
terminal_is (variable x) h = h
terminal_is (name w) h = word_is w (keyword_of w) refl h
terminal_is (integer z) h = h
terminal_is (text t) h = tt
terminal_is (template ps) h = h
terminal_is (sign s) h = tt

pub each_terminal : (ts : List PlainToken) → EachKind ts → EachTerminal (terminals ts)
each_terminal [] h = tt
each_terminal (t ∷ ts) h = (terminal_is t.kind h.0, each_terminal ts h.1)

-- variables
own_of : (x : List ℕ) → is_name x ≡ true → request_named x ≡ None → is_own_name x ≡ true
own_of x n e = rw (n, e) refl

-- whatever holds of the variables of the request and, where it is none of them, of the variable
of_variable : (P : PlainExpr → Type 0) (x : List ℕ) → ((s : SuperName) → P (super_expr s)) → (is_own_name x ≡ true → P (var_expr x)) → IsName x → P (variable_tree x)
of_variable P x s k is = go (request_named x) refl
  where
    go : (o : Option SuperName) → request_named x ≡ o → P (request_or o x)
    go None e = k (own_of x (name_of x is) e)
    go (Some n) e = s n

pub variable_spells : (x : List ℕ) → IsName x → expr_spellable (variable_tree x) ≡ true
unfolding expr_spellable
variable_spells x is = of_variable (λ v. expr_spellable v ≡ true) x (λ s. refl) (λ h. h) is

variable_read : (x : List ℕ) → IsName x → is_read (variable_tree x) ≡ true
variable_read x is = of_variable (λ v. is_read v ≡ true) x (λ s. refl) (λ h. h) is

variable_key : (x : List ℕ) → IsName x → is_part_key (variable_tree x) ≡ true
variable_key x is = of_variable (λ v. is_part_key v ≡ true) x (λ s. refl) (λ h. h) is

-- templates
small : (n : ℕ) → n ≤ largest → nat_le n largest ≡ true
small n h = grind (arith, nat_tests)

key_spells : (k : PlainKey) → IsKey k → expr_spellable (key_tree k) ≡ true
unfolding expr_spellable
key_spells (text_key t) h = refl
key_spells (int_key (pos n)) h = small n h
key_spells (int_key (negsuc n)) h = absurd h
key_spells (var_key x) h = variable_spells x h

key_part : (k : PlainKey) → IsKey k → is_part_key (key_tree k) ≡ true
key_part (text_key t) h = refl
key_part (int_key (pos n)) h = small n h
key_part (int_key (negsuc n)) h = absurd h
key_part (var_key x) h = variable_key x h

read_spells : (e : PlainExpr) (ks : List PlainKey) → expr_spellable e ≡ true → AreKeys ks → expr_spellable (read_tree e ks) ≡ true
unfolding expr_spellable
read_spells e [] h are = h
read_spells e (k ∷ ks) h are = read_spells (member_expr e (key_tree k)) ks (and_true (expr_spellable e) (expr_spellable (key_tree k)) h (key_spells k are.0)) are.1

read_reads : (e : PlainExpr) (ks : List PlainKey) → is_read e ≡ true → AreKeys ks → is_read (read_tree e ks) ≡ true
read_reads e [] h are = h
read_reads e (k ∷ ks) h are = read_reads (member_expr e (key_tree k)) ks (and_true (is_read e) (is_part_key (key_tree k)) h (key_part k are.0)) are.1

part_spells : (p : PlainPart) → IsPart p → expr_spellable (part_tree p) ≡ true
unfolding expr_spellable
part_spells (plain_part t) h = refl
part_spells (read_part x ks) h = read_spells (variable_tree x) ks (variable_spells x h.0) h.1

parts_spell : (ps : List PlainPart) → EachPart ps → exprs_spellable (part_trees ps) ≡ true
unfolding expr_spellable
parts_spell [] h = refl
parts_spell (p ∷ ps) h = and_true (expr_spellable (part_tree p)) (exprs_spellable (part_trees ps)) (part_spells p h.0) (parts_spell ps h.1)

are_some_parts : (ps : List PlainPart) → EachPart ps → ReadsSome ps → are_parts (part_trees ps) ≡ true
are_some_parts [] h k = absurd k
are_some_parts (plain_part t ∷ []) h k = absurd k
are_some_parts (read_part x ks ∷ []) h k = read_reads (variable_tree x) ks (variable_read x h.0.0) h.0.1
are_some_parts (p ∷ q ∷ ps) h k = refl

pub template_spells : (ps : List PlainPart) → EachPart ps → ReadsSome ps → expr_spellable (join_expr (part_trees ps)) ≡ true
unfolding expr_spellable
template_spells ps h k = and_true (are_parts (part_trees ps)) (exprs_spellable (part_trees ps)) (are_some_parts ps h k) (parts_spell ps h)

-- constants
some_is : (a b : PlainExpr) → Some a ≡ Some b → a ≡ b
some_is a b h = cc

constant_by : (a e : PlainExpr) → expr_spellable a ≡ true → Some a ≡ Some e → expr_spellable e ≡ true
constant_by a e h is = let P : PlainExpr → Type 0 = λ x. expr_spellable x ≡ true in subst P (some_is a e is) h

pub constant_spells : (k : Keyword) (e : PlainExpr) → constant_of k ≡ Some e → expr_spellable e ≡ true
unfolding expr_spellable
constant_spells word.True e h = constant_by (flag_expr true) e refl h
constant_spells word.False e h = constant_by (flag_expr false) e refl h
constant_spells word.Null e h = constant_by null_expr e refl h
constant_spells word.PhpEol e h = constant_by (text_expr (10 ∷ [])) e refl h
constant_spells word.PhpIntMax e h = constant_by (int_expr (pos 9223372036854775807)) e refl h
constant_spells word.PhpIntMin e h = constant_by (int_expr (negsuc 9223372036854775807)) e refl h
constant_spells _ e h = absurd (cc)

pub unsigned_spells : (z : ℤ) → is_unsigned z ≡ true → expr_spellable (int_expr z) ≡ true
unfolding expr_spellable
unsigned_spells (pos n) h = h
unsigned_spells (negsuc n) h = absurd (cc)

-- operators
pub prefix_spells : (p : Prefix) (e : PlainExpr) → expr_spellable e ≡ true → expr_spellable (prefix_tree p e) ≡ true
unfolding expr_spellable
prefix_spells prefix.Not e h = h
prefix_spells prefix.Neg e h = h
prefix_spells prefix.CastInt e h = rw h refl
prefix_spells prefix.CastString e h = rw h refl

operator_spells : (o : Operator) (a b : PlainExpr) → expr_spellable a ≡ true → expr_spellable b ≡ true → expr_spellable (operator_tree o a b) ≡ true
unfolding expr_spellable
operator_spells operator.Or a b h k = and_true (expr_spellable a) (expr_spellable b) h k
operator_spells operator.And a b h k = and_true (expr_spellable a) (expr_spellable b) h k
operator_spells (operator.Compare s) a b h k = and_true (expr_spellable a) (expr_spellable b) h k
operator_spells operator.Join a b h k = rw (h, k) refl
operator_spells (operator.Arith s) a b h k = and_true (expr_spellable a) (expr_spellable b) h k

abbrev pub EachLink : Links → Type 0
EachLink no_links = Unit {0}
EachLink (more_links o b ls) = (expr_spellable b ≡ true) × EachLink ls

left_spells : (a : PlainExpr) (ls : Links) → expr_spellable a ≡ true → EachLink ls → expr_spellable (lean_left a ls) ≡ true
left_spells a no_links h each = h
left_spells a (more_links o b ls) h each = left_spells (operator_tree o a b) ls (operator_spells o a b h each.0) each.1

operands_spell : (ls : Links) → EachLink ls → exprs_spellable (link_operands ls) ≡ true
unfolding expr_spellable
operands_spell no_links each = refl
operands_spell (more_links o b ls) each = and_true (expr_spellable b) (exprs_spellable (link_operands ls)) each.0 (operands_spell ls each.1)

join_spells : (a : PlainExpr) (ls : Links) → expr_spellable a ≡ true → EachLink ls → expr_spellable (flat_join a ls) ≡ true
unfolding expr_spellable
join_spells a no_links h each = h
join_spells a (more_links o b ls) h each = and_true (expr_spellable a) (expr_spellable b && exprs_spellable (link_operands ls)) h (and_true (expr_spellable b) (exprs_spellable (link_operands ls)) each.0 (operands_spell ls each.1))

pub chain_spells : (l : Level) (a : PlainExpr) (ls : Links) → expr_spellable a ≡ true → EachLink ls → expr_spellable (chain_tree_of l a ls) ≡ true
chain_spells level.Or a ls h each = left_spells a ls h each
chain_spells level.And a ls h each = left_spells a ls h each
chain_spells level.Equality a ls h each = left_spells a ls h each
chain_spells level.Order a ls h each = left_spells a ls h each
chain_spells level.Join a ls h each = join_spells a ls h each
chain_spells level.Sum a ls h each = left_spells a ls h each
chain_spells level.Product a ls h each = left_spells a ls h each

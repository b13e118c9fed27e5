-- Actions on the last values, the templates, and the ends of chains, each over values of trees.
use Rattle.std.proofs.Common.{◌≡◌, ◌∙◌, Bool, true, false, List, [], ◌∷◌, length, refl, ap, arith}
use Rattle.std.specs.Prelude.{◌&&◌, if◌then◌else◌}
use Rattle.script_grammar.specs.declared.operator.Level.{Level}
use Rattle.script_grammar.specs.declared.operator.Level.TheVariants as level
use Rattle.script_grammar.specs.declared.operator.Operator.{Operator}
use Rattle.script_grammar.specs.declared.operator.Operator.TheVariants as operator
use Rattle.script_grammar.specs.declared.operator.Prefix.{Prefix}
use Rattle.script_grammar.specs.declared.operator.Prefix.TheVariants as prefix
use Rattle.php_syntax.specs.Tokens.{PlainKey, text_key, int_key, var_key, PlainPart, plain_part, read_part}
use Rattle.php_syntax.specs.Trees.{PlainExpr, text_expr, int_expr, member_expr, coalesce_expr, choice_expr, join_expr, no_expr, some_expr}
use Rattle.script_grammar.specs.Expressions.{prefix_tree, operator_tree, variable_tree, key_tree, read_tree, part_tree, part_trees, Links, no_links, more_links, link_operands, lean_left, flat_join, chain_tree_of}
use Rattle.script_grammar.specs.Rules.{expr_fits, exprs_fit}
use Rattle.php_syntax.specs.Height.{height}
use Rattle.expr_machine.specs.Actions.{Action, prefix_action, binary_action, coalesce_action, short_choice_action, full_choice_action, member_action, join_action, key_action, keys_actions, part_actions, parts_actions, template_actions}
use Rattle.expr_machine.specs.Postfix.{is_flat}
use Rattle.expr_machine.specs.Values.{PlainValue, value_of_tree, apply, execute}
use Rattle.expr_laws.proofs.Carry.{Left, Goes, both, always, ends, tested}
use Rattle.expr_laws.proofs.Nodes.{prefix_is, binary_is, coalesce_is, short_choice_is, full_choice_is, member_is}
use Rattle.expr_laws.proofs.TreeRows.{pushed, exprs_values}
use Rattle.expr_laws.proofs.Steps.{leaf_done, variable_made, join_done, join_row}

-- tests in a row, and in another order

pub and_true : (b : Bool) → (b && true) ≡ b
and_true true = refl
and_true false = refl

pub and_assoc : (a b c : Bool) → ((a && b) && c) ≡ (a && (b && c))
and_assoc true b c = refl
and_assoc false b c = refl

pub and_swap : (a b : Bool) → (a && b) ≡ (b && a)
and_swap true true = refl
and_swap true false = refl
and_swap false true = refl
and_swap false false = refl

-- actions on the last values

pub prefix_done : (p : Prefix) (a : PlainExpr) (acts : List Action) (vs : List PlainValue)
    → execute (prefix_action p ∷ acts) (value_of_tree a ∷ vs) ≡ execute acts (value_of_tree (prefix_tree p a) ∷ vs)
unfolding execute apply
prefix_done p a acts vs = ap (λ v. execute acts (v ∷ vs)) (prefix_is p a)

pub binary_done : (o : Operator) (a b : PlainExpr) (acts : List Action) (vs : List PlainValue)
    → execute (binary_action o ∷ acts) (value_of_tree b ∷ value_of_tree a ∷ vs) ≡ execute acts (value_of_tree (operator_tree o a b) ∷ vs)
unfolding execute apply
binary_done o a b acts vs = ap (λ v. execute acts (v ∷ vs)) (binary_is o a b)

pub coalesce_done : (a b : PlainExpr) (acts : List Action) (vs : List PlainValue)
    → execute (coalesce_action ∷ acts) (value_of_tree b ∷ value_of_tree a ∷ vs) ≡ execute acts (value_of_tree (coalesce_expr a b) ∷ vs)
unfolding execute apply
coalesce_done a b acts vs = ap (λ v. execute acts (v ∷ vs)) (coalesce_is a b)

pub short_choice_done : (a b : PlainExpr) (acts : List Action) (vs : List PlainValue)
    → execute (short_choice_action ∷ acts) (value_of_tree b ∷ value_of_tree a ∷ vs) ≡ execute acts (value_of_tree (choice_expr a no_expr b) ∷ vs)
unfolding execute apply
short_choice_done a b acts vs = ap (λ v. execute acts (v ∷ vs)) (short_choice_is a b)

pub full_choice_done : (a m b : PlainExpr) (acts : List Action) (vs : List PlainValue)
    → execute (full_choice_action ∷ acts) (value_of_tree b ∷ value_of_tree m ∷ value_of_tree a ∷ vs) ≡ execute acts (value_of_tree (choice_expr a (some_expr m) b) ∷ vs)
unfolding execute apply
full_choice_done a m b acts vs = ap (λ v. execute acts (v ∷ vs)) (full_choice_is a m b)

pub member_done : (a b : PlainExpr) (acts : List Action) (vs : List PlainValue)
    → execute (member_action ∷ acts) (value_of_tree b ∷ value_of_tree a ∷ vs) ≡ execute acts (value_of_tree (member_expr a b) ∷ vs)
unfolding execute apply
member_done a b acts vs = ap (λ v. execute acts (v ∷ vs)) (member_is a b)

-- the rules at an operator

pub prefix_fits : (p : Prefix) (a : PlainExpr) → expr_fits (prefix_tree p a) ≡ expr_fits a
unfolding expr_fits
prefix_fits prefix.Not a = refl
prefix_fits prefix.Neg a = refl
prefix_fits prefix.CastInt a = and_true (expr_fits a)
prefix_fits prefix.CastString a = and_true (expr_fits a)

pub operator_fits : (o : Operator) (a b : PlainExpr) → expr_fits (operator_tree o a b) ≡ (expr_fits a && expr_fits b)
unfolding expr_fits
operator_fits operator.Or a b = refl
operator_fits operator.And a b = refl
operator_fits (operator.Compare s) a b = refl
operator_fits operator.Join a b = ap (λ t. expr_fits a && t) (and_true (expr_fits b))
operator_fits (operator.Arith s) a b = refl

-- the parts of a template

key_made : (k : PlainKey) (acts : List Action) (vs : List PlainValue)
    → Goes (execute (key_action k ∷ acts) vs) (expr_fits (key_tree k)) (execute acts (value_of_tree (key_tree k) ∷ vs))
unfolding expr_fits height
key_made (text_key t) acts vs = always (leaf_done (text_expr t) acts vs refl)
key_made (int_key z) acts vs = always (leaf_done (int_expr z) acts vs refl)
key_made (var_key x) acts vs = variable_made x acts vs

keys_made : (ks : List PlainKey) (x : Left) (e : PlainExpr) (acts : List Action) (vs : List PlainValue)
    → Goes x (expr_fits e) (execute (keys_actions ks acts) (value_of_tree e ∷ vs))
    → Goes x (expr_fits (read_tree e ks)) (execute acts (value_of_tree (read_tree e ks) ∷ vs))
unfolding expr_fits
keys_made [] x e acts vs m = m
keys_made (k ∷ ks) x e acts vs m =
    keys_made ks x (member_expr e (key_tree k)) acts vs (both m (ends (key_made k (member_action ∷ keys_actions ks acts) (value_of_tree e ∷ vs)) (member_done e (key_tree k) (keys_actions ks acts) vs)))

part_made : (p : PlainPart) (acts : List Action) (vs : List PlainValue)
    → Goes (execute (part_actions p acts) vs) (expr_fits (part_tree p)) (execute acts (value_of_tree (part_tree p) ∷ vs))
unfolding expr_fits height
part_made (plain_part t) acts vs = always (leaf_done (text_expr t) acts vs refl)
part_made (read_part x ks) acts vs = keys_made ks (execute (part_actions (read_part x ks) acts) vs) (variable_tree x) acts vs (variable_made x (keys_actions ks acts) vs)

parts_made : (ps : List PlainPart) (acts : List Action) (vs : List PlainValue)
    → Goes (execute (parts_actions ps acts) vs) (exprs_fit (part_trees ps)) (execute acts (pushed (exprs_values (part_trees ps)) vs))
unfolding expr_fits
parts_made [] acts vs = always refl
parts_made (p ∷ ps) acts vs = both (part_made p (parts_actions ps acts) vs) (parts_made ps acts (value_of_tree (part_tree p) ∷ vs))

parts_count : (ps : List PlainPart) → length ps ≡ length (exprs_values (part_trees ps))
parts_count [] = refl
parts_count (p ∷ ps) = omega (arith, parts_count ps)

pub template_made : (ps : List PlainPart) (acts : List Action) (vs : List PlainValue)
    → Goes (execute (template_actions ps acts) vs) (expr_fits (join_expr (part_trees ps))) (execute acts (value_of_tree (join_expr (part_trees ps)) ∷ vs))
unfolding expr_fits
template_made ps acts vs =
    ends (parts_made ps (join_action (length ps) ∷ acts) vs)
    (join_done (exprs_values (part_trees ps)) (length ps) acts vs (parts_count ps) ∙ ap (λ v. execute acts (v ∷ vs)) (join_row (part_trees ps)))

-- a chain of any level, whose operands behind the first are read as in a flat chain and as in one that leans left

flat_fits : (a : PlainExpr) (ls : Links) → (expr_fits a && exprs_fit (link_operands ls)) ≡ expr_fits (flat_join a ls)
unfolding expr_fits
flat_fits a no_links = and_true (expr_fits a)
flat_fits a (more_links o b ls) = refl

pub chain_made_of : (l : Level) (a : PlainExpr) (ls : Links) (begun : List Action → Left) (flat lean acts : List Action) (vs : List PlainValue)
    → ((r : List Action) → Goes (begun r) (expr_fits a) (execute r (value_of_tree a ∷ vs)))
    → Goes (execute flat (value_of_tree a ∷ vs)) (exprs_fit (link_operands ls)) (execute acts (value_of_tree (flat_join a ls) ∷ vs))
    → ((x : Left) → Goes x (expr_fits a) (execute lean (value_of_tree a ∷ vs)) → Goes x (expr_fits (lean_left a ls)) (execute acts (value_of_tree (lean_left a ls) ∷ vs)))
    → Goes (begun (if is_flat l then flat else lean)) (expr_fits (chain_tree_of l a ls)) (execute acts (value_of_tree (chain_tree_of l a ls) ∷ vs))
chain_made_of level.Join a ls begun flat lean acts vs first whole more = tested (flat_fits a ls) (both (first flat) whole)
chain_made_of level.Product a ls begun flat lean acts vs first whole more = more (begun lean) (first lean)
chain_made_of level.Sum a ls begun flat lean acts vs first whole more = more (begun lean) (first lean)
chain_made_of level.Order a ls begun flat lean acts vs first whole more = more (begun lean) (first lean)
chain_made_of level.Equality a ls begun flat lean acts vs first whole more = more (begun lean) (first lean)
chain_made_of level.And a ls begun flat lean acts vs first whole more = more (begun lean) (first lean)
chain_made_of level.Or a ls begun flat lean acts vs first whole more = more (begun lean) (first lean)

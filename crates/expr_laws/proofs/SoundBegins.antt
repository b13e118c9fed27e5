-- The moves where an expression or an operand begins carry what stands behind them.
use Rattle.std.proofs.Common.{◌≡◌, ◌∙◌, sym, ℕ, ℤ, ◌+◌, Bool, true, false, List, [], ◌∷◌, ◌++◌, length, refl, ap, subst, Some, arith}
use Rattle.php_syntax.specs.declared.token.Sign.{Sign}
use Rattle.script_grammar.specs.declared.keyword.Keyword.{Keyword}
use Rattle.script_grammar.specs.declared.operator.Prefix.{Prefix}
use Rattle.php_syntax.specs.Tokens.{PlainPart, plain_part, read_part, PlainKey}
use Rattle.php_syntax.specs.Trees.{PlainExpr, int_expr, text_expr}
use Rattle.script_grammar.specs.Operators.{prefix_operator, step_sign}
use Rattle.script_grammar.specs.Terminals.{Terminal, variable_terminal, word_terminal, int_terminal, text_terminal, template_terminal, sign_terminal}
use Rattle.script_grammar.specs.Expressions.{constant_of, ExprForm, assign_form, update_form, expr_terminals, target_form, target_terminals, prefix_form, post_form, unary_terminals, PostForm, base_form, after_form, before_form, int_form, text_form, template_form, constant_form, post_terminals, variable_base, base_terminals}
use Rattle.expr_machine.specs.declared.frame.Focus.TheVariants as focus
use Rattle.expr_machine.specs.declared.frame.Frame.{Frame}
use Rattle.expr_machine.specs.declared.frame.Frame.TheVariants as frame
use Rattle.expr_machine.specs.Actions.{Action, leaf_action, join_action, read_action, assign_action, update_action, step_action, variable_action, member_action, key_action, keys_actions, part_actions, parts_actions, template_actions}
use Rattle.expr_machine.specs.Postfix.{expr_actions, target_keys_actions, keys_count, keys_of_actions, subscripts_count, unary_actions, post_actions}
use Rattle.expr_laws.proofs.Shapes.{Rest, Ahead, joined, after, respelled}
use Rattle.expr_laws.proofs.Stands.{Want, wants_expr, want, PlaceTail, read_tail, step_tail, place_tail_terminals, place_tail_actions, TargetTail, assign_tail, update_tail, target_tail_terminals, target_tail_actions, FromUnary, FromPlace, is_operand, is_target, FromBegin, Filled, Stands}
use Rattle.expr_laws.proofs.Climbing.{unary_begun}

pub none_plus : (n : ℕ) → 0 + n ≡ n
none_plus n = omega arith

-- an operand that stands at the front, with what leads on from a unary one
pub post_begun : (w : Want) (k : Rest) (p : PostForm) {ts : List Terminal} {acts : List Action} → Ahead (post_terminals p) (post_actions p) (FromUnary w k) ts acts → FromBegin w k ts acts
unfolding unary_terminals unary_actions
post_begun w k p h = unary_begun w k (post_form p, h)

expr_begun : (w : Want) (k : Rest) (e : ExprForm) {ts : List Terminal} {acts : List Action} → w ≡ wants_expr → Ahead (expr_terminals e) (expr_actions e) k ts acts → FromBegin w k ts acts
expr_begun w k e {ts = ts} {acts = acts} is h = subst (λ v. FromBegin v k ts acts) (sym is) (e, h)

-- a variable
variable_target : (w : Want) (k : Rest) (x : List ℕ) (t : TargetTail) {us : List Terminal} {later : List Action} → w ≡ wants_expr → Ahead (target_tail_terminals t) (target_tail_actions x 0 t) k us later → FromBegin w k (variable_terminal x ∷ us) later
unfolding expr_terminals target_terminals expr_actions
variable_target w k x (assign_tail ks e) is p =
    expr_begun w k (assign_form (target_form x ks) e) is (respelled (λ r. target_keys_actions ks (expr_actions e (assign_action x (keys_count ks) ∷ r))) (λ r. ap (λ m. target_keys_actions ks (expr_actions e (assign_action x m ∷ r))) (none_plus (keys_count ks))) (after (λ r. variable_terminal x ∷ r) (λ r. r) p))
variable_target w k x (update_tail ks s u found e) is p =
    expr_begun w k (update_form (target_form x ks) s u found e) is (respelled (λ r. target_keys_actions ks (expr_actions e (update_action u x (keys_count ks) ∷ r))) (λ r. ap (λ m. target_keys_actions ks (expr_actions e (update_action u x m ∷ r))) (none_plus (keys_count ks))) (after (λ r. variable_terminal x ∷ r) (λ r. r) p))

variable_operand : (w : Want) (k : Rest) (x : List ℕ) (t : PlaceTail 0 false) {us : List Terminal} {later : List Action} → Ahead (place_tail_terminals t) (place_tail_actions x t) (FromUnary w k) us later → FromBegin w k (variable_terminal x ∷ us) later
unfolding post_terminals base_terminals post_actions
variable_operand w k x (read_tail is ks) p =
    post_begun w k (base_form (variable_base x) ks) (respelled (λ r. keys_of_actions ks (read_action x (subscripts_count ks) ∷ r)) (λ r. ap (λ m. keys_of_actions ks (read_action x m ∷ r)) (none_plus (subscripts_count ks))) (after (λ r. variable_terminal x ∷ r) (λ r. r) p))
variable_operand w k x (step_tail none s up is) p = post_begun w k (after_form x s up is) (after (λ r. variable_terminal x ∷ r) (λ r. r) p)

pub variable_begun : (w : Want) (k : Rest) (x : List ℕ) (us : List Terminal) (later : List Action) → FromPlace x 0 false w k us later → FromBegin w k (variable_terminal x ∷ us) later
variable_begun w k x us later (is_operand t) = variable_operand w k x t.0 t.1
variable_begun w k x us later (is_target is t) = variable_target w k x t.0 is t.1

-- an operand of one or two terminals
key_parts : (ks : List PlainKey) (r later : List Action) → keys_actions ks r ++ later ≡ keys_actions ks (r ++ later)
key_parts [] r later = refl
key_parts (k ∷ ks) r later = ap (λ v. key_action k ∷ member_action ∷ v) (key_parts ks r later)

one_part : (p : PlainPart) (r later : List Action) → part_actions p r ++ later ≡ part_actions p (r ++ later)
one_part (plain_part t) r later = refl
one_part (read_part x ks) r later = ap (λ v. variable_action x ∷ v) (key_parts ks r later)

all_parts : (ps : List PlainPart) (r later : List Action) → parts_actions ps r ++ later ≡ parts_actions ps (r ++ later)
all_parts [] r later = refl
all_parts (p ∷ ps) r later = one_part p (parts_actions ps r) later ∙ ap (part_actions p) (all_parts ps r later)

pub template_begun : (w : Want) (k : Rest) (ps : List PlainPart) (us : List Terminal) (later : List Action) → FromUnary w k us later → FromBegin w k (template_terminal ps ∷ us) (template_actions ps [] ++ later)
unfolding post_terminals post_actions
template_begun w k ps us later h = post_begun w k (template_form ps) (record { left = us; later = later; reads = refl; does = all_parts ps (join_action (length ps) ∷ []) later; goes_on = h })

pub constant_begun : (w : Want) (k : Rest) (c : Keyword) (e : PlainExpr) → constant_of c ≡ Some e → (us : List Terminal) (later : List Action) → FromUnary w k us later → FromBegin w k (word_terminal c ∷ us) (leaf_action e ∷ later)
unfolding post_terminals post_actions
constant_begun w k c e is us later h = post_begun w k (constant_form c e is) (record { left = us; later = later; reads = refl; does = refl; goes_on = h })

pub int_begun : (w : Want) (k : Rest) (z : ℤ) (us : List Terminal) (later : List Action) → FromUnary w k us later → FromBegin w k (int_terminal z ∷ us) (leaf_action (int_expr z) ∷ later)
unfolding post_terminals post_actions
int_begun w k z us later h = post_begun w k (int_form z) (record { left = us; later = later; reads = refl; does = refl; goes_on = h })

pub text_begun : (w : Want) (k : Rest) (t : List ℕ) (us : List Terminal) (later : List Action) → FromUnary w k us later → FromBegin w k (text_terminal t ∷ us) (leaf_action (text_expr t) ∷ later)
unfolding post_terminals post_actions
text_begun w k t us later h = post_begun w k (text_form t) (record { left = us; later = later; reads = refl; does = refl; goes_on = h })

pub step_begun : (w : Want) (k : Rest) (s : Sign) (up : Bool) → step_sign s ≡ Some up → (x : List ℕ) (us : List Terminal) (later : List Action) → FromUnary w k us later → FromBegin w k (sign_terminal s ∷ variable_terminal x ∷ us) (step_action x up true ∷ later)
unfolding post_terminals post_actions
step_begun w k s up is x us later h = post_begun w k (before_form s up is x) (record { left = us; later = later; reads = refl; does = refl; goes_on = h })

-- an operator before an operand
pub prefix_begun : (end : List Terminal) (fs : List Frame) (s : Sign) (p : Prefix) → prefix_operator s ≡ Some p → (us : List Terminal) (later : List Action) → Stands end focus.Begin (frame.Prefix p ∷ fs) us later → Stands end focus.Begin fs (sign_terminal s ∷ us) later
unfolding unary_terminals unary_actions
prefix_begun end fs s p is us later h = unary_begun (want fs) (Filled end fs) (prefix_form s p is h.0, after (λ r. sign_terminal s ∷ r) (λ r. r) (joined h.1 (h.1).goes_on))

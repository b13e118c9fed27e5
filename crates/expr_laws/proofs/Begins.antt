-- What the machine does where a sign or a word stands that begins something or goes on with it.
use Rattle.std.proofs.Common.{◌≡◌, ℕ, Bool, true, false, if◌then◌else◌, List, [], ◌∷◌, ◌++◌, length, Some, None, refl, ap, ◌∙◌}
use Rattle.std.proofs.lemmas.Bool.{eq-eqb}
use Rattle.php_syntax.specs.declared.token.Sign.{Sign}
use Rattle.php_syntax.specs.declared.token.Sign.TheVariants as sign
use Rattle.script_grammar.specs.declared.keyword.Keyword.{Keyword}
use Rattle.php_syntax.specs.declared.tree.UpdateSign.{UpdateSign}
use Rattle.script_grammar.specs.declared.operator.Prefix.{Prefix}
use Rattle.php_syntax.specs.Tokens.{PlainKey, PlainPart, plain_part, read_part}
use Rattle.php_syntax.specs.Trees.{PlainExpr}
use Rattle.script_grammar.specs.Operators.{prefix_operator, update_sign, step_sign}
use Rattle.script_grammar.specs.Terminals.{Terminal, variable_terminal, word_terminal, sign_terminal}
use Rattle.script_grammar.specs.Expressions.{constant_of}
use Rattle.expr_machine.specs.declared.frame.Focus.TheVariants as focus
use Rattle.expr_machine.specs.declared.frame.Frame.{Frame}
use Rattle.expr_machine.specs.declared.frame.Frame.TheVariants as frame
use Rattle.expr_machine.specs.Actions.{Action, leaf_action, variable_action, member_action, join_action, step_action, key_action, keys_actions, part_actions, parts_actions, template_actions}
use Rattle.expr_machine.specs.Machine.{moves, move, wanted_rank, word_move, sign_move, placed_move, updated_move, operand_move}

-- behind a variable and its keys
pub assign_begins : (x : List ℕ) (n : ℕ) (gap : Bool) (fs : List Frame) (r : List Terminal) → wanted_rank fs ≡ 10 → move (focus.Place x n gap) fs (sign_terminal sign.Assign ∷ r) ≡ moves focus.Begin (frame.Assign x n ∷ fs) r []
unfolding move
assign_begins x n gap fs r h = ap (λ b. if b then moves focus.Begin (frame.Assign x n ∷ fs) r [] else operand_move x n gap fs (sign_terminal sign.Assign ∷ r)) (eq-eqb (wanted_rank fs) 10 h)

placed_updates : (u : UpdateSign) (x : List ℕ) (n : ℕ) (gap : Bool) (fs : List Frame) (s : Sign) (r : List Terminal) → update_sign s ≡ Some u → wanted_rank fs ≡ 10 → placed_move x n gap fs s r ≡ moves focus.Begin (frame.Update u x n ∷ fs) r []
placed_updates u x n gap fs sign.OpenBracket r is h = absurd cc
placed_updates u x n gap fs sign.Assign r is h = absurd cc
placed_updates u x n gap fs s r is h =
    ap (λ found. updated_move found (step_sign s) x n gap fs s r) is
    ∙ ap (λ b. if b then moves focus.Begin (frame.Update u x n ∷ fs) r [] else operand_move x n gap fs (sign_terminal s ∷ r)) (eq-eqb (wanted_rank fs) 10 h)

pub update_begins : (u : UpdateSign) (x : List ℕ) (n : ℕ) (gap : Bool) (fs : List Frame) (s : Sign) (r : List Terminal) → update_sign s ≡ Some u → wanted_rank fs ≡ 10 → move (focus.Place x n gap) fs (sign_terminal s ∷ r) ≡ moves focus.Begin (frame.Update u x n ∷ fs) r []
unfolding move
update_begins u x n gap fs s r is h = placed_updates u x n gap fs s r is h

placed_steps : (x : List ℕ) (up : Bool) (fs : List Frame) (s : Sign) (r : List Terminal) → step_sign s ≡ Some up → placed_move x 0 false fs s r ≡ moves focus.Unary fs r (step_action x up false ∷ [])
placed_steps x up fs sign.Increment r is = ap (λ found. updated_move None found x 0 false fs sign.Increment r) is
placed_steps x up fs sign.Decrement r is = ap (λ found. updated_move None found x 0 false fs sign.Decrement r) is
placed_steps x up fs _ r is = absurd cc

pub after_steps : (x : List ℕ) (up : Bool) (fs : List Frame) (s : Sign) (r : List Terminal) → step_sign s ≡ Some up → move (focus.Place x 0 false) fs (sign_terminal s ∷ r) ≡ moves focus.Unary fs r (step_action x up false ∷ [])
unfolding move
after_steps x up fs s r is = placed_steps x up fs s r is

-- before an operand
pub prefix_begins : (s : Sign) (p : Prefix) (fs : List Frame) (r : List Terminal) → prefix_operator s ≡ Some p → move focus.Begin fs (sign_terminal s ∷ r) ≡ moves focus.Begin (frame.Prefix p ∷ fs) r []
unfolding move
prefix_begins s p fs r is = ap (λ found. sign_move found (step_sign s) s fs r) is

step_no_prefix : (s : Sign) (up : Bool) → step_sign s ≡ Some up → prefix_operator s ≡ None
step_no_prefix sign.Increment up is = refl
step_no_prefix sign.Decrement up is = refl
step_no_prefix _ up is = absurd cc

pub before_steps : (x : List ℕ) (up : Bool) (fs : List Frame) (s : Sign) (r : List Terminal) → step_sign s ≡ Some up → move focus.Begin fs (sign_terminal s ∷ variable_terminal x ∷ r) ≡ moves focus.Unary fs r (step_action x up true ∷ [])
unfolding move
before_steps x up fs s r is =
    ap (λ found. sign_move found (step_sign s) s fs (variable_terminal x ∷ r)) (step_no_prefix s up is)
    ∙ ap (λ found. sign_move None found s fs (variable_terminal x ∷ r)) is

pub constant_begins : (k : Keyword) (e : PlainExpr) (fs : List Frame) (r : List Terminal) → constant_of k ≡ Some e → move focus.Begin fs (word_terminal k ∷ r) ≡ moves focus.Unary fs r (leaf_action e ∷ [])
unfolding move
constant_begins k e fs r is = ap (λ found. word_move found k fs r) is

-- the actions of a template stand before others
keys_before : (ks : List PlainKey) (r s : List Action) → keys_actions ks r ++ s ≡ keys_actions ks (r ++ s)
keys_before [] r s = refl
keys_before (k ∷ ks) r s = ap (λ rest. key_action k ∷ member_action ∷ rest) (keys_before ks r s)

part_before : (p : PlainPart) (r s : List Action) → part_actions p r ++ s ≡ part_actions p (r ++ s)
part_before (plain_part t) r s = refl
part_before (read_part x ks) r s = ap (λ rest. variable_action x ∷ rest) (keys_before ks r s)

parts_before : (ps : List PlainPart) (r s : List Action) → parts_actions ps r ++ s ≡ parts_actions ps (r ++ s)
parts_before [] r s = refl
parts_before (p ∷ ps) r s = part_before p (parts_actions ps r) s ∙ ap (part_actions p) (parts_before ps r s)

pub template_before : (ps : List PlainPart) (s : List Action) → template_actions ps [] ++ s ≡ template_actions ps s
template_before ps s = parts_before ps (join_action (length ps) ∷ []) s

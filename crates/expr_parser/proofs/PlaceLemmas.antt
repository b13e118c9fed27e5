-- The moves behind a variable and its keys, by whether a whole expression is wanted.
use Rattle.std.proofs.Common.{◌≡◌, ℕ, Bool, true, false, List, [], ◌∷◌, ap, sym, ◌∙◌}
use Rattle.std.specs.Prelude.{Option, Some, None, if◌then◌else◌, ◌==◌}
use Rattle.php_syntax.specs.declared.token.Sign.{Sign}
use Rattle.php_syntax.specs.declared.token.Sign.TheVariants as sign
use Rattle.php_syntax.specs.declared.tree.UpdateSign.{UpdateSign}
use Rattle.script_grammar.specs.Terminals.{Terminal, sign_terminal}
use Rattle.expr_machine.specs.declared.frame.Focus.TheVariants as focus
use Rattle.expr_machine.specs.declared.frame.Frame.{Frame}
use Rattle.expr_machine.specs.declared.frame.Frame.TheVariants as frame
use Rattle.expr_machine.specs.Actions.{step_action}
use Rattle.expr_machine.specs.Machine.{moves, wanted_rank, operand_move, updated_move, placed_move}

update_by : (u : UpdateSign) (up : Option Bool) (x : List ℕ) (n : ℕ) (gap : Bool) (fs : List Frame) (s : Sign) (r : List Terminal) (b : Bool) → (wanted_rank fs == 10) ≡ b → updated_move (Some u) up x n gap fs s r ≡ (if b then moves focus.Begin (frame.Update u x n ∷ fs) r [] else operand_move x n gap fs (sign_terminal s ∷ r))
update_by u up x n gap fs s r b e = ap (λ y. if y then moves focus.Begin (frame.Update u x n ∷ fs) r [] else operand_move x n gap fs (sign_terminal s ∷ r)) e

pub update_whole : (u : UpdateSign) (up : Option Bool) (x : List ℕ) (n : ℕ) (gap : Bool) (fs : List Frame) (s : Sign) (r : List Terminal) → (wanted_rank fs == 10) ≡ true → updated_move (Some u) up x n gap fs s r ≡ moves focus.Begin (frame.Update u x n ∷ fs) r []
update_whole u up x n gap fs s r e = update_by u up x n gap fs s r true e

pub update_operand : (u : UpdateSign) (up : Option Bool) (x : List ℕ) (n : ℕ) (gap : Bool) (fs : List Frame) (s : Sign) (r ts : List Terminal) → (wanted_rank fs == 10) ≡ false → ts ≡ sign_terminal s ∷ r → updated_move (Some u) up x n gap fs s r ≡ operand_move x n gap fs ts
update_operand u up x n gap fs s r ts e h = update_by u up x n gap fs s r false e ∙ ap (operand_move x n gap fs) (sym h)

step_by : (up : Bool) (x : List ℕ) (n : ℕ) (gap : Bool) (fs : List Frame) (s : Sign) (r : List Terminal) (b : Bool) → (n == 0) ≡ b → updated_move None (Some up) x n gap fs s r ≡ (if b then moves focus.Unary fs r (step_action x up false ∷ []) else operand_move x n gap fs (sign_terminal s ∷ r))
step_by up x n gap fs s r b e = ap (λ y. if y then moves focus.Unary fs r (step_action x up false ∷ []) else operand_move x n gap fs (sign_terminal s ∷ r)) e

pub step_goes : (up : Bool) (x : List ℕ) (n : ℕ) (gap : Bool) (fs : List Frame) (s : Sign) (r : List Terminal) → (n == 0) ≡ true → updated_move None (Some up) x n gap fs s r ≡ moves focus.Unary fs r (step_action x up false ∷ [])
step_goes up x n gap fs s r e = step_by up x n gap fs s r true e

pub step_operand : (up : Bool) (x : List ℕ) (n : ℕ) (gap : Bool) (fs : List Frame) (s : Sign) (r ts : List Terminal) → (n == 0) ≡ false → ts ≡ sign_terminal s ∷ r → updated_move None (Some up) x n gap fs s r ≡ operand_move x n gap fs ts
step_operand up x n gap fs s r ts e h = step_by up x n gap fs s r false e ∙ ap (operand_move x n gap fs) (sym h)

assign_by : (x : List ℕ) (n : ℕ) (gap : Bool) (fs : List Frame) (r : List Terminal) (b : Bool) → (wanted_rank fs == 10) ≡ b → placed_move x n gap fs sign.Assign r ≡ (if b then moves focus.Begin (frame.Assign x n ∷ fs) r [] else operand_move x n gap fs (sign_terminal sign.Assign ∷ r))
assign_by x n gap fs r b e = ap (λ y. if y then moves focus.Begin (frame.Assign x n ∷ fs) r [] else operand_move x n gap fs (sign_terminal sign.Assign ∷ r)) e

pub assign_whole : (x : List ℕ) (n : ℕ) (gap : Bool) (fs : List Frame) (r : List Terminal) → (wanted_rank fs == 10) ≡ true → placed_move x n gap fs sign.Assign r ≡ moves focus.Begin (frame.Assign x n ∷ fs) r []
assign_whole x n gap fs r e = assign_by x n gap fs r true e

pub assign_operand : (x : List ℕ) (n : ℕ) (gap : Bool) (fs : List Frame) (r ts : List Terminal) → (wanted_rank fs == 10) ≡ false → ts ≡ sign_terminal sign.Assign ∷ r → placed_move x n gap fs sign.Assign r ≡ operand_move x n gap fs ts
assign_operand x n gap fs r ts e h = assign_by x n gap fs r false e ∙ ap (operand_move x n gap fs) (sym h)

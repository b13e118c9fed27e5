-- Each move makes the weight less, and what is left to read no longer; where an expression begins, shorter.
use Rattle.std.proofs.Common.{◌≡◌, ℕ, ◌+◌, ◌*◌, ◌<◌, ◌≤◌, Bool, true, false, suc, List, [], ◌∷◌, length, refl, arith}
use Rattle.std.specs.Prelude.{Option, Some, None, if◌then◌else◌, ◌==◌}
use Rattle.std.proofs.lemmas.Bool.{eqb-true}
use Rattle.php_syntax.specs.declared.token.Sign.{Sign}
use Rattle.php_syntax.specs.declared.token.Sign.TheVariants as sign
use Rattle.script_grammar.specs.declared.keyword.Keyword.{Keyword}
use Rattle.script_grammar.specs.declared.keyword.Keyword.TheVariants as word
use Rattle.script_grammar.specs.declared.operator.Level.{Level}
use Rattle.script_grammar.specs.declared.operator.Level.TheVariants as level
use Rattle.script_grammar.specs.declared.operator.Operator.{Operator}
use Rattle.script_grammar.specs.declared.operator.Prefix.{Prefix}
use Rattle.php_syntax.specs.declared.tree.UpdateSign.{UpdateSign}
use Rattle.php_syntax.specs.Trees.{PlainExpr}
use Rattle.script_grammar.specs.Operators.{repeats, prefix_operator, update_sign, step_sign, level_rank}
use Rattle.script_grammar.specs.Terminals.{Terminal, variable_terminal, word_terminal, name_terminal, int_terminal, text_terminal, template_terminal, sign_terminal, inline_terminal}
use Rattle.script_grammar.specs.Expressions.{constant_of}
use Rattle.expr_machine.specs.declared.frame.Brackets.{Brackets}
use Rattle.expr_machine.specs.declared.frame.Brackets.TheVariants as brackets
use Rattle.expr_machine.specs.declared.frame.Focus.{Focus}
use Rattle.expr_machine.specs.declared.frame.Focus.TheVariants as focus
use Rattle.expr_machine.specs.declared.frame.Frame.{Frame}
use Rattle.expr_machine.specs.declared.frame.Frame.TheVariants as frame
use Rattle.expr_machine.specs.Machine.{Move, moves, finished, stuck, looser, wanted_rank, closed_next, behind, array_move, keyword_move, word_move, call_move, step_move, bracket_move, sign_move, begin_move, operand_move, key_move, updated_move, placed_move, place_move, subscripted_move, unary_move, operator_next, chain_move, join_move, right_move, level_move}
use Rattle.expr_machine.specs.Reading.{weight}

-- a move leads to a weight below w, and leaves no more than m terminals; where it ends, it leaves the n that there are
abbrev pub Falls : ℕ → ℕ → ℕ → Move → Type 0
Falls w m n (moves g gs r acts) = (weight g gs r < w) × (length r ≤ m)
Falls w m n finished = n ≤ m
Falls w m n stuck = Unit {0}

pub if_falls : (w m n : ℕ) (b : Bool) (x y : Move) → Falls w m n x → Falls w m n y → Falls w m n (if b then x else y)
if_falls w m n true x y p q = p
if_falls w m n false x y p q = q

test_falls : (w m n : ℕ) (b : Bool) (x y : Move) → (b ≡ true → Falls w m n x) → Falls w m n y → Falls w m n (if b then x else y)
test_falls w m n true x y p q = p refl
test_falls w m n false x y p q = q

pub behind_falls : (ts : List Terminal) → length (behind ts) ≤ length ts
behind_falls [] = omega arith
behind_falls (t ∷ r) = omega arith

pub weaker : (w v m k n : ℕ) (x : Move) → Falls w m n x → w ≤ v → m ≤ k → Falls v k n x
weaker w v m k n (moves g gs r acts) h p q = (omega arith, omega arith)
weaker w v m k n finished h p q = omega arith
weaker w v m k n stuck h p q = tt

-- where an operand begins

opened : (fs : List Frame) (f : Frame) (r : List Terminal) → (weight focus.Begin (f ∷ fs) r < 64 * suc (length r) + 2 * length fs + 64) × (length r ≤ suc (length r))
opened fs f r = (omega arith, omega arith)

array_falls : (b : Brackets) (fs : List Frame) (ts : List Terminal) (n : ℕ) → Falls (64 * length ts + 2 * length fs + 64) (length ts) n (array_move b fs ts)
array_falls b fs ts n =
    let h = behind_falls ts in
    if_falls _ _ _ (closed_next b ts) _ _ (omega arith, h) (omega arith, omega arith)

keyword_falls : (k : Keyword) (fs : List Frame) (ts : List Terminal) (n : ℕ) → Falls (64 * length ts + 2 * length fs + 64) (length ts) n (keyword_move k fs ts)
keyword_falls word.Isset fs (sign_terminal sign.OpenParen ∷ r) n = (omega arith, omega arith)
keyword_falls word.Empty fs (sign_terminal sign.OpenParen ∷ r) n = (omega arith, omega arith)
keyword_falls word.Array fs (sign_terminal sign.OpenParen ∷ r) n = weaker _ _ _ _ _ (array_move brackets.Round fs r) (array_falls brackets.Round fs r n) (omega arith) (omega arith)
keyword_falls _ fs ts n = tt

word_falls : (found : Option PlainExpr) (k : Keyword) (fs : List Frame) (ts : List Terminal) (n : ℕ) → Falls (64 * length ts + 2 * length fs + 64) (length ts) n (word_move found k fs ts)
word_falls (Some e) k fs ts n = (omega arith, omega arith)
word_falls None k fs ts n = keyword_falls k fs ts n

call_falls : (f : List ℕ) (fs : List Frame) (ts : List Terminal) (n : ℕ) → Falls (64 * length ts + 2 * length fs + 64) (length ts) n (call_move f fs ts)
call_falls f fs (sign_terminal sign.OpenParen ∷ sign_terminal sign.CloseParen ∷ r) n = (omega arith, omega arith)
call_falls f fs (sign_terminal sign.OpenParen ∷ r) n = opened fs (frame.Argument f 0) r
call_falls f fs ts n = tt

step_falls : (up : Bool) (fs : List Frame) (ts : List Terminal) (n : ℕ) → Falls (64 * length ts + 2 * length fs + 64) (length ts) n (step_move up fs ts)
step_falls up fs (variable_terminal x ∷ r) n = (omega arith, omega arith)
step_falls up fs ts n = tt

bracket_falls : (s : Sign) (fs : List Frame) (ts : List Terminal) (n : ℕ) → Falls (64 * length ts + 2 * length fs + 64) (length ts) n (bracket_move s fs ts)
bracket_falls sign.OpenParen fs ts n = (omega arith, omega arith)
bracket_falls sign.OpenBracket fs ts n = array_falls brackets.Square fs ts n
bracket_falls _ fs ts n = tt

sign_falls : (p : Option Prefix) (up : Option Bool) (s : Sign) (fs : List Frame) (ts : List Terminal) (n : ℕ) → Falls (64 * length ts + 2 * length fs + 64) (length ts) n (sign_move p up s fs ts)
sign_falls (Some p) up s fs ts n = (omega arith, omega arith)
sign_falls None (Some up) s fs ts n = step_falls up fs ts n
sign_falls None None s fs ts n = bracket_falls s fs ts n

-- one terminal is passed over first
begun : (fs : List Frame) (t : Terminal) (r : List Terminal) (n : ℕ) (m : Move) → Falls (64 * length r + 2 * length fs + 64) (length r) n m → Falls (weight focus.Begin fs (t ∷ r)) (length r) n m
begun fs t r n m h = weaker _ _ _ _ _ m h (omega arith) (omega arith)

pub begin_falls : (fs : List Frame) (t : Terminal) (r : List Terminal) (n : ℕ) → Falls (weight focus.Begin fs (t ∷ r)) (length r) n (begin_move fs (t ∷ r))
begin_falls fs (inline_terminal t) r n = tt
begin_falls fs (variable_terminal x) r n = (omega arith, omega arith)
begin_falls fs (int_terminal z) r n = (omega arith, omega arith)
begin_falls fs (text_terminal t) r n = (omega arith, omega arith)
begin_falls fs (template_terminal ps) r n = (omega arith, omega arith)
begin_falls fs (word_terminal k) r n = begun fs (word_terminal k) r n (word_move (constant_of k) k fs r) (word_falls (constant_of k) k fs r n)
begin_falls fs (name_terminal f) r n = begun fs (name_terminal f) r n (call_move f fs r) (call_falls f fs r n)
begin_falls fs (sign_terminal s) r n = begun fs (sign_terminal s) r n (sign_move (prefix_operator s) (step_sign s) s fs r) (sign_falls (prefix_operator s) (step_sign s) s fs r n)

-- behind a variable

abbrev pub Moves_on : Focus → List Frame → List Terminal → Move → Type 0
Moves_on f fs ts m = Falls (weight f fs ts) (length ts) (length ts) m

operand_falls : (x : List ℕ) (k : ℕ) (gap : Bool) (fs : List Frame) (ts : List Terminal) → Moves_on (focus.Place x k gap) fs ts (operand_move x k gap fs ts)
operand_falls x k true fs ts = tt
operand_falls x k false fs ts = (omega arith, omega arith)

key_falls : (x : List ℕ) (k : ℕ) (gap : Bool) (fs : List Frame) (s : Sign) (ts : List Terminal) → Moves_on (focus.Place x k gap) fs (sign_terminal s ∷ ts) (key_move x k gap fs ts)
key_falls x k gap fs s (sign_terminal sign.CloseBracket ∷ r) = (omega arith, omega arith)
key_falls x k gap fs s ts = (omega arith, omega arith)

updated_falls : (u : Option UpdateSign) (up : Option Bool) (x : List ℕ) (k : ℕ) (gap : Bool) (fs : List Frame) (s : Sign) (r : List Terminal) → Moves_on (focus.Place x k gap) fs (sign_terminal s ∷ r) (updated_move u up x k gap fs s r)
updated_falls (Some u) up x k gap fs s r = if_falls _ _ _ (wanted_rank fs == 10) _ (operand_move x k gap fs (sign_terminal s ∷ r)) (omega arith, omega arith) (operand_falls x k gap fs (sign_terminal s ∷ r))
updated_falls None (Some up) x k gap fs s r = if_falls _ _ _ (k == 0) _ (operand_move x k gap fs (sign_terminal s ∷ r)) (omega arith, omega arith) (operand_falls x k gap fs (sign_terminal s ∷ r))
updated_falls None None x k gap fs s r = operand_falls x k gap fs (sign_terminal s ∷ r)

placed_falls : (x : List ℕ) (k : ℕ) (gap : Bool) (fs : List Frame) (s : Sign) (r : List Terminal) → Moves_on (focus.Place x k gap) fs (sign_terminal s ∷ r) (placed_move x k gap fs s r)
placed_falls x k gap fs sign.OpenBracket r = key_falls x k gap fs sign.OpenBracket r
placed_falls x k gap fs sign.Assign r = if_falls _ _ _ (wanted_rank fs == 10) _ (operand_move x k gap fs (sign_terminal sign.Assign ∷ r)) (omega arith, omega arith) (operand_falls x k gap fs (sign_terminal sign.Assign ∷ r))
placed_falls x k gap fs s r = updated_falls (update_sign s) (step_sign s) x k gap fs s r

pub place_falls : (x : List ℕ) (k : ℕ) (gap : Bool) (fs : List Frame) (ts : List Terminal) → Moves_on (focus.Place x k gap) fs ts (place_move x k gap fs ts)
place_falls x k gap fs (sign_terminal s ∷ r) = placed_falls x k gap fs s r
place_falls x k gap fs ts = operand_falls x k gap fs ts

-- behind an operand

pub subscripted_falls : (fs : List Frame) (ts : List Terminal) → Moves_on focus.Subscripted fs ts (subscripted_move fs ts)
subscripted_falls fs (sign_terminal sign.OpenBracket ∷ r) = (omega arith, omega arith)
subscripted_falls fs ts = (omega arith, omega arith)

pub unary_falls : (fs : List Frame) (ts : List Terminal) → Moves_on focus.Unary fs ts (unary_move fs ts)
unary_falls (frame.Prefix p ∷ fs) ts = (omega arith, omega arith)
unary_falls fs ts = (omega arith, omega arith)

looser_falls : (l : Level) (fs : List Frame) (ts : List Terminal) → weight (looser l) fs ts < weight (focus.Operand l) fs ts
looser_falls level.Product fs ts = omega arith
looser_falls level.Sum fs ts = omega arith
looser_falls level.Join fs ts = omega arith
looser_falls level.Order fs ts = omega arith
looser_falls level.Equality fs ts = omega arith
looser_falls level.And fs ts = omega arith
looser_falls level.Or fs ts = omega arith

chain_falls : (found : Option Operator) (l : Level) (fs : List Frame) (t : Terminal) (r : List Terminal) → Moves_on (focus.Operand l) fs (t ∷ r) (chain_move found l fs (t ∷ r))
chain_falls (Some o) l fs t r = (omega arith, omega arith)
chain_falls None l fs t r = (looser_falls l fs (t ∷ r), omega arith)

chain_on_falls : (l : Level) (fs : List Frame) (ts : List Terminal) → Moves_on (focus.Operand l) fs ts (chain_move (operator_next l ts) l fs ts)
chain_on_falls l fs [] = (looser_falls l fs [], omega arith)
chain_on_falls l fs (t ∷ r) = chain_falls (operator_next l (t ∷ r)) l fs t r

join_falls : (found : Option Operator) (l : Level) (n : ℕ) (fs : List Frame) (t : Terminal) (r : List Terminal) → level_rank level.Join ≡ level_rank l → Moves_on (focus.Operand l) (frame.Join n ∷ fs) (t ∷ r) (join_move found n fs (t ∷ r))
join_falls (Some o) l n fs t r e = (omega arith, omega arith)
join_falls None l n fs t r e = (omega arith, omega arith)

join_on_falls : (l : Level) (n : ℕ) (fs : List Frame) (ts : List Terminal) → level_rank level.Join ≡ level_rank l → Moves_on (focus.Operand l) (frame.Join n ∷ fs) ts (join_move (operator_next level.Join ts) n fs ts)
join_on_falls l n fs [] e = (omega arith, omega arith)
join_on_falls l n fs (t ∷ r) e = join_falls (operator_next level.Join (t ∷ r)) l n fs t r e

repeated_falls : (l m : Level) (o : Operator) (fs : List Frame) (ts : List Terminal) → level_rank m ≡ level_rank l → weight (if repeats m then focus.Operand m else looser m) fs ts < weight (focus.Operand l) (frame.Operator m o ∷ fs) ts
repeated_falls l level.Product o fs ts e = omega arith
repeated_falls l level.Sum o fs ts e = omega arith
repeated_falls l level.Join o fs ts e = omega arith
repeated_falls l level.Order o fs ts e = omega arith
repeated_falls l level.Equality o fs ts e = omega arith
repeated_falls l level.And o fs ts e = omega arith
repeated_falls l level.Or o fs ts e = omega arith

right_falls : (l : Level) (fs : List Frame) (ts : List Terminal) → wanted_rank fs ≡ level_rank l → Moves_on (focus.Operand l) fs ts (right_move l fs ts)
right_falls l (frame.Operator m o ∷ fs) ts e = (repeated_falls l m o fs ts e, omega arith)
right_falls l (frame.Join n ∷ fs) ts e = join_on_falls l n fs ts e
right_falls l fs ts e = tt

pub level_falls : (l : Level) (fs : List Frame) (ts : List Terminal) → Moves_on (focus.Operand l) fs ts (level_move l fs ts)
level_falls l fs ts = test_falls _ _ _ (wanted_rank fs == level_rank l) (right_move l fs ts) (chain_move (operator_next l ts) l fs ts) (λ e. right_falls l fs ts (eqb-true _ _ e)) (chain_on_falls l fs ts)

-- The levels of operators: which is next to which, and what the machine does at a sign of a level.
use Rattle.std.proofs.Common.{◌≡◌, ℕ, ◌+◌, ◌<◌, ◌≤◌, suc, true, false, if◌then◌else◌, List, [], ◌∷◌, Option, Some, None, refl, sym, ap, ◌∙◌, arith}
use Rattle.php_syntax.specs.declared.token.Sign.{Sign}
use Rattle.php_syntax.specs.declared.token.Sign.TheVariants as sign
use Rattle.script_grammar.specs.declared.operator.Level.{Level}
use Rattle.script_grammar.specs.declared.operator.Level.TheVariants as level
use Rattle.script_grammar.specs.declared.operator.Operator.{Operator}
use Rattle.script_grammar.specs.Operators.{tighter_level, repeats, binary_operator, level_rank}
use Rattle.script_grammar.specs.Terminals.{Terminal, sign_terminal}
use Rattle.script_grammar.specs.Expressions.{MoreExprsForm, no_more_exprs, one_more_expr, more_exprs_terminals, MoreForm, no_more, once_more, one_more, more_terminals, expr_terminals, operand_terminals}
use Rattle.expr_machine.specs.declared.frame.Focus.{Focus}
use Rattle.expr_machine.specs.declared.frame.Focus.TheVariants as focus
use Rattle.expr_machine.specs.declared.frame.Frame.{Frame}
use Rattle.expr_machine.specs.declared.frame.Frame.TheVariants as frame
use Rattle.expr_machine.specs.Actions.{binary_action, join_action}
use Rattle.expr_machine.specs.Machine.{moves, move, looser, wanted_rank, begun_frame, chain_move, join_move}
use Rattle.expr_machine.specs.Postfix.{is_flat}
use Rattle.expr_machine.specs.Reading.{rank_next}
use Rattle.expr_laws.proofs.Ahead.{operator_none, operator_some, operator_rank, level_begins, right_ends}

-- the rank and the place of the level above
abbrev rank_above : Option Level → ℕ
rank_above None = 1
rank_above (Some m) = suc (level_rank m)

rank_above_tighter : (l : Level) → rank_above (tighter_level l) ≡ level_rank l
rank_above_tighter level.Or = refl
rank_above_tighter level.And = refl
rank_above_tighter level.Equality = refl
rank_above_tighter level.Order = refl
rank_above_tighter level.Join = refl
rank_above_tighter level.Sum = refl
rank_above_tighter level.Product = refl

abbrev focus_above : Option Level → Focus
focus_above None = focus.Operand level.Product
focus_above (Some m) = looser m

focus_above_tighter : (l : Level) → focus_above (tighter_level l) ≡ focus.Operand l
focus_above_tighter level.Or = refl
focus_above_tighter level.And = refl
focus_above_tighter level.Equality = refl
focus_above_tighter level.Order = refl
focus_above_tighter level.Join = refl
focus_above_tighter level.Sum = refl
focus_above_tighter level.Product = refl

pub tighter_rank : (l m : Level) → tighter_level l ≡ Some m → suc (level_rank m) ≡ level_rank l
tighter_rank l m is = ap rank_above (sym is) ∙ rank_above_tighter l

pub tighter_focus : (l m : Level) → tighter_level l ≡ Some m → looser m ≡ focus.Operand l
tighter_focus l m is = ap focus_above (sym is) ∙ focus_above_tighter l

pub tightest_rank : (l : Level) → tighter_level l ≡ None → 1 ≡ level_rank l
tightest_rank l is = ap rank_above (sym is) ∙ rank_above_tighter l

pub tightest_focus : (l : Level) → tighter_level l ≡ None → focus.Operand level.Product ≡ focus.Operand l
tightest_focus l is = ap focus_above (sym is) ∙ focus_above_tighter l

-- what may follow an operand in a chain
pub more_rank : {l : Level} (m : MoreForm l) (r : List Terminal) → level_rank l < rank_next r → level_rank l ≤ rank_next (more_terminals m r)
unfolding expr_terminals
more_rank no_more r h = omega arith
more_rank {l} (once_more s o is last a) r h = let e = operator_rank l s o (operand_terminals a r) is in omega arith
more_rank {l} (one_more s o is on a m) r h = let e = operator_rank l s o (operand_terminals a (more_terminals m r)) is in omega arith

-- a level that leans left
leaning_frame : (l : Level) (o : Operator) → is_flat l ≡ false → begun_frame l o ≡ frame.Operator l o
leaning_frame level.Join o leans = absurd cc
leaning_frame _ o leans = refl

pub leaning_begins : (l : Level) (s : Sign) (o : Operator) (fs : List Frame) (r : List Terminal) → binary_operator s ≡ Some (l, o) → is_flat l ≡ false → level_rank l < wanted_rank fs → move (focus.Operand l) fs (sign_terminal s ∷ r) ≡ moves focus.Begin (frame.Operator l o ∷ fs) r []
leaning_begins l s o fs r is leans h =
    level_begins l fs (sign_terminal s ∷ r) h
    ∙ ap (λ found. chain_move found l fs (sign_terminal s ∷ r)) (operator_some l s o r is)
    ∙ ap (λ f. moves focus.Begin (f ∷ fs) r []) (leaning_frame l o leans)

pub leaning_again : (l : Level) (o : Operator) (fs : List Frame) (r : List Terminal) → repeats l ≡ true → move (focus.Operand l) (frame.Operator l o ∷ fs) r ≡ moves (focus.Operand l) fs r (binary_action o ∷ [])
leaning_again l o fs r h = right_ends l o fs r ∙ ap (λ b. moves (if b then focus.Operand l else looser l) fs r (binary_action o ∷ [])) h

pub leaning_once : (l : Level) (o : Operator) (fs : List Frame) (r : List Terminal) → repeats l ≡ false → move (focus.Operand l) (frame.Operator l o ∷ fs) r ≡ moves (looser l) fs r (binary_action o ∷ [])
leaning_once l o fs r h = right_ends l o fs r ∙ ap (λ b. moves (if b then focus.Operand l else looser l) fs r (binary_action o ∷ [])) h

-- the level of `.`
flat_frame : (l : Level) (o : Operator) → is_flat l ≡ true → begun_frame l o ≡ frame.Join 1
flat_frame level.Join o flat = refl
flat_frame _ o flat = absurd cc

pub flat_begins : (l : Level) (s : Sign) (o : Operator) (fs : List Frame) (r : List Terminal) → binary_operator s ≡ Some (l, o) → is_flat l ≡ true → level_rank l < wanted_rank fs → move (focus.Operand l) fs (sign_terminal s ∷ r) ≡ moves focus.Begin (frame.Join 1 ∷ fs) r []
flat_begins l s o fs r is flat h =
    level_begins l fs (sign_terminal s ∷ r) h
    ∙ ap (λ found. chain_move found l fs (sign_terminal s ∷ r)) (operator_some l s o r is)
    ∙ ap (λ f. moves focus.Begin (f ∷ fs) r []) (flat_frame l o flat)

pub flat_goes_on : (l : Level) (s : Sign) (o : Operator) (n : ℕ) (fs : List Frame) (r : List Terminal) → binary_operator s ≡ Some (l, o) → is_flat l ≡ true → move (focus.Operand l) (frame.Join n ∷ fs) (sign_terminal s ∷ r) ≡ moves focus.Begin (frame.Join (n + 1) ∷ fs) r []
unfolding move
flat_goes_on level.Join s o n fs r is flat = ap (λ found. join_move found n fs (sign_terminal s ∷ r)) (operator_some level.Join s o r is)
flat_goes_on _ s o n fs r is flat = absurd cc

pub flat_ends : (l : Level) (n : ℕ) (fs : List Frame) (r : List Terminal) → level_rank l < rank_next r → is_flat l ≡ true → move (focus.Operand l) (frame.Join n ∷ fs) r ≡ moves (looser l) fs r (join_action (n + 1) ∷ [])
unfolding move
flat_ends level.Join n fs r h flat = ap (λ found. join_move found n fs r) (operator_none level.Join r h)
flat_ends _ n fs r h flat = absurd cc

pub flat_repeats : (l : Level) → is_flat l ≡ true → repeats l ≡ true
flat_repeats level.Join flat = refl
flat_repeats _ flat = absurd cc

pub flat_wanted : (l : Level) → is_flat l ≡ true → level_rank l ≤ 3
flat_wanted level.Join flat = omega arith
flat_wanted _ flat = absurd cc

-- what follows an expression in a row
pub exprs_rank : (es : MoreExprsForm) (r : List Terminal) → rank_next (more_exprs_terminals es (sign_terminal sign.CloseParen ∷ r)) ≡ 10
unfolding expr_terminals
exprs_rank no_more_exprs r = refl
exprs_rank (one_more_expr e es) r = refl

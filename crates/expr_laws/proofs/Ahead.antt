-- What the machine does where nothing goes on with what it has read.
use Rattle.std.proofs.Common.{◌≡◌, ℕ, ◌<◌, false, if◌then◌else◌, List, [], ◌∷◌, Option, Some, None, refl, ap, ◌∙◌, arith}
use Rattle.std.proofs.lemmas.Bool.{ne_eqb, eq-eqb}
use Rattle.php_syntax.specs.declared.token.Sign.{Sign}
use Rattle.php_syntax.specs.declared.token.Sign.TheVariants as sign
use Rattle.script_grammar.specs.declared.operator.Level.{Level}
use Rattle.script_grammar.specs.declared.operator.Level.TheVariants as level
use Rattle.script_grammar.specs.declared.operator.Operator.{Operator}
use Rattle.script_grammar.specs.Operators.{repeats, binary_operator, level_rank}
use Rattle.script_grammar.specs.Terminals.{Terminal, sign_terminal}
use Rattle.expr_machine.specs.declared.frame.Focus.TheVariants as focus
use Rattle.expr_machine.specs.declared.frame.Frame.{Frame}
use Rattle.expr_machine.specs.declared.frame.Frame.TheVariants as frame
use Rattle.expr_machine.specs.Actions.{read_action, binary_action}
use Rattle.expr_machine.specs.Machine.{moves, move, looser, wanted_rank, placed_move, of_level, operator_next, chain_move, right_move, question_move}
use Rattle.expr_machine.specs.Reading.{sign_rank, rank_next}

-- behind a variable
placed_ends : (x : List ℕ) (n : ℕ) (fs : List Frame) (s : Sign) (r : List Terminal) → 0 < rank_next (sign_terminal s ∷ r) → placed_move x n false fs s r ≡ moves focus.Unary fs (sign_terminal s ∷ r) (read_action x n ∷ [])
placed_ends x n fs sign.OpenBracket r h = absurd (omega arith)
placed_ends x n fs sign.Increment r h = absurd (omega arith)
placed_ends x n fs sign.Decrement r h = absurd (omega arith)
placed_ends x n fs sign.Assign r h = absurd (omega arith)
placed_ends x n fs sign.JoinAssign r h = absurd (omega arith)
placed_ends x n fs sign.AddAssign r h = absurd (omega arith)
placed_ends x n fs sign.SubAssign r h = absurd (omega arith)
placed_ends x n fs sign.MulAssign r h = absurd (omega arith)
placed_ends x n fs sign.RemAssign r h = absurd (omega arith)
placed_ends x n fs sign.CoalesceAssign r h = absurd (omega arith)
placed_ends x n fs _ r h = refl

pub place_ends : (x : List ℕ) (n : ℕ) (fs : List Frame) (r : List Terminal) → 0 < rank_next r → move (focus.Place x n false) fs r ≡ moves focus.Unary fs r (read_action x n ∷ [])
unfolding move
place_ends x n fs [] h = refl
place_ends x n fs (sign_terminal s ∷ r) h = placed_ends x n fs s r h
place_ends x n fs (_ ∷ r) h = refl

-- behind a value that subscripts may follow
pub subscripted_ends : (fs : List Frame) (r : List Terminal) → 0 < rank_next r → move focus.Subscripted fs r ≡ moves focus.Unary fs r []
unfolding move
subscripted_ends fs [] h = refl
subscripted_ends fs (sign_terminal sign.OpenBracket ∷ r) h = absurd (omega arith)
subscripted_ends fs (sign_terminal _ ∷ r) h = refl
subscripted_ends fs (_ ∷ r) h = refl

-- behind a unary operand
pub unary_ends : (fs : List Frame) (r : List Terminal) → 0 < wanted_rank fs → move focus.Unary fs r ≡ moves (focus.Operand level.Product) fs r []
unfolding move
unary_ends [] r h = refl
unary_ends (frame.Prefix p ∷ fs) r h = absurd (omega arith)
unary_ends (_ ∷ fs) r h = refl

-- no operator of a level stands next
of_level_none : (l : Level) (found : Option (Level × Operator)) (s : Sign) → level_rank l < sign_rank found s → of_level l found ≡ None
of_level_none l None s h = refl
of_level_none l (Some (m, o)) s h = ap (λ b. if b then Some o else None) (ne_eqb (level_rank m) (level_rank l) (λ e. omega arith))

pub operator_none : (l : Level) (r : List Terminal) → level_rank l < rank_next r → operator_next l r ≡ None
operator_none l [] h = refl
operator_none l (sign_terminal s ∷ r) h = of_level_none l (binary_operator s) s h
operator_none l (_ ∷ r) h = refl

-- an operator of a level stands next
pub operator_some : (l : Level) (s : Sign) (o : Operator) (r : List Terminal) → binary_operator s ≡ Some (l, o) → operator_next l (sign_terminal s ∷ r) ≡ Some o
operator_some l s o r is = ap (of_level l) is ∙ ap (λ b. if b then Some o else None) (eq-eqb (level_rank l) (level_rank l) refl)

pub operator_rank : (l : Level) (s : Sign) (o : Operator) (r : List Terminal) → binary_operator s ≡ Some (l, o) → rank_next (sign_terminal s ∷ r) ≡ level_rank l
operator_rank l s o r is = ap (λ found. sign_rank found s) is

-- behind an operand of a level, where nothing of this level or a tighter one was begun
pub level_begins : (l : Level) (fs : List Frame) (r : List Terminal) → level_rank l < wanted_rank fs → move (focus.Operand l) fs r ≡ chain_move (operator_next l r) l fs r
unfolding move
level_begins l fs r h = ap (λ b. if b then right_move l fs r else chain_move (operator_next l r) l fs r) (ne_eqb (wanted_rank fs) (level_rank l) (λ e. omega arith))

pub level_ends : (l : Level) (fs : List Frame) (r : List Terminal) → level_rank l < wanted_rank fs → level_rank l < rank_next r → move (focus.Operand l) fs r ≡ moves (looser l) fs r []
level_ends l fs r wanted next = level_begins l fs r wanted ∙ ap (λ o. chain_move o l fs r) (operator_none l r next)

-- behind the right operand of an operator
pub right_ends : (l : Level) (o : Operator) (fs : List Frame) (r : List Terminal) → move (focus.Operand l) (frame.Operator l o ∷ fs) r ≡ moves (if repeats l then focus.Operand l else looser l) fs r (binary_action o ∷ [])
unfolding move
right_ends l o fs r = ap (λ b. if b then right_move l (frame.Operator l o ∷ fs) r else chain_move (operator_next l r) l (frame.Operator l o ∷ fs) r) (eq-eqb (level_rank l) (level_rank l) refl)

-- behind a chain of `||`
pub chain_ends : (fs : List Frame) (r : List Terminal) → 8 < rank_next r → move focus.Chain fs r ≡ moves focus.Coalesced fs r []
unfolding move
chain_ends fs [] h = refl
chain_ends fs (sign_terminal sign.Coalesce ∷ r) h = absurd (omega arith)
chain_ends fs (sign_terminal _ ∷ r) h = refl
chain_ends fs (_ ∷ r) h = refl

-- behind a chain of `??`
pub coalesced_asks : (fs : List Frame) (r : List Terminal) → wanted_rank fs ≡ 10 → move focus.Coalesced fs r ≡ question_move fs r
unfolding move
coalesced_asks [] r h = refl
coalesced_asks (frame.Coalesce ∷ fs) r h = absurd (omega arith)
coalesced_asks (frame.ShortChoice ∷ fs) r h = absurd (omega arith)
coalesced_asks (frame.FullChoice ∷ fs) r h = absurd (omega arith)
coalesced_asks (_ ∷ fs) r h = refl

question_none : (fs : List Frame) (r : List Terminal) → 9 < rank_next r → question_move fs r ≡ moves focus.Whole fs r []
question_none fs [] h = refl
question_none fs (sign_terminal sign.Question ∷ r) h = absurd (omega arith)
question_none fs (sign_terminal _ ∷ r) h = refl
question_none fs (_ ∷ r) h = refl

pub coalesced_ends : (fs : List Frame) (r : List Terminal) → wanted_rank fs ≡ 10 → 9 < rank_next r → move focus.Coalesced fs r ≡ moves focus.Whole fs r []
coalesced_ends fs r wanted next = coalesced_asks fs r wanted ∙ question_none fs r next

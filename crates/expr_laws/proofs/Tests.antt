-- Small facts on tests, options and what stands next.
use Rattle.std.proofs.Common.{◌≡◌, ◌∙◌, sym, ◌==◌, Bool, true, false, List, [], ◌∷◌, ◌++◌, refl, ap, subst, Option, Some, None}
use Rattle.std.specs.Prelude.{if◌then◌else◌}
use Rattle.php_syntax.specs.declared.token.Sign.{Sign}
use Rattle.php_syntax.specs.declared.token.Sign.TheVariants as sign
use Rattle.script_grammar.specs.declared.operator.Level.{Level}
use Rattle.script_grammar.specs.declared.operator.Level.TheVariants as level
use Rattle.script_grammar.specs.declared.operator.Operator.{Operator}
use Rattle.script_grammar.specs.Operators.{binary_operator, level_rank}
use Rattle.script_grammar.specs.Terminals.{Terminal, sign_terminal}
use Rattle.expr_machine.specs.declared.frame.Brackets.{Brackets}
use Rattle.expr_machine.specs.declared.frame.Brackets.TheVariants as brackets
use Rattle.expr_machine.specs.declared.frame.Frame.{Frame}
use Rattle.expr_machine.specs.declared.frame.Frame.TheVariants as frame
use Rattle.expr_machine.specs.Actions.{Action}
use Rattle.expr_machine.specs.Machine.{Move, moves, finished, stuck, wanted_rank, of_level, operator_next, closes, closed_next, behind}
use Rattle.expr_laws.proofs.Shapes.{OneOf}
use Rattle.expr_laws.proofs.Stands.{wants_expr, want, rank_of, closer, Carries}
use Rattle.expr_laws.proofs.Climbing.{false_true, same_level}

pub test_true : {b : Bool} (A B : Type 0) → b ≡ true → A → OneOf b A B
test_true A B e h = subst (λ c. OneOf c A B) (sym e) h

pub test_false : {b : Bool} (A B : Type 0) → b ≡ false → B → OneOf b A B
test_false A B e h = subst (λ c. OneOf c A B) (sym e) h

pub when_false : (b : Bool) (A B : Type 0) → b ≡ false → OneOf b A B → B
when_false b A B e h = subst (λ c. OneOf c A B) e h

-- a move that a test chooses
pub carry_test : (end : List Terminal) (ts : List Terminal) (P : List Action → Type 0) (b : Bool) (m m' : Move)
    → (b ≡ true → Carries end m ts P) → (b ≡ false → Carries end m' ts P) → Carries end (if b then m else m') ts P
carry_test end ts P true m m' h h' = h refl
carry_test end ts P false m m' h h' = h' refl

-- a move with something that follows from what it carries
pub carry_on : (end : List Terminal) (ts : List Terminal) (P Q : List Action → Type 0) (m : Move) → ((acts : List Action) → P acts → Q acts) → Carries end m ts P → Carries end m ts Q
carry_on end ts P Q (moves g gs us acts) f h = λ later here. f (acts ++ later) (h later here)
carry_on end ts P Q finished f h = λ e. f [] (h e)
carry_on end ts P Q stuck f h = tt

-- the wants of the last thing begun, by number
pub rank_want : (fs : List Frame) → wanted_rank fs ≡ rank_of (want fs)
rank_want [] = refl
rank_want (frame.Prefix p ∷ fs) = refl
rank_want (frame.Operator l o ∷ fs) = refl
rank_want (frame.Join n ∷ fs) = refl
rank_want (frame.Coalesce ∷ fs) = refl
rank_want (frame.ShortChoice ∷ fs) = refl
rank_want (frame.FullChoice ∷ fs) = refl
rank_want (f ∷ fs) = refl

pub level_test : (l : Level) (fs : List Frame) (b : Bool) → (wanted_rank fs == level_rank l) ≡ b → (rank_of (want fs) == level_rank l) ≡ b
level_test l fs b e = subst (λ n. (n == level_rank l) ≡ b) (rank_want fs) e

not_ten : (l : Level) → (level_rank l == 10) ≡ true → ⊥
not_ten level.Product e = false_true e
not_ten level.Sum e = false_true e
not_ten level.Join e = false_true e
not_ten level.Order e = false_true e
not_ten level.Equality e = false_true e
not_ten level.And e = false_true e
not_ten level.Or e = false_true e

pub wants_whole : (fs : List Frame) → (wanted_rank fs == 10) ≡ true → want fs ≡ wants_expr
wants_whole [] e = refl
wants_whole (frame.Prefix p ∷ fs) e = absurd (false_true e)
wants_whole (frame.Operator l o ∷ fs) e = absurd (not_ten l e)
wants_whole (frame.Join n ∷ fs) e = absurd (false_true e)
wants_whole (frame.Coalesce ∷ fs) e = absurd (false_true e)
wants_whole (frame.ShortChoice ∷ fs) e = absurd (false_true e)
wants_whole (frame.FullChoice ∷ fs) e = absurd (false_true e)
wants_whole (f ∷ fs) e = refl

-- a sign that the brackets of an array are closed by
closing_sign : (b : Brackets) (s : Sign) → closes b s ≡ true → s ≡ closer b
closing_sign brackets.Round sign.CloseParen e = refl
closing_sign brackets.Square sign.CloseBracket e = refl
closing_sign b s e = absurd (false_true e)

pub closing : (b : Brackets) (ts : List Terminal) → closed_next b ts ≡ true → ts ≡ sign_terminal (closer b) ∷ behind ts
closing b (sign_terminal s ∷ r) e = ap (λ c. sign_terminal c ∷ r) (closing_sign b s e)
closing b ts e = absurd (false_true e)

pub none_some : {X : Type 0} {x : X} → None ≡ Some x → ⊥
none_some e = cc

pub some_same : {X : Type 0} {x y : X} → Some x ≡ Some y → x ≡ y
some_same e = cc

-- a level and an operator
paired : Level → Operator → Option (Level × Operator)
paired l o = Some (l, o)

level_found : (l m : Level) (o o' : Operator) (b : Bool) → (level_rank m == level_rank l) ≡ b → (if b then Some o' else None) ≡ Some o → paired m o' ≡ paired l o
level_found l m o o' true e h = ap (λ n. paired n o') (same_level m l e) ∙ ap (paired l) (some_same h)
level_found l m o o' false e h = absurd (none_some h)

level_of : (l : Level) (q : Option (Level × Operator)) (o : Operator) → of_level l q ≡ Some o → q ≡ Some (l, o)
unfolding paired
level_of l None o e = absurd (none_some e)
level_of l (Some (m, o')) o e = level_found l m o o' (level_rank m == level_rank l) refl e

-- where the operator of a level stands next
pub operator_there : (l : Level) (ts : List Terminal) (o : Operator) → operator_next l ts ≡ Some o → (s : Sign) × (ts ≡ sign_terminal s ∷ behind ts) × (binary_operator s ≡ Some (l, o))
operator_there l (sign_terminal s ∷ r) o e = (s, refl, level_of l (binary_operator s) o e)
operator_there l ts o e = absurd (none_some e)

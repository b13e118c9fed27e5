-- The moves behind an operand of a level carry what stands behind it.
use Rattle.std.proofs.Common.{◌≡◌, ◌==◌, ℕ, ◌+◌, true, false, List, ◌∷◌, refl, Option, Some, None}
use Rattle.php_syntax.specs.declared.token.Sign.{Sign}
use Rattle.script_grammar.specs.declared.operator.Level.{Level}
use Rattle.script_grammar.specs.declared.operator.Level.TheVariants as level
use Rattle.script_grammar.specs.declared.operator.Operator.{Operator}
use Rattle.script_grammar.specs.Operators.{binary_operator, level_rank}
use Rattle.script_grammar.specs.Terminals.{Terminal, sign_terminal}
use Rattle.script_grammar.specs.Expressions.{MoreForm, no_more, once_more, one_more, more_terminals, OperandForm, operand_terminals}
use Rattle.expr_machine.specs.declared.frame.Focus.TheVariants as focus
use Rattle.expr_machine.specs.declared.frame.Frame.{Frame}
use Rattle.expr_machine.specs.declared.frame.Frame.TheVariants as frame
use Rattle.expr_machine.specs.Actions.{Action, binary_action}
use Rattle.expr_machine.specs.Machine.{looser, wanted_rank, operator_next, behind, begun_frame, chain_move, join_move, right_move, level_move}
use Rattle.expr_machine.specs.Postfix.{joined_actions, counted_actions, leaning_actions, operand_actions}
use Rattle.expr_laws.proofs.Shapes.{Ahead, Reads, joined, after, moved, OneOf}
use Rattle.expr_laws.proofs.Stands.{want, rank_of, chained_actions, FromLevel, FromOrder, From, Filled, Stands, Carries}
use Rattle.expr_laws.proofs.Tests.{test_true, test_false, when_false, carry_test, carry_on, level_test, operator_there}

-- what follows an operand that no longer fills what is begun
Further : List Terminal → Level → List Frame → List Terminal → List Action → Type 0
Further end l fs ts acts = Reads (more_terminals {l = l}) chained_actions (From (looser l) (want fs) (Filled end fs)) ts acts

no_further : (end : List Terminal) (l : Level) (fs : List Frame) (ts : List Terminal) (later : List Action) → Stands end (looser l) fs ts later → Further end l fs ts later
unfolding Further more_terminals joined_actions leaning_actions
no_further end level.Product fs ts later h = (no_more, record { left = ts; later = later; reads = refl; does = refl; goes_on = h })
no_further end level.Sum fs ts later h = (no_more, record { left = ts; later = later; reads = refl; does = refl; goes_on = h })
no_further end level.Join fs ts later h = (no_more, record { left = ts; later = later; reads = refl; does = refl; goes_on = h })
no_further end level.Order fs ts later h = (no_more, record { left = ts; later = later; reads = refl; does = refl; goes_on = h })
no_further end level.Equality fs ts later h = (no_more, record { left = ts; later = later; reads = refl; does = refl; goes_on = h })
no_further end level.And fs ts later h = (no_more, record { left = ts; later = later; reads = refl; does = refl; goes_on = h })
no_further end level.Or fs ts later h = (no_more, record { left = ts; later = later; reads = refl; does = refl; goes_on = h })

-- what follows the right operand of an operator that leans left
leaning_goes_on : (end : List Terminal) (l : Level) (fs : List Frame) (ts : List Terminal) (later : List Action) (o : Operator) (s : Sign) → ts ≡ sign_terminal s ∷ behind ts → (rank_of (want fs) == level_rank l) ≡ false
    → (a : OperandForm l) → Ahead (operand_terminals a) (operand_actions a) (Ahead (λ r. r) (λ r. binary_action o ∷ r) (FromLevel l (From (looser l) (want fs) (Filled end fs)) (want fs) (Filled end fs))) (behind ts) later
    → (m : MoreForm l) × Ahead (λ r. sign_terminal s ∷ operand_terminals a (more_terminals m r)) (λ r. operand_actions a (binary_action o ∷ chained_actions m r)) (From (looser l) (want fs) (Filled end fs)) ts later
leaning_goes_on end l fs ts later o s e test a p =
    let q = joined p p.goes_on
    in let z = when_false (rank_of (want fs) == level_rank l) _ _ test q.goes_on
    in (z.0, moved e (after (λ r. sign_terminal s ∷ r) (λ r. r) (joined q z.1)))

once_goes_on : (end : List Terminal) (l : Level) (fs : List Frame) (ts : List Terminal) (later : List Action) (o : Operator) (s : Sign) → ts ≡ sign_terminal s ∷ behind ts
    → (a : OperandForm l) → Ahead (operand_terminals a) (operand_actions a) (Ahead (λ r. r) (λ r. binary_action o ∷ r) (From (looser l) (want fs) (Filled end fs))) (behind ts) later
    → Ahead (λ r. sign_terminal s ∷ operand_terminals a r) (λ r. operand_actions a (binary_action o ∷ r)) (From (looser l) (want fs) (Filled end fs)) ts later
once_goes_on end l fs ts later o s e a p = moved e (after (λ r. sign_terminal s ∷ r) (λ r. r) (joined p p.goes_on))

flat_goes_on : (end : List Terminal) (n : ℕ) (fs : List Frame) (ts : List Terminal) (later : List Action) (s : Sign) → ts ≡ sign_terminal s ∷ behind ts
    → (a : OperandForm level.Join) → Ahead (operand_terminals a) (operand_actions a) (Filled end (frame.Join n ∷ fs)) (behind ts) later
    → (m : MoreForm level.Join) × Ahead (λ r. sign_terminal s ∷ operand_terminals a (more_terminals m r)) (λ r. operand_actions a (counted_actions m (n + 1) r)) (FromOrder (want fs) (Filled end fs)) ts later
flat_goes_on end n fs ts later s e a p = let z = p.goes_on in (z.0, moved e (after (λ r. sign_terminal s ∷ r) (λ r. r) (joined p z.1)))

operator_goes_on : (end : List Terminal) (l : Level) (fs : List Frame) (ts : List Terminal) (later : List Action) → (rank_of (want fs) == level_rank l) ≡ false → (o : Operator) (s : Sign) → ts ≡ sign_terminal s ∷ behind ts → binary_operator s ≡ Some (l, o)
    → Stands end focus.Begin (begun_frame l o ∷ fs) (behind ts) later → Further end l fs ts later
unfolding Further more_terminals joined_actions leaning_actions
operator_goes_on end level.Product fs ts later test o s e is h = let z = leaning_goes_on end level.Product fs ts later o s e test h.0 h.1 in (one_more s o is refl h.0 z.0, z.1)
operator_goes_on end level.Sum fs ts later test o s e is h = let z = leaning_goes_on end level.Sum fs ts later o s e test h.0 h.1 in (one_more s o is refl h.0 z.0, z.1)
operator_goes_on end level.Join fs ts later test o s e is h = let z = flat_goes_on end 1 fs ts later s e h.0 h.1 in (one_more s o is refl h.0 z.0, z.1)
operator_goes_on end level.Order fs ts later test o s e is h = (once_more s o is refl h.0, once_goes_on end level.Order fs ts later o s e h.0 h.1)
operator_goes_on end level.Equality fs ts later test o s e is h = (once_more s o is refl h.0, once_goes_on end level.Equality fs ts later o s e h.0 h.1)
operator_goes_on end level.And fs ts later test o s e is h = let z = leaning_goes_on end level.And fs ts later o s e test h.0 h.1 in (one_more s o is refl h.0 z.0, z.1)
operator_goes_on end level.Or fs ts later test o s e is h = let z = leaning_goes_on end level.Or fs ts later o s e test h.0 h.1 in (one_more s o is refl h.0 z.0, z.1)

further_carries : (end : List Terminal) (l : Level) (fs : List Frame) (ts : List Terminal) → (rank_of (want fs) == level_rank l) ≡ false → (q : Option Operator) → operator_next l ts ≡ q → Carries end (chain_move q l fs ts) ts (Further end l fs ts)
further_carries end l fs ts test None e = λ later h. no_further end l fs ts later h
further_carries end l fs ts test (Some o) e = let w = operator_there l ts o e in λ later h. operator_goes_on end l fs ts later test o w.0 w.1 w.2 h

-- behind an operand of a chain of `.`
join_carries : (end : List Terminal) (n : ℕ) (fs : List Frame) (ts : List Terminal) (q : Option Operator) → operator_next level.Join ts ≡ q → Carries end (join_move q n fs ts) ts (Filled end (frame.Join n ∷ fs) ts)
unfolding more_terminals counted_actions
join_carries end n fs ts None e = λ later h. (no_more, record { left = ts; later = later; reads = refl; does = refl; goes_on = h })
join_carries end n fs ts (Some o) e = let w = operator_there level.Join ts o e in λ later h. let z = flat_goes_on end (n + 1) fs ts later w.0 w.1 h.0 h.1 in (one_more w.0 o w.2 refl h.0 z.0, z.1)

right_carries : (end : List Terminal) (l : Level) (fs : List Frame) (ts : List Terminal) → Carries end (right_move l fs ts) ts (Filled end fs ts)
right_carries end l (frame.Operator m o ∷ fs) ts = λ later h. record { left = ts; later = later; reads = refl; does = refl; goes_on = h }
right_carries end l (frame.Join n ∷ fs) ts = join_carries end n fs ts (operator_next level.Join ts) refl
right_carries end l fs ts = tt

-- an operand of a level by what it fills, and by what follows it
level_opens : (end : List Terminal) (l : Level) (fs : List Frame) (ts : List Terminal) (acts : List Action) → OneOf (rank_of (want fs) == level_rank l) (Filled end fs ts acts) (Further end l fs ts acts) → Stands end (focus.Operand l) fs ts acts
unfolding Further
level_opens end level.Product fs ts acts h = h
level_opens end level.Sum fs ts acts h = h
level_opens end level.Join fs ts acts h = h
level_opens end level.Order fs ts acts h = h
level_opens end level.Equality fs ts acts h = h
level_opens end level.And fs ts acts h = h
level_opens end level.Or fs ts acts h = h

pub level_carries : (end : List Terminal) (l : Level) (fs : List Frame) (ts : List Terminal) → Carries end (level_move l fs ts) ts (Stands end (focus.Operand l) fs ts)
level_carries end l fs ts =
    carry_test end ts (Stands end (focus.Operand l) fs ts) (wanted_rank fs == level_rank l) (right_move l fs ts) (chain_move (operator_next l ts) l fs ts)
    (λ e. carry_on end ts (Filled end fs ts) (Stands end (focus.Operand l) fs ts) (right_move l fs ts) (λ acts h. level_opens end l fs ts acts (test_true _ _ (level_test l fs true e) h)) (right_carries end l fs ts))
    (λ e. carry_on end ts (Further end l fs ts) (Stands end (focus.Operand l) fs ts) (chain_move (operator_next l ts) l fs ts) (λ acts h. level_opens end l fs ts acts (test_false _ _ (level_test l fs false e) h)) (further_carries end l fs ts (level_test l fs false e) (operator_next l ts) refl))

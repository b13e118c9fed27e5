-- What the machine reads is an expression: each move carries what stands behind it, and so does a whole run.
use Rattle.std.proofs.Common.{◌≡◌, ◌∙◌, sym, ℕ, zero, suc, ◌+◌, List, [], ◌∷◌, ◌++◌, refl, ap, subst, Option, Some, None}
use Rattle.script_grammar.specs.Terminals.{Terminal}
use Rattle.script_grammar.specs.Expressions.{ExprForm, expr_terminals}
use Rattle.expr_machine.specs.declared.frame.Focus.{Focus}
use Rattle.expr_machine.specs.declared.frame.Focus.TheVariants as focus
use Rattle.expr_machine.specs.declared.frame.Frame.{Frame}
use Rattle.expr_machine.specs.declared.frame.Frame.TheVariants as frame
use Rattle.expr_machine.specs.Actions.{Action}
use Rattle.expr_machine.specs.Machine.{Move, moves, finished, stuck, move, whole_move}
use Rattle.expr_machine.specs.Postfix.{expr_actions}
use Rattle.expr_machine.specs.Reading.{after_actions, run_from, run, expr_at, weight}
use Rattle.expr_laws.proofs.Stands.{Stands, Carries}
use Rattle.expr_laws.proofs.Behind.{subscripted_carries, unary_carries, chain_carries, coalesced_carries}
use Rattle.expr_laws.proofs.SoundLevels.{level_carries}
use Rattle.expr_laws.proofs.SoundWholes.{middle_carries, parens_carries, subscript_carries, key_carries, empty_carries, isset_carries}
use Rattle.expr_laws.proofs.SoundItems.{argument_carries, keyed_item_carries, item_carries}
use Rattle.expr_laws.proofs.Places.{place_carries}
use Rattle.expr_laws.proofs.Bracketed.{begin_carries}

whole_carries : (end : List Terminal) (fs : List Frame) (ts : List Terminal) → Carries end (whole_move fs ts) ts (Stands end focus.Whole fs ts)
whole_carries end [] ts = λ e. (e, refl)
whole_carries end (frame.Middle ∷ fs) ts = middle_carries end fs ts
whole_carries end (frame.Assign x n ∷ fs) ts = λ later h. record { left = ts; later = later; reads = refl; does = refl; goes_on = h }
whole_carries end (frame.Update u x n ∷ fs) ts = λ later h. record { left = ts; later = later; reads = refl; does = refl; goes_on = h }
whole_carries end (frame.Parens ∷ fs) ts = parens_carries end fs ts
whole_carries end (frame.Subscript ∷ fs) ts = subscript_carries end fs ts
whole_carries end (frame.Key x n gap ∷ fs) ts = key_carries end x n gap fs ts
whole_carries end (frame.Isset n ∷ fs) ts = isset_carries end n fs ts
whole_carries end (frame.Empty ∷ fs) ts = empty_carries end fs ts
whole_carries end (frame.Argument f n ∷ fs) ts = argument_carries end f n fs ts
whole_carries end (frame.Item b n ∷ fs) ts = item_carries end b n fs ts
whole_carries end (frame.KeyedItem b n ∷ fs) ts = keyed_item_carries end b n fs ts
whole_carries end fs ts = tt

move_carries : (end : List Terminal) (f : Focus) (fs : List Frame) (ts : List Terminal) → Carries end (move f fs ts) ts (Stands end f fs ts)
unfolding move
move_carries end focus.Begin fs ts = begin_carries end fs ts
move_carries end (focus.Place x n gap) fs ts = place_carries end x n gap fs ts
move_carries end focus.Subscripted fs ts = subscripted_carries end fs ts
move_carries end focus.Unary fs ts = unary_carries end fs ts
move_carries end (focus.Operand l) fs ts = level_carries end l fs ts
move_carries end focus.Chain fs ts = chain_carries end fs ts
move_carries end focus.Coalesced fs ts = coalesced_carries end fs ts
move_carries end focus.Whole fs ts = whole_carries end fs ts

-- what a run that found this says of where it began
abbrev pub Says : (List Terminal → List Action → Type 0) → Option (List Action × List Terminal) → Type 0
Says P None = Unit {0}
Says P (Some found) = P found.1 found.0

ran_on : (acts : List Action) (P : List Terminal → List Action → Type 0) (q : Option (List Action × List Terminal)) → Says (λ end later. P end (acts ++ later)) q → Says P (after_actions acts q)
ran_on acts P None h = tt
ran_on acts P (Some found) h = h

carried_on : (acts : List Action) (P Q : List Terminal → List Action → Type 0) (q : Option (List Action × List Terminal)) → ((end : List Terminal) (later : List Action) → P end later → Q end (acts ++ later)) → Says P q → Says (λ end later. Q end (acts ++ later)) q
carried_on acts P Q None f h = tt
carried_on acts P Q (Some found) f h = f found.1 found.0 h

-- a move, and then a run
moved_on : (next : Focus → List Frame → List Terminal → Option (List Action × List Terminal)) (ts : List Terminal) (P : List Terminal → List Action → Type 0) (m : Move) → ((end : List Terminal) → Carries end m ts (P end))
    → ((g : Focus) (gs : List Frame) (us : List Terminal) → Says (λ end acts. Stands end g gs us acts) (next g gs us)) → Says P (run_from next ts m)
moved_on next ts P (moves g gs us acts) carries says = ran_on acts P (next g gs us) (carried_on acts (λ end later. Stands end g gs us later) P (next g gs us) (λ end later h. carries end later h) (says g gs us))
moved_on next ts P finished carries says = carries ts refl
moved_on next ts P stuck carries says = tt

run_says : (n : ℕ) (f : Focus) (fs : List Frame) (ts : List Terminal) → Says (λ end acts. Stands end f fs ts acts) (run n f fs ts)
unfolding run
run_says zero f fs ts = tt
run_says (suc n) f fs ts = moved_on (run n) ts (λ end acts. Stands end f fs ts acts) (move f fs ts) (λ end. move_carries end f fs ts) (λ g gs us. run_says n g gs us)

-- what stands at the front of the whole is an expression
expression : (rest ts : List Terminal) (acts : List Action) → Stands rest focus.Begin [] ts acts → (e : ExprForm) × (expr_terminals e rest ≡ ts) × (expr_actions e [] ≡ acts)
expression rest ts acts h = let p = h.1 in let q = p.goes_on in (h.0, sym (p.reads ∙ ap (expr_terminals h.0) q.0), sym (p.does ∙ ap (expr_actions h.0) q.1))

pub sound : (ts rest : List Terminal) (acts : List Action) → expr_at ts ≡ Some (acts, rest) → (e : ExprForm) × (expr_terminals e rest ≡ ts) × (expr_actions e [] ≡ acts)
sound ts rest acts e = expression rest ts acts (subst (Says (λ end later. Stands end focus.Begin [] ts later)) e (run_says (1 + weight focus.Begin [] ts) focus.Begin [] ts))

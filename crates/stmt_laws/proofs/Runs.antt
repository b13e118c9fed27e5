-- Runs from some place on to the end of a file, with the actions that they do.
use Rattle.std.proofs.Common.{◌≡◌, ℕ, zero, suc, ◌+◌, ◌<◌, ◌≤◌, List, [], ◌∷◌, ◌++◌, Option, Some, None, refl, ap, ◌∙◌, arith}
use Rattle.script_grammar.specs.Terminals.{Terminal}
use Rattle.stmt_machine.specs.declared.frame.Focus.{Focus}
use Rattle.stmt_machine.specs.declared.frame.Focus.TheVariants as focus
use Rattle.stmt_machine.specs.declared.frame.Frame.{Frame}
use Rattle.stmt_machine.specs.Actions.{StmtAction}
use Rattle.stmt_machine.specs.Machine.{Move, moves, finished, stuck, move}
use Rattle.stmt_machine.specs.Reading.{weight, run, run_on, run_from, after_actions}

-- by some number of moves, and no more than the weight of the place allows
pub record Goes (f : Focus) (fs : List Frame) (ts : List Terminal) (acts : List StmtAction) : Type 0 where
  pub count : ℕ
  pub few : count ≤ 1 + weight f fs ts
  pub is : run count f fs ts ≡ Some acts

-- one move more, before the others
pub steps : {f g : Focus} {fs gs : List Frame} {ts us : List Terminal} {acts rest : List StmtAction} → move f fs ts ≡ moves g gs us acts → weight g gs us < weight f fs ts → Goes g gs us rest → Goes f fs ts (acts ++ rest)
unfolding run
steps {acts = acts} e falls goes = record {
  count = suc goes.count;
  few = omega (arith, goes.few);
  is = ap (run_from (run goes.count)) e ∙ ap (after_actions acts) goes.is;
}

-- the end of a file
pub ends : Goes focus.Behind [] [] []
unfolding run move
ends = record { count = 1; few = omega arith; is = refl }

-- another first move to the same place, with one action more before those of the first
swap_after : (x : StmtAction) (a acts : List StmtAction) (rest : Option (List StmtAction)) → after_actions a rest ≡ Some acts → after_actions (x ∷ a) rest ≡ Some (x ∷ acts)
swap_after x a acts None h = absurd cc
swap_after x a acts (Some rest) h = ap (λ o. some_before x o) h
  where
    some_before : StmtAction → Option (List StmtAction) → Option (List StmtAction)
    some_before x None = None
    some_before x (Some rest) = Some (x ∷ rest)

swap_run : (f g h : Focus) (fs gs hs : List Frame) (ts us vs : List Terminal) (x : StmtAction) (a acts : List StmtAction) (n : ℕ) → move f fs ts ≡ moves g gs us a → move h hs vs ≡ moves g gs us (x ∷ a) → run n f fs ts ≡ Some acts → run n h hs vs ≡ Some (x ∷ acts)
unfolding run
swap_run f g h fs gs hs ts us vs x a acts zero e d is = absurd cc
swap_run f g h fs gs hs ts us vs x a acts (suc n) e d is =
    ap (run_from (run n)) d ∙ swap_after x a acts (run n g gs us) (rw e at is)

pub swap : {f g h : Focus} {fs gs hs : List Frame} {ts us vs : List Terminal} {a acts : List StmtAction} (x : StmtAction) → move f fs ts ≡ moves g gs us a → move h hs vs ≡ moves g gs us (x ∷ a) → weight f fs ts ≤ weight h hs vs → Goes f fs ts acts → Goes h hs vs (x ∷ acts)
swap {f = f} {g = g} {h = h} {fs = fs} {gs = gs} {hs = hs} {ts = ts} {us = us} {vs = vs} {a = a} {acts = acts} x e d less goes = record {
  count = goes.count;
  few = omega (arith, goes.few);
  is = swap_run f g h fs gs hs ts us vs x a acts goes.count e d goes.is;
}

-- a run is the same where more moves are allowed
more_after : (a acts : List StmtAction) (r s : Option (List StmtAction)) → ((b : List StmtAction) → r ≡ Some b → s ≡ Some b) → after_actions a r ≡ Some acts → after_actions a s ≡ Some acts
more_after a acts None s more is = absurd cc
more_after a acts (Some b) s more is = ap (after_actions a) (more b refl) ∙ is

more_from : (n m : ℕ) (next : Move) (acts : List StmtAction) → ((f : Focus) (fs : List Frame) (ts : List Terminal) (b : List StmtAction) → run n f fs ts ≡ Some b → run m f fs ts ≡ Some b) → run_from (run n) next ≡ Some acts → run_from (run m) next ≡ Some acts
more_from n m (moves f fs ts a) acts more is = more_after a acts (run n f fs ts) (run m f fs ts) (more f fs ts) is
more_from n m finished acts more is = is
more_from n m stuck acts more is = absurd cc

run_more : (n m : ℕ) → n ≤ m → (f : Focus) (fs : List Frame) (ts : List Terminal) (acts : List StmtAction) → run n f fs ts ≡ Some acts → run m f fs ts ≡ Some acts
unfolding run
run_more zero m h f fs ts acts is = absurd cc
run_more (suc n) zero h f fs ts acts is = absurd (omega arith)
run_more (suc n) (suc m) h f fs ts acts is = more_from n m (move f fs ts) acts (run_more n m (omega arith)) is

pub whole : {f : Focus} {fs : List Frame} {ts : List Terminal} {acts : List StmtAction} → Goes f fs ts acts → run_on f fs ts ≡ Some acts
whole {f = f} {fs = fs} {ts = ts} {acts = acts} goes = run_more goes.count (1 + weight f fs ts) goes.few f fs ts acts goes.is
